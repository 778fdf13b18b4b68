use Rattle.std.proofs.Common.{◌≤◌, ◌-◌, length}
use Rattle.token.proofs.SignLaws.{first}
use Rattle.token.proofs.NumberLaws.{Scanned}
use Rattle.token.proofs.number.Given as goal

abbrev pub invariant-loop-d : goal.invariant-loop-d
invariant-loop-d l = (l.v ≤ l.hi) × Scanned l.s (first l.s l.c.at) l.end l.v

abbrev pub decreases-loop-d : goal.decreases-loop-d
decreases-loop-d l = length l.s - l.end
