use Prim.Native.Nat.{◌+◌, ◌≤◌}
use mathlib.Core.Path.{◌≡◌}
use lib.ListN.{length}
use Rattle.token.specs.Number.{digits}
use Rattle.token.proofs.number_len.Given as goal

abbrev pub invariant-loop-m : goal.invariant-loop-m
invariant-loop-m l = (l.k + length (digits l.m) ≡ length (digits l.n) + 1) × (l.m ≤ l.n)

abbrev pub decreases-loop-m : goal.decreases-loop-m
decreases-loop-m l = l.m
