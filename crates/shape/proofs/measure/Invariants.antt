use Rattle.std.proofs.Common.{◌≡◌, ◌≤◌, ◌+◌, ◌*◌, List, ℕ, length}
use Rattle.shape.specs.Runs.{runs}
use Rattle.shape.specs.Shape.{said_of}
use Rattle.shape.proofs.LoopLaws.{WroteTo}
use Rattle.shape.proofs.measure.Given as goal

abbrev pub invariant-loop-piece : goal.invariant-loop-piece
invariant-loop-piece l = (l.len + length l.rest * 133 ≤ length l.fn.t * 133) × ((pre : List ℕ) × (l.len ≡ length pre) × WroteTo l.id (said_of l.row) l.fn.t (runs l.rest) pre)

abbrev pub decreases-loop-piece : goal.decreases-loop-piece
decreases-loop-piece l = length l.rest
