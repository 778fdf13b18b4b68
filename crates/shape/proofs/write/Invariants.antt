use Rattle.std.proofs.Common.{◌≡◌, List, ℕ, length}
use Rattle.token.specs.Put.{Put}
use Rattle.shape.specs.Runs.{runs}
use Rattle.shape.specs.Shape.{said_of}
use Rattle.shape.proofs.LoopLaws.{WroteTo}
use Rattle.shape.proofs.write.Given as goal

abbrev pub invariant-loop-piece : goal.invariant-loop-piece
invariant-loop-piece l = (length l.out ≡ length l.initial.out) × ((pre : List ℕ) × Put l.initial.out l.out l.fn.at l.p pre × WroteTo l.id (said_of l.row) l.fn.t (runs l.rest) pre)

abbrev pub decreases-loop-piece : goal.decreases-loop-piece
decreases-loop-piece l = length l.rest
