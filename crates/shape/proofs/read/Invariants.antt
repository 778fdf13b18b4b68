use Rattle.std.proofs.Common.{length}
use Rattle.shape.specs.Runs.{runs}
use Rattle.shape.specs.Shape.{row_of}
use Rattle.shape.proofs.LoopLaws.{ReadTo}
use Rattle.shape.proofs.read.Given as goal

abbrev pub invariant-loop-piece : goal.invariant-loop-piece
invariant-loop-piece l = ReadTo l.id l.fn.t l.s l.fn.c.at (runs l.rest) l.p.at (row_of l.row)

abbrev pub decreases-loop-piece : goal.decreases-loop-piece
decreases-loop-piece l = length l.rest
