use Rattle.std.proofs.Common.{◌≡◌, drop}
use Rattle.spelling.specs.Spelling.{references, first_reference, reference_at}
use Rattle.spelling.proofs.reference.Given as goal

abbrev pub invariant-loop-b : goal.invariant-loop-b
invariant-loop-b l = reference_at l.s l.c.at ≡ first_reference (drop l.b-index references) l.s l.c.at
