use Rattle.std.proofs.Common.{take}
use Rattle.token.specs.Put.{Put}
use Rattle.image.specs.Four.{fours}
use Rattle.image.proofs.put_fours.Given as goal

abbrev pub invariant-loop-n : goal.invariant-loop-n
invariant-loop-n l = Put l.initial.out l.out l.at l.p (fours (take l.n-index l.ns))
