use Rattle.std.proofs.Common.{take}
use Rattle.token.specs.Put.{Put}
use Rattle.spelling.specs.Spelling.{spelled}
use Rattle.spelling.proofs.put_text.Given as goal

abbrev pub invariant-loop-b : goal.invariant-loop-b
invariant-loop-b l = Put l.initial.out l.out l.at l.p (spelled (take l.b-index l.b-items))
