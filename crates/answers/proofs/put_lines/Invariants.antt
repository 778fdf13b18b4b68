use Rattle.std.proofs.Common.{take}
use Rattle.token.specs.Put.{Put}
use Rattle.answers.specs.Block.{lines_from}
use Rattle.answers.proofs.put_lines.Given as goal

abbrev pub invariant-loop-i : goal.invariant-loop-i
invariant-loop-i g l = Put l.initial.out l.out l.fn.at l.at (lines_from g.line l.used 0 (take l.i l.places))
