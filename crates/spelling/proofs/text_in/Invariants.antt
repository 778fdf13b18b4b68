use Rattle.std.proofs.Common.{◌≤◌}
use Rattle.text.specs.Text.{longest}
use Rattle.spelling.proofs.LoopLaws.{Keeping}
use Rattle.spelling.proofs.text_in.Given as goal

abbrev pub invariant-loop-n : goal.invariant-loop-n
invariant-loop-n l = (l.most ≤ longest) × Keeping l.s l.fn.x.start l.most l.bytes l.n l.p.at
