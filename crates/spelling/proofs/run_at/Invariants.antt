use Rattle.std.proofs.Common.{◌≡◌, ◌-◌, ◌≤◌}
use Rattle.text.specs.Text.{longest}
use Rattle.spelling.specs.Spelling.{text_at}
use Rattle.spelling.specs.Part.{count_at}
use Rattle.spelling.proofs.LoopLaws.{counted}
use Rattle.spelling.proofs.run_at.Given as goal

abbrev pub invariant-loop-after : goal.invariant-loop-after
invariant-loop-after l = (l.count ≤ longest) × (count_at longest l.s l.fn.c.at ≡ counted l.count (text_at (longest - l.count) l.s l.p.at))

abbrev pub decreases-loop-after : goal.decreases-loop-after
decreases-loop-after l = longest - l.count
