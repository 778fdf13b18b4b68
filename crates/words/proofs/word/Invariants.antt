use Rattle.std.proofs.Common.{◌≡◌, ◌+◌, ◌-◌}
use Rattle.words.specs.Words.{word_at}
use Rattle.words.proofs.word.Given as goal

abbrev pub invariant-loop-i : goal.invariant-loop-i
invariant-loop-i l = word_at l.n l.k l.s l.c.at ≡ word_at (l.k + l.n - l.i) l.i l.s l.c.at
