use Rattle.std.proofs.Common.{◌≡◌, drop}
use Rattle.script.proofs.WordLaws.{found_in}
use Rattle.script.proofs.one_word.Given as goal

abbrev pub invariant-loop-word : goal.invariant-loop-word
invariant-loop-word l = found_in l.s l.c.at (drop l.word-index l.word-items) ≡ found_in l.s l.c.at l.word-items
