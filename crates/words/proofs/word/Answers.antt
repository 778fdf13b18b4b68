use Rattle.std.proofs.Common.{sym, ◌∙◌}
use Rattle.token.specs.Literal.{lit_ans}
use Rattle.token.proofs.Told.{told}
use Rattle.words.proofs.WordLaws.{word_turn, word_end}
use Rattle.words.proofs.word.Goals as goal

pub returns-in-Ok : goal.returns-in-Ok
returns-in-Ok c = rw (c.loop-i.invariant, word_turn _ c.loop-i.i _ _ c.loop-i-test.true, ← c.word_of.ensures, told lit_ans c.literal.ensures c.in-Ok.is)

pub loop-i-preserved : goal.loop-i-preserved
loop-i-preserved c = c.loop-i.invariant ∙ word_turn _ c.loop-i.i _ _ c.loop-i-test.true ∙ rw (← c.word_of.ensures, told lit_ans c.literal.ensures c.in_default.is)

pub returns : goal.returns
returns c = sym (c.loop-i.invariant ∙ word_end _ c.loop-i.i _ _ c.loop-i-test.false)
