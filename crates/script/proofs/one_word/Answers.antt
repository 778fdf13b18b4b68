use Rattle.std.proofs.Common.{sym, ◌∙◌}
use Rattle.script.specs.Script.{one_word_in, other_word_in}
use Rattle.script.proofs.WordLaws.{found_here, found_later, found_nowhere}
use Rattle.script.proofs.one_word.Goals as goal

pub loop-word-preserved : goal.loop-word-preserved
loop-word-preserved c =
    let a = c.args in
    found_later a.s.now a.c.at _ c.loop-word.word-index _ c.loop-word-test.true (sym c.ends_in.ensures ∙ c.if-ends_in.false) ∙ c.loop-word.invariant

pub returns-then-ends_in : goal.returns-then-ends_in
unfolding one_word_in other_word_in
returns-then-ends_in c =
    let a = c.args in
    found_here a.s.now a.c.at _ c.loop-word.word-index _ c.loop-word-test.true (sym c.ends_in.ensures ∙ c.if-ends_in.true) ∙ c.loop-word.invariant

pub returns : goal.returns
unfolding one_word_in other_word_in
returns c =
    let a = c.args in
    found_nowhere a.s.now a.c.at _ c.loop-word.word-index c.loop-word-test.false ∙ c.loop-word.invariant
