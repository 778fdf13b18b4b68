use Rattle.std.proofs.Common.{refl, sym, ◌∙◌}
use Rattle.token.specs.Literal.{lit_ans}
use Rattle.token.proofs.Told.{told}
use Rattle.spelling.specs.Spelling.{reference_at}
use Rattle.spelling.proofs.ByteLaws.{next_reference}
use Rattle.spelling.proofs.reference.Goals as goal

pub loop-b-init : goal.loop-b-init
unfolding reference_at
loop-b-init c = refl

pub returns-in-Ok : goal.returns-in-Ok
returns-in-Ok c = sym (c.loop-b.invariant ∙ next_reference _ _ _ c.loop-b-test.true ∙ rw (← c.reference_to.ensures, told lit_ans c.literal.ensures c.in-Ok.is))

pub loop-b-preserved : goal.loop-b-preserved
loop-b-preserved c = c.loop-b.invariant ∙ next_reference _ _ _ c.loop-b-test.true ∙ rw (← c.reference_to.ensures, told lit_ans c.literal.ensures c.in_default.is)
