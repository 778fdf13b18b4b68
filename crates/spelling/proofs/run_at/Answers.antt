use Rattle.std.proofs.Common.{arith, sym, ◌∙◌, ◌<◌}
use Rattle.token.specs.Misread.{found_as}
use Rattle.token.proofs.Told.{told}
use Rattle.text.specs.Text.{longest}
use Rattle.spelling.proofs.LoopLaws.{count_none, count_over, count_long, count_more}
use Rattle.spelling.proofs.run_at.Goals as goal

pub loop-after-init : goal.loop-after-init
loop-after-init c = (omega arith, count_none _ _)

pub returns-then-count-eq-LONGEST : goal.returns-then-count-eq-LONGEST
returns-then-count-eq-LONGEST c =
    let l = c.loop-after in
    sym (l.invariant.1 ∙ count_long _ l.p.at l.count _ _ (told found_as c.byte_at.ensures c.in-Ok.is) (omega (arith, c.if-count-eq-LONGEST.true)))

pub overflow_add-count : goal.overflow_add-count
overflow_add-count c = omega (arith, c.loop-after.invariant.0)

pub loop-after-smaller : goal.loop-after-smaller
loop-after-smaller c = omega (arith, c.loop-after.invariant.0, c.if-count-eq-LONGEST.false)

pub loop-after-preserved : goal.loop-after-preserved
loop-after-preserved c =
    let l = c.loop-after in
    let h : l.count < longest = omega (arith, l.invariant.0, c.if-count-eq-LONGEST.false) in
    (omega arith, l.invariant.1 ∙ count_more _ l.p.at l.count _ _ (told found_as c.byte_at.ensures c.in-Ok.is) h)

pub returns : goal.returns
returns c =
    let l = c.loop-after in
    sym (l.invariant.1 ∙ count_over _ l.p.at l.count _ _ _ (told found_as c.byte_at.ensures c.in_default.is))
