use Rattle.std.proofs.Common.{rules, refl, sym, ap, ◌∙◌, arith}
use Rattle.places.specs.Act.{find}
use Rattle.places.proofs.Choice.{and_both, and_chosen, and_passed}
use Rattle.places.proofs.First.{first_hit, first_miss, first_none}
use Rattle.places.proofs.first_in_use.Goals as goal
use Rattle.places.proofs.first_in_use.Goals.{else-in_use-via-then-in_use+else-passes, else-in_use-via-else-in_use}

pub loop-i-init : goal.loop-i-init
loop-i-init g c = (search rules, λ q t. refl)

pub returns-then-passes-clause-found : goal.returns-then-passes-clause-found
unfolding find
returns-then-passes-clause-found g c =
    let x = c.index-entries-i in
    λ q tells.
    sym (first_hit _ _ x.result c.loop-i.i c.loop-i-test.true
    (and_both _ _ (sym c.in_use.ensures ∙ c.if-in_use.true) (ap q (sym x.is) ∙ sym (tells _ _ c.passes.ensures) ∙ c.if-passes.true)))
    ∙ c.loop-i.invariant.1 q tells

pub loop-i-preserved : goal.loop-i-preserved
loop-i-preserved g c =
    let x = c.index-entries-i in (
      omega arith,
      λ q tells. first_miss _ _ x.result c.loop-i.i c.loop-i-test.true
          (elim c.else-in_use.branch [
            | else-in_use-via-then-in_use+else-passes w ↦ and_chosen _ _ (sym c.in_use.ensures ∙ w.if-in_use.true) ∙ ap q (sym x.is) ∙ sym (tells _ _ w.passes.ensures) ∙ w.if-passes.false
            | else-in_use-via-else-in_use w ↦ and_passed _ _ (sym c.in_use.ensures ∙ w.if-in_use.false)
          ])
          ∙ c.loop-i.invariant.1 q tells,
    )

pub returns-clause-found : goal.returns-clause-found
unfolding find
returns-clause-found g c = λ q tells. sym (first_none _ _ _ (omega arith)) ∙ c.loop-i.invariant.1 q tells
