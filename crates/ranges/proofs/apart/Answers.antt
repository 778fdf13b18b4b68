use mathlib.Core.Path.{sym, ap, ◌∙◌}
use native.Mathlib.Omega.{arith}
use borrow.Author.Rules.{rules}
use Rattle.places.proofs.Choice.{chosen, passed}
use Rattle.ranges.specs.Range.{once}
use Rattle.ranges.proofs.UsedLaws.{row_turn, row_whole}
use Rattle.ranges.proofs.apart.Goals as goal
use Rattle.ranges.proofs.apart.Goals.{then-in_use, else-in_use}

pub loop-i-preserved : goal.loop-i-preserved
loop-i-preserved g c =
    let a = c.args in
    let l = c.loop-i in
    let x = c.index-entries-i in (
      search rules,
      λ num h.
          row_turn num a.used x.result a.entries.now l.row l.i c.if-in_use.row c.loop-i-test.true (omega (arith, l.invariant.0, c.requires.long))
          (elim c.if-in_use.branch [
            | then-in_use w ↦ w.row-is ∙ h x.result w.number.result w.number.ensures ∙ ap num x.is ∙ sym (chosen _ _ _ (sym c.in_use.ensures ∙ w.if-in_use.true))
            | else-in_use w ↦ w.row-is ∙ sym (passed _ _ _ (sym c.in_use.ensures ∙ w.if-in_use.false))
          ])
          (l.invariant.1 num h),
    )

pub returns : goal.returns
returns g c num h =
    let a = c.args in
    let l = c.loop-i in
    c.stand_once.ensures ∙ ap once (row_whole num a.used a.entries.now l.row l.i c.loop-i-test.false (l.invariant.0 ∙ sym c.requires.long) (l.invariant.1 num h))
