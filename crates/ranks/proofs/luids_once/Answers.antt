use mathlib.Core.Path.{refl, sym, ◌∙◌}
use native.Mathlib.Omega.{arith}
use Rattle.ranks.proofs.NumberLaws.{once_stop, once_on, once_past, once_end}
use Rattle.ranks.proofs.luids_once.Goals as goal
use Rattle.ranks.proofs.luids_once.Goals.{else-luid-ne0-via-then-luid-ne0+else-has_luid, else-luid-ne0-via-else-luid-ne0}

pub loop-i-init : goal.loop-i-init
loop-i-init c = refl

pub returns-then-has_luid : goal.returns-then-has_luid
returns-then-has_luid c =
    sym (once_stop _ c.loop-i.i _ (omega arith) c.if-luid-ne0.true (sym c.has_luid.ensures ∙ c.if-has_luid.true)) ∙ c.loop-i.invariant

pub loop-i-preserved : goal.loop-i-preserved
loop-i-preserved c =
    (elim c.else-luid-ne0.branch [
      | else-luid-ne0-via-then-luid-ne0+else-has_luid w ↦ once_on _ c.loop-i.i _ (omega arith) w.if-luid-ne0.true (sym w.has_luid.ensures ∙ w.if-has_luid.false)
      | else-luid-ne0-via-else-luid-ne0 w ↦ once_past _ c.loop-i.i _ (omega arith) w.if-luid-ne0.false
    ])
    ∙ c.loop-i.invariant

pub returns : goal.returns
returns c = sym (once_end _ c.loop-i.i (omega arith)) ∙ c.loop-i.invariant
