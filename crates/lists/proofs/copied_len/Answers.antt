use native.Mathlib.Omega.{arith}
use Rattle.token.proofs.Told.{told}
use Rattle.token.specs.Misread.{found_as}
use Rattle.elements.proofs.PlacedLaws.{placed_got, placed_bad}
use Rattle.lists.proofs.EntryLaws.{measuring_none, measuring_small, measuring_end, measuring_bad, measuring_more}
use Rattle.lists.proofs.copied_len.Goals as goal

pub loop-last-init : goal.loop-last-init
loop-last-init c = measuring_none _ _ c.requires.2 _ _ _

pub overflow_add-result : goal.overflow_add-result
overflow_add-result c =
    omega (arith, measuring_small _ _ c.requires.2 _ _ _ c.requires.0 _ _ _ c.loop-last.invariant, c.end_len.ensures.1)

pub returns-in-Ok : goal.returns-in-Ok
returns-in-Ok c =
    measuring_end _ _ c.requires.2 _ _ _ c.requires.0 _ _ _ c.loop-last.invariant _ _
    (told found_as c.end_at.ensures c.in-Ok.is) _ c.end_len.ensures.0 c.end_len.ensures.1

pub returns-in_default-step_at : goal.returns-in_default-step_at
returns-in_default-step_at c =
    measuring_bad _ _ c.requires.2 _ _ _ c.requires.0 _ _ _ c.loop-last.invariant _ _
    (told found_as c.end_at.ensures c.in_default.is) _ _ (placed_bad _ _ _ _ (told found_as c.step_at.ensures c.in_default-step_at.is))

pub overflow_add-next : goal.overflow_add-next
overflow_add-next c =
    omega (arith, measuring_small _ _ c.requires.2 _ _ _ c.requires.0 _ _ _ c.loop-last.invariant, c.element_len-next.ensures.1)

pub overflow_add-due : goal.overflow_add-due
overflow_add-due c =
    omega (arith, c.loop-last.invariant.far.count, c.loop-last.invariant.far.passed.room, c.requires.1)

pub loop-last-smaller : goal.loop-last-smaller
loop-last-smaller c =
    let m = c.requires.2 _ _ _ _ _ (placed_got _ _ _ _ (told found_as c.step_at.ensures c.in-Ok-step_at.is)) in
    omega (arith, m.forward, m.inside)

pub loop-last-preserved : goal.loop-last-preserved
loop-last-preserved c =
    measuring_more _ _ c.requires.2 _ _ _ c.requires.0 _ _ _ c.loop-last.invariant _ _
    (told found_as c.end_at.ensures c.in_default.is) _ _ (placed_got _ _ _ _ (told found_as c.step_at.ensures c.in-Ok-step_at.is)) _ c.entry_in-own.ensures _
    c.element_len-next.ensures.0 c.element_len-next.ensures.1
