use mathlib.Core.Path.{◌∙◌}
use native.Mathlib.Omega.{arith}
use Rattle.token.proofs.Told.{told}
use Rattle.token.proofs.PutLaws.{put_length}
use Rattle.token.specs.Misread.{found_as}
use Rattle.elements.proofs.PlacedLaws.{placed_got, placed_bad}
use Rattle.lists.proofs.EntryLaws.{copying_none, copying_end, copying_bad, copying_more}
use Rattle.lists.proofs.copy_list.Goals as goal

pub loop-last-init : goal.loop-last-init
loop-last-init c = copying_none _ _ c.requires.1 _ _ _ _ _

pub shape_of-out-in-Ok : goal.shape_of-out-in-Ok
shape_of-out-in-Ok c = put_length c.write_end.ensures ∙ put_length c.loop-last.invariant.put

pub returns-in-Ok : goal.returns-in-Ok
returns-in-Ok c =
    copying_end _ _ c.requires.1 _ _ _ _ _ _ _ _ _ c.loop-last.invariant _ _
    (told found_as c.end_at.ensures c.in-Ok.is) _ _ c.write_end.ensures

pub shape_of-out-in_default-step_at : goal.shape_of-out-in_default-step_at
shape_of-out-in_default-step_at c = put_length c.loop-last.invariant.put

pub returns-in_default-step_at : goal.returns-in_default-step_at
returns-in_default-step_at c =
    copying_bad _ _ c.requires.1 _ _ _ _ _ _ _ _ _ c.loop-last.invariant _ _
    (told found_as c.end_at.ensures c.in_default.is) _ _
    (placed_bad _ _ _ _ (told found_as c.step_at.ensures c.in_default-step_at.is))

pub overflow_add-due : goal.overflow_add-due
overflow_add-due c =
    omega (arith, c.loop-last.invariant.far.count, c.loop-last.invariant.far.passed.room, c.requires.0)

pub loop-last-smaller : goal.loop-last-smaller
loop-last-smaller c =
    let m = c.requires.1 _ _ _ _ _ (placed_got _ _ _ _ (told found_as c.step_at.ensures c.in-Ok-step_at.is)) in
    omega (arith, m.forward, m.inside)

pub loop-last-preserved : goal.loop-last-preserved
loop-last-preserved c =
    copying_more _ _ c.requires.1 _ _ _ _ _ _ _ _ _ c.loop-last.invariant _ _
    (told found_as c.end_at.ensures c.in_default.is) _ _ (placed_got _ _ _ _ (told found_as c.step_at.ensures c.in-Ok-step_at.is)) _ c.entry_in-own.ensures _ _
    c.write_element-next.ensures
