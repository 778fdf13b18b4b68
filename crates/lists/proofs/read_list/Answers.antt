use native.Mathlib.Omega.{arith}
use Rattle.std.proofs.lemmas.Result.{err_from_is_err_and}
use Rattle.token.proofs.Told.{told}
use Rattle.token.specs.Misread.{found_as}
use Rattle.elements.proofs.PlacedLaws.{placed_got, placed_bad}
use Rattle.lists.proofs.EntryLaws.{blanks, reading_none, reading_end, reading_bad, reading_room, reading_full}
use Rattle.lists.proofs.read_list.Goals as goal
use Rattle.lists.proofs.read_list.Goals.{then-n-lt-KEPT, else-n-lt-KEPT}

pub loop-last-init : goal.loop-last-init
loop-last-init c = reading_none _ _ c.requires.1 _ _ _ _ (blanks c.blank-items.ensures)

pub returns-in-Ok : goal.returns-in-Ok
returns-in-Ok c =
    reading_end _ _ c.requires.1 _ _ _ _ _ _ c.loop-last.invariant _ _
    (told found_as c.end_at.ensures c.in-Ok.is)

pub returns-in_err-x : goal.returns-in_err-x
returns-in_err-x c =
    let p = err_from_is_err_and c.from_residual.result c.from_residual.ensures.1 in
    rw (p.1, p.2) (reading_bad _ _ c.requires.1 _ _ _ _ _ _ c.loop-last.invariant _ _
    (told found_as c.end_at.ensures c.in_default.is) _ _
    (placed_bad _ _ _ _ (told found_as c.step_at.ensures c.in_err-x.was)))

pub loop-last-smaller : goal.loop-last-smaller
loop-last-smaller c =
    let m = c.requires.1 _ _ _ _ _ (placed_got _ _ _ _ (told found_as c.step_at.ensures c.in_ok-x.was)) in
    omega (arith, m.forward, m.inside)

pub loop-last-preserved : goal.loop-last-preserved
loop-last-preserved c =
    let M = c.requires.1 in
    let r = c.loop-last.invariant in
    let e = told found_as c.end_at.ensures c.in_default.is in
    let h = placed_got _ _ _ _ (told found_as c.step_at.ensures c.in_ok-x.was) in
    elim c.if-n-lt-KEPT.branch [
      | then-n-lt-KEPT w ↦ rw w.items-is (reading_room _ _ M _ _ _ _ _ _ r _ _ e _ _ h _ w.entry_in.ensures w.if-n-lt-KEPT.true)
      | else-n-lt-KEPT w ↦ rw w.items-is (reading_full _ _ M _ _ _ _ _ _ r _ _ e _ _ h w.if-n-lt-KEPT.false)
    ]
