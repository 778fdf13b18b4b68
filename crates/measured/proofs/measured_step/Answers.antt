use mathlib.Core.Path.{sym, ap}
use Rattle.token.specs.Misread.{found_as}
use Rattle.token.proofs.Told.{told}
use Rattle.elements.proofs.PlacedLaws.{placed_got, placed_bad}
use Rattle.measured.specs.Places.{place_read}
use Rattle.measured.proofs.measured_step.Goals as goal

pub returns-in-Ok : goal.returns-in-Ok
returns-in-Ok c = sym (ap place_read (placed_got _ _ _ _ (told found_as c.step_at.ensures c.in-Ok.is)))

pub returns-in-Err : goal.returns-in-Err
returns-in-Err c = sym (ap place_read (placed_bad _ _ _ _ (told found_as c.step_at.ensures c.in-Err.is)))
