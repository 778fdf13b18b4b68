-- A fresh press is well-formed, and a press that was made has a number of its own. Assumes nothing.
use Prim.Native.Nat.{ℕ, ◌≤◌}
use Rattle.places.proofs.TableLaws.{none_in, sound_fresh}
use Rattle.text.specs.Wording.{last_station}
use Rattle.cards.specs.Press.{no_card, blank_card, fresh_press, luid_of, WellFormed}

pub fresh_kept : (station : ℕ) → station ≤ last_station → WellFormed (fresh_press station).cards
fresh_kept station h = record { station = h; luids = sound_fresh luid_of no_card blank_card; cards = λ i e. absurd (none_in i e) }
