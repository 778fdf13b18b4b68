-- The law slot-torn: a power cut while a sealed slot is stored never costs the newest image.
-- A store writes the slot that was sealed, and no other byte, in this order: the mark off, barrier, all in front of the mark, barrier, the mark on, barrier.
-- Assumed of the store: it writes nothing after a barrier before all in front of the barrier is stored.
use Rattle.std.specs.Prelude.{ℕ, ◌+◌, ◌≡◌, List, [], ◌∷◌, ◌++◌, length}
use Rattle.std.proofs.lemmas.List.Edits.{sets}
use Rattle.lilmorask_store.specs.Slot.{whole_mark}
use Rattle.lilmorask_store.specs.Store.{Newest, Sealed, slot_at, newest_in, given, newest_image, seals_image}

-- what a cut leaves of that slot, for images of m bytes: all as it was; the mark off, whatever stands in front of it; all of it as it was sealed
pub data Cut (m : ℕ) : Type 0 where
  early : Cut m
  within : (body : List ℕ) (mark : ℕ) → length body ≡ m + 8 → (mark ≡ whole_mark → ⊥) → Cut m
  late : Cut m

-- that slot, which begins at p, from the slots before and after the call that sealed it
abbrev pub slot_left : (m : ℕ) → Cut m → ℕ → List ℕ → List ℕ → List ℕ
slot_left m early p old new = slot_at m p old
slot_left m (within body mark long off) p old new = body ++ (mark ∷ [])
slot_left m late p old new = slot_at m p new

-- the slots that a cut leaves: those before the call, but for that one
abbrev pub slots_left : (m : ℕ) → Cut m → List ℕ → Sealed → List ℕ
slots_left m c old r = sets old r.told (slot_left m c r.told old r.slots)

-- the slots that count: those before the call, and once the mark is on those after it
abbrev pub slots_meant : (m : ℕ) → Cut m → List ℕ → Sealed → List ℕ
slots_meant m early old r = old
slots_meant m (within body mark long off) old r = old
slots_meant m late old r = r.slots

-- slots that neither call tells apart: the newest image is the same, and so is all that the next seal leaves; by that a store that was cut is tried again
pub record CountsAs (m : ℕ) (a b : List ℕ) : Type 0 where
  pub newest : (lent : List ℕ) → length lent ≡ m → newest_image a lent ≡ newest_image b lent
  pub seals : (image : List ℕ) (at : ℕ) → length image ≡ m → seals_image a image at ≡ seals_image b image at

abbrev pub SlotTorn : Type 0
SlotTorn = (s image : List ℕ) (at : ℕ) (c : Cut (length image)) → (seals_image s image at).number ≡ 0 → CountsAs (length image) (slots_left (length image) c s (seals_image s image at)) (slots_meant (length image) c s (seals_image s image at))

-- ---- and what was sealed is the newest image, one generation after the one before it
abbrev pub generation_of : Newest → ℕ
generation_of Newest.Nothing = 0
generation_of (Newest.First g) = g
generation_of (Newest.Second g) = g
generation_of Newest.Damaged = 0

pub record IsNewest (m : ℕ) (old new image : List ℕ) : Type 0 where
  pub gives : (lent : List ℕ) → length lent ≡ m → newest_image new lent ≡ given 0 image
  pub generation : generation_of (newest_in m new) ≡ generation_of (newest_in m old) + 1

abbrev pub SealedBack : Type 0
SealedBack = (s image : List ℕ) (at : ℕ) → (seals_image s image at).number ≡ 0 → IsNewest (length image) s (seals_image s image at).slots image
