-- A store of two slots, one after the other: which is the newest, what the two calls leave, and their numbers.
use Rattle.std.specs.Prelude.{ℕ, ◌+◌, ◌*◌, Bool, cond, ◌&&◌, List, eqb, leb, ltb, length, take, drop}
use Rattle.std.proofs.lemmas.List.Edits.{sets}
use Rattle.lilmorask_store.specs.Slot.{Slot, slot_tail, longest_image, last_generation, slot_of, slot_in}

-- which of two slots is the newest, and its generation
pub data Newest : Type 0 where
  Nothing : Newest
  First : ℕ → Newest
  Second : ℕ → Newest
  Damaged : Newest

-- where the next image goes, and its generation; or why there is no place for it
pub data Next : Type 0 where
  At : ℕ → ℕ → Next
  Refused : ℕ → Next

-- ---- the numbers beside 0
-- no generation is left
abbrev pub spent : ℕ
spent = 2

-- nothing is stored, or the lent lengths do not fit
abbrev pub no_image : ℕ
no_image = 10

abbrev pub damaged : ℕ
damaged = 11

-- n bytes are two slots of an image of m bytes; an image of more than 65532 bytes fits nowhere
abbrev pub fit : ℕ → ℕ → Bool
fit n m = leb m longest_image && eqb n (2 * (m + slot_tail))

-- ---- the newest of two slots; one that is damaged is not passed over, since it may have been the newest
abbrev pub newest_alone : Slot → Newest
newest_alone Slot.Off = Newest.Nothing
newest_alone (Slot.Whole h) = Newest.Second h
newest_alone Slot.Damaged = Newest.Damaged

abbrev pub newest_beside : ℕ → Slot → Newest
newest_beside g Slot.Off = Newest.First g
newest_beside g (Slot.Whole h) = cond (ltb g h) (Newest.Second h) (Newest.First g)
newest_beside g Slot.Damaged = Newest.Damaged

abbrev pub newest_of : Slot → Slot → Newest
newest_of Slot.Off b = newest_alone b
newest_of (Slot.Whole g) b = newest_beside g b
newest_of Slot.Damaged b = Newest.Damaged

-- the slot that begins at a place, and the image in it
abbrev pub slot_at : ℕ → ℕ → List ℕ → List ℕ
slot_at m p s = take (m + slot_tail) (drop p s)

abbrev pub image_at : ℕ → ℕ → List ℕ → List ℕ
image_at m p s = take m (drop p s)

unfoldable pub newest_in : ℕ → List ℕ → Newest
newest_in m s = newest_of (slot_in m (slot_at m 0 s)) (slot_in m (slot_at m (m + slot_tail) s))

-- ---- lil_slots_newest: a number, and the lent image
pub record Given : Type 0 where
  pub number : ℕ
  pub image : List ℕ

abbrev pub given : ℕ → List ℕ → Given
given n image = record { number = n; image = image }

abbrev pub given_by : Newest → List ℕ → List ℕ → Given
given_by Newest.Nothing s lent = given no_image lent
given_by (Newest.First g) s lent = given 0 (image_at (length lent) 0 s)
given_by (Newest.Second g) s lent = given 0 (image_at (length lent) (length lent + slot_tail) s)
given_by Newest.Damaged s lent = given damaged lent

unfoldable pub newest_image : List ℕ → List ℕ → Given
newest_image s lent = cond (fit (length s) (length lent)) (given_by (newest_in (length lent) s) s lent) (given no_image lent)

-- ---- lil_slots_seal: a number, the lent slots, and where the sealed slot begins
-- the slot that is not the newest, with the next generation
abbrev pub next_after : ℕ → ℕ → Next
next_after p g = cond (ltb g last_generation) (Next.At p (g + 1)) (Next.Refused spent)

abbrev pub next_of : ℕ → Newest → Next
next_of m Newest.Nothing = Next.At 0 1
next_of m (Newest.First g) = next_after (m + slot_tail) g
next_of m (Newest.Second g) = next_after 0 g
next_of m Newest.Damaged = Next.Refused damaged

pub record Sealed : Type 0 where
  pub number : ℕ
  pub slots : List ℕ
  pub told : ℕ

abbrev pub sealed : ℕ → List ℕ → ℕ → Sealed
sealed n s at = record { number = n; slots = s; told = at }

abbrev pub sealed_by : Next → List ℕ → List ℕ → ℕ → Sealed
sealed_by (Next.At p g) s image at = sealed 0 (sets s p (slot_of g image)) p
sealed_by (Next.Refused n) s image at = sealed n s at

unfoldable pub seals_image : List ℕ → List ℕ → ℕ → Sealed
seals_image s image at = cond (fit (length s) (length image)) (sealed_by (next_of (length image) (newest_in (length image) s)) s image at) (sealed no_image s at)
