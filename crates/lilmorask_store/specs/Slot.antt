-- A slot of a store: an image, its generation, a sum over both, and a mark.
use Rattle.std.specs.Prelude.{ℕ, ◌+◌, cond, List, [], ◌∷◌, ◌++◌, eqb, get_or, take}
use Rattle.image.specs.Four.{four, four_in}
use Rattle.image.specs.Sum.{sum_of}

-- how many bytes a slot has beside its image: four for the generation, four for the sum, and the mark
abbrev pub slot_tail : ℕ
slot_tail = 9

-- the mark of a slot that is whole; any other says that it is off
abbrev pub whole_mark : ℕ
whole_mark = 165

-- an image and its generation are what the sum goes over, and that is 65536 bytes at most
abbrev pub longest_image : ℕ
longest_image = 65532

abbrev pub last_generation : ℕ
last_generation = 4294967295

-- ---- a slot as it is written
abbrev pub body_of : ℕ → List ℕ → List ℕ
body_of g image = image ++ four g

unfoldable pub slot_of : ℕ → List ℕ → List ℕ
slot_of g image = body_of g image ++ (four (sum_of (body_of g image)) ++ (whole_mark ∷ []))

-- ---- what a slot is; a whole one has a generation
pub data Slot : Type 0 where
  Off : Slot
  Whole : ℕ → Slot
  Damaged : Slot

-- ---- a slot of an image of m bytes as it is read: off by its mark; else whole, with its generation, or damaged by its sum
unfoldable pub slot_in : ℕ → List ℕ → Slot
slot_in m s = cond (eqb (get_or s (m + 8) 0) whole_mark) (cond (eqb (four_in s (m + 4)) (sum_of (take (m + 4) s))) (Whole (four_in s m)) Damaged) Off
