-- Of a shape only the marks of values count: its bytes, the CmdID that is due and the other fixed numbers have none.
-- Assumes nothing.
use Prim.Native.Nat.{ℕ, ◌≤◌}
use mathlib.Core.Path.{◌≡◌, refl, ◌∙◌}
use mathlib.Core.List.{List, [], ◌∷◌}
use Rattle.token.specs.Number.{Spellable}
use Rattle.token.proofs.LengthLaws.{spellable}
use Rattle.shape.specs.Row.{Row, blank}
use Rattle.shape.specs.Marks.{due, exactly, Field, byte, fixed, num, word, text}
use Rattle.shape.specs.Shape.{GoodShape, copy_one, copy_shape, shape_c}

-- the fields that have a value
abbrev pub marks : List Field → List Field
marks [] = []
marks (byte b ∷ l) = marks l
marks (fixed w ∷ l) = marks l
marks (num k lo hi ∷ l) = num k lo hi ∷ marks l
marks (word k n from ∷ l) = word k n from ∷ marks l
marks (text ∷ l) = text ∷ marks l

good_by : (id : ℕ) (r : Row) (l : List Field) → Spellable id → GoodShape id r (marks l) → GoodShape id r l
good_by id r [] h g = tt
good_by id r (byte b ∷ l) h g = (tt, good_by id r l h g)
good_by id r (fixed due ∷ l) h g = (h, good_by id r l h g)
good_by id r (fixed (exactly n) ∷ l) h g = (tt, good_by id r l h g)
good_by id r (num k lo hi ∷ l) h g = (g.0, good_by id r l h g.1)
good_by id r (word k n from ∷ l) h g = (g.0, good_by id r l h g.1)
good_by id r (text ∷ l) h g = (g.0, good_by id r l h g.1)

copied_by : (r : Row) (l : List Field) (x : Row) → copy_shape r l x ≡ copy_shape r (marks l) x
copied_by r [] x = refl
copied_by r (byte b ∷ l) x = copied_by r l x
copied_by r (fixed w ∷ l) x = copied_by r l x
copied_by r (num k lo hi ∷ l) x = copied_by r l (copy_one r (num k lo hi) x)
copied_by r (word k n from ∷ l) x = copied_by r l (copy_one r (word k n from) x)
copied_by r (text ∷ l) x = copied_by r l (copy_one r text x)

-- a row whose values have their ranges, and which has no others, has a written form
pub by_marks : (l : List Field) (id : ℕ) (r : Row) → id ≤ 4294967295 → GoodShape id r (marks l) → copy_shape r (marks l) blank ≡ r → (shape_c l id).good r
by_marks l id r h g c = (good_by id r l (spellable id h) g, copied_by r l blank ∙ c)
