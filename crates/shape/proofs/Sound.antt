-- The tests that a shape has to pass: each is computed once for each shape of the written form.
-- Assumes nothing.
use Prim.Native.Nat.{ℕ}
use mathlib.Core.Bool.{Bool, true, false, cond, ◌&&◌, not}
use mathlib.Core.List.{List, [], ◌∷◌}
use lib.Dec.{eqb, leb, ltb}
use lib.ListN.{get_or}
use Rattle.token.specs.Number.{is_digit}
use Rattle.words.proofs.WordTests.{told_apart}
use Rattle.shape.specs.Row.{slots}
use Rattle.shape.specs.Marks.{Fixed, due, exactly, Field, byte, fixed, num, word, text}

-- ---- each field but a byte has a byte after it that it cannot go on into, and no number is too long to be read
-- a number of 32 bits
abbrev pub narrow : Fixed → Bool
narrow due = true
narrow (exactly n) = leb n 4294967295

abbrev pub ends : Field → ℕ → Bool
ends (byte c) b = true
ends (fixed w) b = not (is_digit b) && narrow w
ends (num k lo hi) b = not (is_digit b) && leb hi 4294967295
ends (word k n from) b = eqb b 34 && told_apart n from n from
ends text b = true

abbrev pub is_byte : Field → Bool
is_byte (byte b) = true
is_byte (fixed w) = false
is_byte (num k lo hi) = false
is_byte (word k n from) = false
is_byte text = false

abbrev pub begun : List Field → Bool
begun [] = false
begun (f ∷ l) = is_byte f

abbrev pub follows : Field → List Field → Bool
follows f [] = is_byte f
follows f (byte b ∷ l) = ends f b
follows f (fixed w ∷ l) = is_byte f
follows f (num k lo hi ∷ l) = is_byte f
follows f (word k n from ∷ l) = is_byte f
follows f (text ∷ l) = is_byte f

abbrev pub parted : List Field → Bool
parted [] = true
parted (f ∷ l) = follows f l && parted l

-- ---- no slot is filled twice
abbrev pub fills_num : ℕ → Field → Bool
fills_num k (byte b) = false
fills_num k (fixed w) = false
fills_num k (num j lo hi) = eqb k j
fills_num k (word j n from) = eqb k j
fills_num k text = false

abbrev pub fills_text : Field → Bool
fills_text (byte b) = false
fills_text (fixed w) = false
fills_text (num j lo hi) = false
fills_text (word j n from) = false
fills_text text = true

-- no field of l has what f asks of it
abbrev pub none : (Field → Bool) → List Field → Bool
none f [] = true
none f (g ∷ l) = not (f g) && none f l

abbrev pub fresh : Field → List Field → Bool
fresh (byte b) l = true
fresh (fixed w) l = true
fresh (num k lo hi) l = ltb k slots && none (fills_num k) l
fresh (word k n from) l = ltb k slots && none (fills_num k) l
fresh text l = none fills_text l

abbrev pub distinct : List Field → Bool
distinct [] = true
distinct (f ∷ l) = fresh f l && distinct l

-- ---- the whole test: a byte begins it, its fields are parted, and no slot is filled twice
abbrev pub sound : List Field → Bool
sound l = begun l && parted l && distinct l

-- ---- two shapes that begin alike and then have two different bytes
abbrev pub tag : Field → List ℕ
tag (byte b) = 0 ∷ b ∷ []
tag (fixed due) = 1 ∷ []
tag (fixed (exactly n)) = 5 ∷ n ∷ []
tag (num k lo hi) = 2 ∷ k ∷ lo ∷ hi ∷ []
tag (word k n from) = 3 ∷ k ∷ n ∷ from ∷ []
tag text = 4 ∷ []

abbrev pub untag : List ℕ → Field
untag l =
    cond (eqb (get_or l 0 0) 0) (byte (get_or l 1 0))
    (cond (eqb (get_or l 0 0) 1) (fixed due)
    (cond (eqb (get_or l 0 0) 5) (fixed (exactly (get_or l 1 0)))
    (cond (eqb (get_or l 0 0) 2) (num (get_or l 1 0) (get_or l 2 0) (get_or l 3 0))
    (cond (eqb (get_or l 0 0) 3) (word (get_or l 1 0) (get_or l 2 0) (get_or l 3 0)) text))))

abbrev pub same_list : List ℕ → List ℕ → Bool
same_list [] [] = true
same_list [] (y ∷ m) = false
same_list (x ∷ l) [] = false
same_list (x ∷ l) (y ∷ m) = eqb x y && same_list l m

unfoldable pub apart : List Field → List Field → Bool
apart [] m = false
apart (f ∷ l) [] = false
apart (f ∷ l) (g ∷ m) = cond (same_list (tag f) (tag g)) (apart l m) (is_byte f && is_byte g)
