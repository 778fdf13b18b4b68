-- A shape of which a part is left out: bytes, and a number that may be 0. What reads by it has a written form by the whole one, with 0 for that number.
-- Assumes nothing.
use Prim.Native.Nat.{ℕ}
use mathlib.Core.Path.{◌≡◌, refl, sym, ap, ◌∙◌, subst}
use mathlib.Core.Bool.{Bool, true, false, false≢true, cond, ◌&&◌, not}
use mathlib.Core.List.{List, [], ◌∷◌}
use native.Mathlib.Omega.{arith}
use lib.ListN.{set}
use lib.Seq.{set-get_or}
use lib.Dec.{eqb}
use borrow.Author.Tests.{eqb-true}
use Rattle.token.proofs.NumberLaws.{both}
use Rattle.shape.specs.Row.{Row, blank, num_of}
use Rattle.shape.specs.Marks.{Field, byte, fixed, num, word, text}
use Rattle.shape.specs.Shape.{GoodOne, copy_one, GoodShape, copy_shape, shape_c}
use Rattle.shape.proofs.Sound.{tag, same_list, fills_num, none}
use Rattle.shape.proofs.CopyLaws.{one_num, blank_num, zero_at}
use Rattle.shape.proofs.ApartLaws.{same_field}

-- a field that may be left out: a byte, or the number of slot k, if that may be 0
abbrev pub may_lack : ℕ → Field → Bool
may_lack k (byte b) = true
may_lack k (fixed w) = false
may_lack k (num j lo hi) = eqb j k && eqb lo 0
may_lack k (word j n from) = false
may_lack k text = false

-- m is l without some fields that may be left out
unfoldable pub lacks : ℕ → List Field → List Field → Bool
lacks k [] [] = true
lacks k [] (g ∷ m) = false
lacks k (f ∷ l) [] = may_lack k f && lacks k l []
lacks k (f ∷ l) (g ∷ m) = cond (same_list (tag f) (tag g)) (lacks k l m) (may_lack k f && lacks k l (g ∷ m))

-- and has no mark for slot k
abbrev pub left_out : ℕ → List Field → List Field → Bool
left_out k l m = lacks k l m && none (fills_num k) m

module _ (k id : ℕ) (r : Row) (z : num_of r k ≡ 0) where
  -- a field that is left out has a written form, and copies nothing
  lacked_good : (f : Field) → may_lack k f ≡ true → GoodOne id r f
  lacked_good (byte b) e = tt
  lacked_good (fixed w) e = absurd (false≢true e)
  lacked_good (num j lo hi) e =
      let b = both (eqb j k) (eqb lo 0) e in
      let same : num_of r j ≡ 0 = ap (num_of r) (eqb-true j k b.0) ∙ z in
      let low = eqb-true lo 0 b.1 in
      (omega (arith, same, low), omega (arith, same))
  lacked_good (word j n from) e = absurd (false≢true e)
  lacked_good text e = absurd (false≢true e)

  lacked_copy : (f : Field) (x : Row) → may_lack k f ≡ true → num_of x k ≡ 0 → copy_one r f x ≡ x
  lacked_copy (byte b) x e y = refl
  lacked_copy (fixed w) x e y = absurd (false≢true e)
  lacked_copy (num j lo hi) x e y =
      let same = eqb-true j k (both (eqb j k) (eqb lo 0) e).0 in
      let own : num_of r j ≡ num_of x j = ap (num_of r) same ∙ z ∙ sym (ap (num_of x) same ∙ y) in
      ap (λ (n : ℕ). record { nums = set x.nums j n; text = x.text }) own ∙ ap (λ (l : List ℕ). record { nums = l; text = x.text }) (set-get_or x.nums j 0)
  lacked_copy (word j n from) x e y = absurd (false≢true e)
  lacked_copy text x e y = absurd (false≢true e)

  whole_good : (l m : List Field) → lacks k l m ≡ true → GoodShape id r m → GoodShape id r l
  unfolding lacks
  whole_good [] m e g = tt
  whole_good (f ∷ l) [] e g = let b = both (may_lack k f) (lacks k l []) e in (lacked_good f b.0, whole_good l [] b.1 g)
  whole_good (f ∷ l) (h ∷ m) e g = go (λ i. whole_good l m i g.1) (λ i. whole_good l (h ∷ m) i g) (same_list (tag f) (tag h)) refl e
    where
      go : (lacks k l m ≡ true → GoodShape id r l) → (lacks k l (h ∷ m) ≡ true → GoodShape id r l) → (t : Bool) → same_list (tag f) (tag h) ≡ t
          → cond t (lacks k l m) (may_lack k f && lacks k l (h ∷ m)) ≡ true → GoodOne id r f × GoodShape id r l
      go on past true i j = (subst (GoodOne id r) (sym (same_field f h i)) g.0, on j)
      go on past false i j = let b = both (may_lack k f) (lacks k l (h ∷ m)) j in (lacked_good f b.0, past b.1)

  whole_copy : (l m : List Field) (x : Row) → lacks k l m ≡ true → none (fills_num k) m ≡ true → num_of x k ≡ 0 → copy_shape r l x ≡ copy_shape r m x
  unfolding lacks
  whole_copy [] [] x e n y = refl
  whole_copy [] (h ∷ m) x e n y = absurd (false≢true e)
  whole_copy (f ∷ l) [] x e n y = let b = both (may_lack k f) (lacks k l []) e in ap (copy_shape r l) (lacked_copy f x b.0 y) ∙ whole_copy l [] x b.1 n y
  whole_copy (f ∷ l) (h ∷ m) x e n y =
      let c = both (not (fills_num k h)) (none (fills_num k) m) n in
      go (λ i. whole_copy l m (copy_one r h x) i c.1 (one_num k r h x c.0 ∙ y)) (λ i. whole_copy l (h ∷ m) x i n y) (same_list (tag f) (tag h)) refl e
    where
      go : (lacks k l m ≡ true → copy_shape r l (copy_one r h x) ≡ copy_shape r m (copy_one r h x)) → (lacks k l (h ∷ m) ≡ true → copy_shape r l x ≡ copy_shape r m (copy_one r h x))
          → (t : Bool) → same_list (tag f) (tag h) ≡ t → cond t (lacks k l m) (may_lack k f && lacks k l (h ∷ m)) ≡ true → copy_shape r l (copy_one r f x) ≡ copy_shape r m (copy_one r h x)
      go on past true i j = ap (λ (g : Field). copy_shape r l (copy_one r g x)) (same_field f h i) ∙ on j
      go on past false i j = let b = both (may_lack k f) (lacks k l (h ∷ m)) j in ap (copy_shape r l) (lacked_copy f x b.0 y) ∙ past b.1

-- a row in the written form of the shape with a part left out is in that of the whole one
pub whole : (k : ℕ) (l m : List Field) (id : ℕ) → left_out k l m ≡ true → (r : Row) → (shape_c m id).good r → (shape_c l id).good r
whole k l m id e r g =
    let b = both (lacks k l m) (none (fills_num k) m) e in
    let z = zero_at k r m g.1 b.1 in
    (whole_good k id r z l m b.0 g.0, whole_copy k id r z l m blank b.0 b.1 (blank_num k) ∙ g.1)
