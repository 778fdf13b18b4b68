-- What copying by a shape leaves alone: the slots that it has no mark for. What it copies as a text keeps the text rule.
-- Assumes nothing.
use Prim.Native.Nat.{ℕ, zero, suc}
use mathlib.Core.Path.{◌≡◌, refl, sym, ap, ◌∙◌, subst}
use mathlib.Core.Bool.{Bool, true, false≢true, not}
use mathlib.Core.List.{List, [], ◌∷◌}
use lib.ListN.{length, get_or, replicate, length-set}
use lib.Seq.{get_or-set_other}
use lib.Dec.{eqb}
use borrow.Author.Tests.{eqb-false, not-true}
use Rattle.token.specs.Number.{Spellable}
use Rattle.token.proofs.NumberLaws.{both}
use Rattle.text.specs.Text.{all_ok, text_ok, GoodText}
use Rattle.shape.specs.Row.{Row, slots, blank, num_of}
use Rattle.shape.specs.Marks.{due, exactly, Field, byte, fixed, num, word, text}
use Rattle.shape.specs.Shape.{copy_one, copy_shape, GoodOne, GoodShape, shape_c}
use Rattle.shape.proofs.Sound.{fills_num, fills_text, none}

-- what no field changes, the shape does not
copy_all : {A : Type 0} (fills : Field → Bool) (look : Row → A) (r : Row) → ((f : Field) (x : Row) → not (fills f) ≡ true → look (copy_one r f x) ≡ look x)
    → (l : List Field) (x : Row) → none fills l ≡ true → look (copy_shape r l x) ≡ look x
copy_all fills look r h [] x e = refl
copy_all fills look r h (f ∷ l) x e = let b = both (not (fills f)) (none fills l) e in copy_all fills look r h l (copy_one r f x) b.1 ∙ h f x b.0

pub one_num : (k : ℕ) (r : Row) (f : Field) (x : Row) → not (fills_num k f) ≡ true → num_of (copy_one r f x) k ≡ num_of x k
one_num k r (byte b) x e = refl
one_num k r (fixed w) x e = refl
one_num k r (num j lo hi) x e = get_or-set_other x.nums j k (num_of r j) 0 (eqb-false k j (not-true (eqb k j) e))
one_num k r (word j n from) x e = get_or-set_other x.nums j k (num_of r j) 0 (eqb-false k j (not-true (eqb k j) e))
one_num k r text x e = refl

pub copy_num : (k : ℕ) (r : Row) (l : List Field) (x : Row) → none (fills_num k) l ≡ true → num_of (copy_shape r l x) k ≡ num_of x k
copy_num k r l x e = copy_all (fills_num k) (λ (z : Row). num_of z k) r (one_num k r) l x e

-- a blank row has 0 everywhere
zeros : (n k : ℕ) → ◌≡◌ {A = ℕ} (get_or (replicate n 0) k 0) 0
zeros zero k = refl
zeros (suc n) zero = refl
zeros (suc n) (suc k) = zeros n k

pub blank_num : (k : ℕ) → num_of blank k ≡ 0
blank_num k = zeros slots k

-- and so has a row of the shape l in a slot that l has no mark for
pub zero_at : (k : ℕ) (r : Row) (l : List Field) → copy_shape r l blank ≡ r → none (fills_num k) l ≡ true → num_of r k ≡ 0
zero_at k r l only e = ap (λ (z : Row). num_of z k) (sym only) ∙ copy_num k r l blank e ∙ blank_num k

one_text : (r : Row) (f : Field) (x : Row) → not (fills_text f) ≡ true → (copy_one r f x).text ≡ x.text
one_text r (byte b) x e = refl
one_text r (fixed w) x e = refl
one_text r (num j lo hi) x e = refl
one_text r (word j n from) x e = refl
one_text r text x e = absurd (false≢true e)

pub copy_text : (r : Row) (l : List Field) (x : Row) → none fills_text l ≡ true → (copy_shape r l x).text ≡ x.text
copy_text r l x e = copy_all fills_text (λ (z : Row). z.text) r (one_text r) l x e

one_size : (r : Row) (f : Field) (x : Row) → length (copy_one r f x).nums ≡ length x.nums
one_size r (byte b) x = refl
one_size r (fixed w) x = refl
one_size r (num j lo hi) x = length-set x.nums j (num_of r j)
one_size r (word j n from) x = length-set x.nums j (num_of r j)
one_size r text x = refl

pub copy_size : (r : Row) (l : List Field) (x : Row) → length (copy_shape r l x).nums ≡ length x.nums
copy_size r [] x = refl
copy_size r (f ∷ l) x = copy_size r l (copy_one r f x) ∙ one_size r f x

-- ---- a row in the written form has a text that keeps the text rule: a mark copies such a text, and without one it stays empty
one_good : (id : ℕ) (r : Row) (f : Field) (x : Row) → GoodOne id r f → GoodText x.text → GoodText (copy_one r f x).text
one_good id r (byte b) x g h = h
one_good id r (fixed w) x g h = h
one_good id r (num j lo hi) x g h = h
one_good id r (word j n from) x g h = h
one_good id r text x g h = g

copy_good : (id : ℕ) (r : Row) (l : List Field) (x : Row) → GoodShape id r l → GoodText x.text → GoodText (copy_shape r l x).text
copy_good id r [] x g h = h
copy_good id r (f ∷ l) x g h = copy_good id r l (copy_one r f x) g.1 (one_good id r f x g.0 h)

pub row_text : (l : List Field) (id : ℕ) (r : Row) → (shape_c l id).good r → GoodText r.text
unfolding all_ok text_ok
row_text l id r g = subst (λ (z : Row). GoodText z.text) g.1 (copy_good id r l blank g.0 refl)

-- ---- a row in the written form is in it with any CmdID that can be read
one_anew : (id n : ℕ) (r : Row) (f : Field) → Spellable n → GoodOne id r f → GoodOne n r f
one_anew id n r (byte b) h g = tt
one_anew id n r (fixed due) h g = h
one_anew id n r (fixed (exactly m)) h g = tt
one_anew id n r (num k lo hi) h g = g
one_anew id n r (word k m from) h g = g
one_anew id n r text h g = g

shape_anew : (id n : ℕ) (r : Row) (l : List Field) → Spellable n → GoodShape id r l → GoodShape n r l
shape_anew id n r [] h g = tt
shape_anew id n r (f ∷ l) h g = (one_anew id n r f h g.0, shape_anew id n r l h g.1)

pub row_anew : (l : List Field) (id n : ℕ) (r : Row) → Spellable n → (shape_c l id).good r → (shape_c l n).good r
row_anew l id n r h g = (shape_anew id n r l h g.0, g.1)
