-- Two shapes that begin alike and then have two different bytes are told apart: where one is written, the other does not read.
-- Assumes nothing.
use Prim.Native.Nat.{ℕ, ◌+◌}
use mathlib.Core.Path.{◌≡◌, refl, sym, ap, ap₂, ◌∙◌, subst}
use mathlib.Core.Bool.{Bool, true, false, false≢true, true≢false, cond, ◌&&◌}
use mathlib.Core.List.{List, [], ◌∷◌, ◌++◌}
use lib.ListN.{length, drop}
use lib.Dec.{eqb}
use borrow.Author.Tests.{eqb-true, eq-eqb}
use Rattle.token.specs.Ans.{got, Stands}
use Rattle.token.specs.Literal.{literal_at, begins}
use Rattle.token.proofs.LiteralLaws.{literal_begins}
use Rattle.token.proofs.NumberLaws.{both}
use Rattle.token.proofs.StandsLaws.{left, right, chain, kept}
use Rattle.spelling.specs.Data.{data_at}
use Rattle.grammar.proofs.CodecLaws.{place}
use Rattle.grammar.proofs.NumberedLaws.{Apart}
use Rattle.shape.specs.Row.{Row, blank}
use Rattle.shape.specs.Marks.{due, exactly, Field, byte, fixed, num, word, text}
use Rattle.shape.specs.Shape.{nothing, one_at, write_one, read_one, copy_one, write_shape, GoodShape, read_shape, shape_c}
use Rattle.shape.proofs.Sound.{is_byte, begun, follows, parted, distinct, sound, tag, untag, same_list, apart}
use Rattle.shape.proofs.ShapeLaws.{one, one_there, next_in}

same_list_lem : (l m : List ℕ) → same_list l m ≡ true → l ≡ m
same_list_lem [] [] e = refl
same_list_lem [] (y ∷ m) e = absurd (false≢true e)
same_list_lem (x ∷ l) [] e = absurd (false≢true e)
same_list_lem (x ∷ l) (y ∷ m) e = let b = both (eqb x y) (same_list l m) e in ap₂ (λ (h : ℕ) (t : List ℕ). h ∷ t) (eqb-true x y b.0) (same_list_lem l m b.1)

list_same : (l : List ℕ) → same_list l l ≡ true
list_same [] = refl
list_same (x ∷ l) = rw (eq-eqb x x refl, list_same l)

untagged : (f : Field) → untag (tag f) ≡ f
untagged (byte b) = refl
untagged (fixed due) = refl
untagged (fixed (exactly n)) = refl
untagged (num k lo hi) = refl
untagged (word k n from) = refl
untagged text = refl

pub same_field : (f g : Field) → same_list (tag f) (tag g) ≡ true → f ≡ g
same_field f g e = sym (untagged f) ∙ ap untag (same_list_lem (tag f) (tag g) e) ∙ untagged g

-- a byte that stands where another does is that other
first_byte : (s : List ℕ) (at b c p q : ℕ) (w : List ℕ) (u : Unit {0}) → literal_at s at (b ∷ []) ≡ got u q → Stands s at (c ∷ w) p → b ≡ c
unfolding begins
first_byte s at b c p q w u e st =
    let h : eqb c b && begins [] (w ++ drop p s) ≡ true = ap (begins (b ∷ [])) (sym st.text) ∙ literal_begins s at (b ∷ []) u q e in
    sym (eqb-true c b (both (eqb c b) (begins [] (w ++ drop p s)) h).0)

module _ (id : ℕ) (r : Row) (s : List ℕ) where
  other_byte : (f g : Field) (l : List Field) (at p q : ℕ) (x y : Row) → is_byte f ≡ true → is_byte g ≡ true → same_list (tag f) (tag g) ≡ false → Stands s at (write_shape id r (g ∷ l)) p → read_one data_at id f s at x ≡ got y q → ⊥
  unfolding one_at
  other_byte (byte b) (byte c) l at p q x y i j ne st e =
      let o = one id s (λ _. nothing) x y q (literal_at s at (b ∷ [])) e in
      let same = first_byte s at b c p q (write_shape id r l) o.0 o.1 st in
      true≢false (sym (list_same (0 ∷ b ∷ [])) ∙ ap (λ (z : ℕ). same_list (0 ∷ b ∷ []) (0 ∷ z ∷ [])) same ∙ ne)
  other_byte (byte b) (fixed w) l at p q x y i j ne st e = false≢true j
  other_byte (byte b) (num k lo hi) l at p q x y i j ne st e = false≢true j
  other_byte (byte b) (word k n from) l at p q x y i j ne st e = false≢true j
  other_byte (byte b) text l at p q x y i j ne st e = false≢true j
  other_byte (fixed w) g l at p q x y i j ne st e = false≢true i
  other_byte (num k lo hi) g l at p q x y i j ne st e = false≢true i
  other_byte (word k n from) g l at p q x y i j ne st e = false≢true i
  other_byte text g l at p q x y i j ne st e = false≢true i

  unread : (l m : List Field) → apart l m ≡ true → parted m ≡ true → GoodShape id r m → (at p : ℕ) → Stands s at (write_shape id r m) p → (x y : Row) (q : ℕ) → read_shape data_at id l s at x ≡ got y q → ⊥
  unfolding apart
  unread [] m e pm g at p st x y q rd = false≢true e
  unread (f ∷ l) [] e pm g at p st x y q rd = false≢true e
  unread (f ∷ l) (h ∷ m) e pm g at p st x y q rd = go (unread l m) (same_list (tag f) (tag h)) refl e
    where
      go : (apart l m ≡ true → parted m ≡ true → GoodShape id r m → (at p : ℕ) → Stands s at (write_shape id r m) p → (x y : Row) (q : ℕ) → read_shape data_at id l s at x ≡ got y q → ⊥)
          → (t : Bool) → same_list (tag f) (tag h) ≡ t → cond t (apart l m) (is_byte f && is_byte h) ≡ true → ⊥
      go ih true i j =
          let w = write_one id r h in
          let k = at + length w in
          let b = both (follows h m) (parted m) pm in
          let a = kept (read_one data_at id f s at x) _ y q rd in
          let read_h : read_one data_at id h s at x ≡ got (copy_one r h x) k = one_there id r h s at k x g.0 (left s at w (write_shape id r m) p st) (next_in id r s h m at p b.0 st) in
          let read_f : read_one data_at id f s at x ≡ got (copy_one r h x) k = ap (λ (z : Field). read_one data_at id z s at x) (same_field f h i) ∙ read_h in
          let pl : k ≡ a.1 = place (sym read_f ∙ a.2) in
          ih j b.1 g.1 a.1 p (subst (λ (z : ℕ). Stands s z (write_shape id r m) p) pl (right s at w (write_shape id r m) p st)) a.0 y q a.3
      go ih false i j =
          let b = both (is_byte f) (is_byte h) j in
          let a = kept (read_one data_at id f s at x) _ y q rd in
          other_byte f h m at p a.1 x a.0 b.0 b.1 i st a.2

-- where an element of the shape m is written, one of the shape l does not read
pub shapes_apart : (l m : List Field) (id : ℕ) → apart l m ≡ true → sound m ≡ true → Apart (shape_c m id) (shape_c l id)
shapes_apart l m id e sm s at r p g st y q rd =
    let c = chain at (read_shape data_at id l s at blank) _ y q rd in
    unread id r s l m e (both (begun m) (parted m) (both (begun m && parted m) (distinct m) sm).0).1 g.0 at p st blank c.0 c.1 c.2
