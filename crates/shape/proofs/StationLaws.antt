-- A station that is read is one, whatever the shape: its mark has that range, and no other mark fills its slot.
-- Assumes nothing.
use Prim.Native.Nat.{ℕ, zero, suc, ◌≤◌}
use mathlib.Core.Path.{◌≡◌, refl, sym, ap, ◌∙◌, subst}
use mathlib.Core.Bool.{Bool, true, false, cond, ◌&&◌, ◌||◌, not}
use mathlib.Core.List.{List, [], ◌∷◌}
use native.Mathlib.Omega.{arith}
use lib.ListN.{get_or, set}
use lib.Seq.{get_or-set_other}
use lib.Dec.{eqb, leb}
use borrow.Author.Tests.{eqb-false, leb-true, not-true}
use Rattle.token.specs.Ans.{Ans, got}
use Rattle.token.specs.Number.{number_at}
use Rattle.token.specs.Literal.{literal_at}
use Rattle.token.proofs.NumberLaws.{both, number_moves}
use Rattle.token.proofs.StandsLaws.{chain, kept}
use Rattle.words.specs.Words.{word_at}
use Rattle.text.specs.Wording.{last_station}
use Rattle.spelling.specs.Part.{part_at}
use Rattle.grammar.proofs.CodecLaws.{value}
use Rattle.shape.specs.Row.{RowOf, Row, PartRow, blank, blank_part, num_of, with_num}
use Rattle.shape.specs.Marks.{Field, byte, fixed, num, word, text, slot_station, mark_table, field_in, field_of, fields}
use Rattle.shape.specs.Shape.{fixed_at, nothing, slot, body, one_at, read_one, read_shape, GoodOne, copy_one, GoodShape, copy_shape, shape_c, row_at}
use Rattle.shape.proofs.ShapeLaws.{one}

-- a field that leaves the station's slot alone, or fills it with a station
abbrev fits : Field → Bool
fits (byte b) = true
fits (fixed w) = true
fits (num k lo hi) = not (eqb slot_station k) || leb hi last_station
fits (word k n from) = not (eqb slot_station k)
fits text = true

abbrev all_fit : List (ℕ × Field) → Bool
all_fit [] = true
all_fit (x ∷ l) = fits x.1 && all_fit l

in_table : (l : List (ℕ × Field)) → all_fit l ≡ true → (t : ℕ) → fits (field_in l t) ≡ true
in_table [] e t = refl
in_table (x ∷ l) e t = let b = both (fits x.1) (all_fit l) e in go (in_table l b.1 t) b.0 (eqb t x.0)
  where
    go : fits (field_in l t) ≡ true → fits x.1 ≡ true → (v : Bool) → fits (cond v x.1 (field_in l t)) ≡ true
    go rest first true = first
    go rest first false = rest

field_fits : (t : ℕ) → fits (field_of t) ≡ true
unfolding field_of
field_fits t = in_table mark_table refl t

-- ---- a row with one number more has a station yet
abbrev HasStation : {T : Type 0} → RowOf T → Type 0
HasStation x = num_of x slot_station ≤ last_station

-- (what stands at a place after a number was put into a list is that number, or what stood there)
put_most : (l : List ℕ) (j n k b : ℕ) → get_or l k 0 ≤ b → n ≤ b → get_or (set l j n) k 0 ≤ b
put_most [] j n k b h i = h
put_most (x ∷ l) zero n zero b h i = i
put_most (x ∷ l) zero n (suc k) b h i = h
put_most (x ∷ l) (suc j) n zero b h i = h
put_most (x ∷ l) (suc j) n (suc k) b h i = put_most l j n k b h i

module _ {T : Type 0} (x : RowOf T) (h : HasStation x) (k n : ℕ) where
  put_other : not (eqb slot_station k) ≡ true → HasStation (with_num x k n)
  put_other e = subst (λ m. m ≤ last_station) (sym (get_or-set_other x.nums k slot_station n 0 (eqb-false slot_station k (not-true (eqb slot_station k) e)))) h

  put_number : (lo hi : ℕ) → fits (num k lo hi) ≡ true → n ≤ hi → HasStation (with_num x k n)
  put_number lo hi e i = go (eqb slot_station k) refl e
    where
      go : (v : Bool) → eqb slot_station k ≡ v → (not v || leb hi last_station) ≡ true → HasStation (with_num x k n)
      go true q j = let most = leb-true hi last_station j in put_most x.nums k n slot_station last_station h (omega arith)
      go false q j = put_other (ap not q)

-- ---- what is read by a shape
module _ {T : Type 0} (D : List ℕ → ℕ → Ans T) (id : ℕ) (s : List ℕ) where
  one_read : (f : Field) (at : ℕ) (x y : RowOf T) (p : ℕ) → fits f ≡ true → HasStation x → read_one D id f s at x ≡ got y p → HasStation y
  unfolding one_at
  one_read (byte b) at x y p e h q = subst HasStation (one id s (λ _. nothing) x y p (literal_at s at (b ∷ [])) q).2 h
  one_read (fixed w) at x y p e h q = subst HasStation (one id s (λ _. nothing) x y p (number_at s at (fixed_at id w) (fixed_at id w)) q).2 h
  one_read (num k lo hi) at x y p e h q =
      let o = one id s (slot k) x y p (number_at s at lo hi) q in
      subst HasStation o.2 (put_number x h k o.0 lo hi e (number_moves s at o.0 lo hi p o.1).high)
  one_read (word k n from) at x y p e h q = let o = one id s (slot k) x y p (word_at n from s at) q in subst HasStation o.2 (put_other x h k o.0 e)
  one_read text at x y p e h q = subst HasStation (one id s body x y p (D s at) q).2 h

  all_read : (w : List ℕ) (at : ℕ) (x r : RowOf T) (p : ℕ) → HasStation x → read_shape D id (fields w) s at x ≡ got r p → HasStation r
  all_read [] at x r p h q = subst HasStation (value q) h
  all_read (t ∷ w) at x r p h q =
      let a = kept (read_one D id (field_of t) s at x) _ r p q in
      all_read w a.1 a.0 r p (one_read (field_of t) at x a.0 a.1 (field_fits t) h a.2) a.3

pub station_read : (w : List ℕ) (id : ℕ) (s : List ℕ) (at : ℕ) (r : PartRow) (p : ℕ) → row_at (fields w) id s at ≡ got r p → num_of r slot_station ≤ last_station
unfolding row_at
station_read w id s at r p e =
    let c = chain at (read_shape part_at id (fields w) s at blank_part) _ r p e in
    all_read part_at id s w at blank_part r p (omega arith) (c.2 ∙ c.3)

-- ---- and what has a written form
module _ (id : ℕ) (r : Row) where
  one_copied : (f : Field) (x : Row) → fits f ≡ true → GoodOne id r f → HasStation x → HasStation (copy_one r f x)
  one_copied (byte b) x e g h = h
  one_copied (fixed w) x e g h = h
  one_copied (num k lo hi) x e g h = put_number x h k (num_of r k) lo hi e g.1
  one_copied (word k n from) x e g h = put_other x h k (num_of r k) e
  one_copied text x e g h = h

  all_copied : (w : List ℕ) (x : Row) → GoodShape id r (fields w) → HasStation x → HasStation (copy_shape r (fields w) x)
  all_copied [] x g h = h
  all_copied (t ∷ w) x g h = all_copied w (copy_one r (field_of t) x) g.1 (one_copied (field_of t) x (field_fits t) g.0 h)

pub row_station : (w : List ℕ) (id : ℕ) (r : Row) → (shape_c (fields w) id).good r → num_of r slot_station ≤ last_station
row_station w id r g = subst HasStation g.1 (all_copied id r w blank g.0 (omega arith))
