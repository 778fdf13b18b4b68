-- The runs of a shape: where one ends, and that it is read, and written, as the text that it is.
-- Assumes nothing.
use Prim.Native.Nat.{ℕ, zero, suc, ◌+◌, ◌-◌, ◌≤◌, ◌<◌, min}
use mathlib.Core.Path.{◌≡◌, refl, sym, ap, ap₂, ◌∙◌}
use mathlib.Core.Bool.{Bool, true, false, false≢true, cond, ◌&&◌}
use mathlib.Core.List.{List, [], ◌∷◌, ◌++◌}
use native.Mathlib.Omega.{arith}
use native.Mathlib.Numerals.{add-one}
use lib.ListN.{length, take, drop, get_or, length-drop, drop_of_length-le}
use lib.Seq.{drop-cons, take_all, get_or-drop}
use lib.Dec.{leb, ltb, eqb}
use borrow.Author.Tests.{leb-true, leb-false, ltb-true, ltb-false, eqb-true, eqb-false}
use Rattle.std.specs.Borrow.{Bor}
use Rattle.std.specs.List.{IsFirstAndRest}
use Rattle.std.proofs.Common.{Option, Some, None}
use Rattle.std.specs.Option.{MatchOption}
use Rattle.std.proofs.lemmas.List.{nil_from_length}
use Rattle.token.specs.Ans.{Ans, got, bad, and_then, keep}
use Rattle.token.specs.Literal.{literal_at, begins}
use Rattle.token.proofs.NumberLaws.{both}
use Rattle.spelling.specs.Part.{part_at}
use Rattle.shape.specs.Row.{Row, PartRow, blank_part}
use Rattle.shape.specs.Marks.{Field, byte, mark_table, field_in, field_of, fields}
use Rattle.shape.specs.Runs.{in_run, runs, marked, lengthen, coded, plain, after_run}
use Rattle.shape.specs.Shape.{nothing, one_at, with_value, read_shape, write_shape, row_at, run_at}
use Rattle.shape.proofs.ByteLaws.{byte_yes, byte_no, byte_past}

-- a run of n bytes, and what comes after it
run_split : (n : ℕ) (l : List ℕ) → in_run (suc n) l ≡ plain (take n l) ++ in_run 1 (drop n l)
run_split zero l = refl
run_split (suc n) [] = refl
run_split (suc n) (b ∷ l) = ap (λ (k : List Field). byte b ∷ k) (run_split n l)

-- ---- what the code has of a text with marks is its shape
-- each line of the table is a mark
abbrev all_marked : List (ℕ × Field) → Bool
all_marked [] = true
all_marked (x ∷ l) = marked x.1 && all_marked l

-- what is no mark stands for itself
unmarked_in : (l : List (ℕ × Field)) → all_marked l ≡ true → (t : ℕ) → marked (field_in l t) ≡ false → field_in l t ≡ byte t
unmarked_in [] a t h = refl
unmarked_in (x ∷ l) a t h = let b = both (marked x.1) (all_marked l) a in go b.0 (unmarked_in l b.1 t) (eqb t x.0) h
  where
    go : marked x.1 ≡ true → (marked (field_in l t) ≡ false → field_in l t ≡ byte t) → (c : Bool) → marked (cond c x.1 (field_in l t)) ≡ false → cond c x.1 (field_in l t) ≡ byte t
    go m ih true h = absurd (false≢true (sym h ∙ m))
    go m ih false h = ih h

pub no_mark : (t : ℕ) → marked (field_of t) ≡ false → field_of t ≡ byte t
unfolding field_of
no_mark t h = unmarked_in mark_table refl t h

pub coded_runs : (l : List ℕ) → runs (coded l) ≡ fields l
coded_runs [] = refl
coded_runs (t ∷ l) = go (coded l) (coded_runs l) (marked (field_of t)) refl
  where
    go : (e : List ℕ) → runs e ≡ fields l → (c : Bool) → marked (field_of t) ≡ c → runs (lengthen c t e) ≡ field_of t ∷ fields l
    go e ih true q = ap (λ (k : List Field). field_of t ∷ k) ih
    go [] ih false q = ap (λ (k : List Field). byte t ∷ k) ih ∙ ap (λ (f : Field). f ∷ fields l) (sym (no_mark t q))
    go (n ∷ e) ih false q = ap (λ (k : List Field). byte t ∷ k) ih ∙ ap (λ (f : Field). f ∷ fields l) (sym (no_mark t q))

-- ---- what a shape begins with, where its run has n bytes or as many as the shape goes on
clipped : (k : ℕ) (l : List ℕ) (n : ℕ) → n ≡ min k (length l) → (take k l ≡ take n l) × (drop k l ≡ drop n l)
clipped k l n e = go (leb k (length l)) refl
  where
    go : (b : Bool) → leb k (length l) ≡ b → (take k l ≡ take n l) × (drop k l ≡ drop n l)
    go true q = let h = leb-true k (length l) q in let z : k ≡ n = omega arith in (ap (λ (m : ℕ). take m l) z, ap (λ (m : ℕ). drop m l) z)
    go false q =
        let h = leb-false k (length l) q in
        (take_all k l (omega arith) ∙ sym (take_all n l (omega arith)), drop_of_length-le l {i = k} (omega arith) ∙ sym (drop_of_length-le l {i = n} (omega arith)))

mark_next : (l : List ℕ) (o : Option (Bor ℕ × Bor (List ℕ))) → MatchOption o (length l ≡ 0) (λ p. IsFirstAndRest l p.0.now p.1.now) → in_run 1 l ≡ after_run o
mark_next l None h = ap (in_run 1) (nil_from_length l h)
mark_next l (Some p) h = ap (in_run 1) h.0

pub begun : (t l : List ℕ) (k n : ℕ) (o : Option (Bor ℕ × Bor (List ℕ))) → t ≡ k ∷ l → n ≡ min k (length l)
    → MatchOption o (length (take (length l - n) (drop n l)) ≡ 0) (λ p. IsFirstAndRest (take (length l - n) (drop n l)) p.0.now p.1.now) → runs t ≡ plain (take n l) ++ after_run o
begun t l k n o e m h =
    let c = clipped k l n m in
    let all : take (length l - n) (drop n l) ≡ drop n l = take_all (length l - n) (drop n l) (omega (arith, length-drop n l)) in
    ap runs e ∙ run_split k l ∙ ap₂ (λ (a b : List Field). a ++ b) (ap plain c.0) (ap (in_run 1) (c.1 ∙ sym all) ∙ mark_next (take (length l - n) (drop n l)) o h)

-- ---- reading: past a run where its bytes stand, and refused where they do not
module _ (id : ℕ) (s : List ℕ) (l : List Field) (x : PartRow) where
  -- the byte b of a run, and what comes after it
  byte_then : (b : ℕ) (w : List ℕ) (p : ℕ) → p < length s → get_or s p 0 ≡ b → read_shape part_at id (plain (b ∷ w) ++ l) s p x ≡ read_shape part_at id (plain w ++ l) s (p + 1) x
  unfolding one_at
  byte_then b w p h e = ap (λ y. keep (keep (keep y (λ _ m. got nothing m)) (λ v m. got (with_value v x) m)) (λ r m. read_shape part_at id (plain w ++ l) s m r)) (byte_yes s p b h e)

  -- a byte that does not stand there
  byte_else : (b : ℕ) (w : List ℕ) (p at : ℕ) → literal_at s p (b ∷ []) ≡ bad 7 p → and_then at (read_shape part_at id (plain (b ∷ w) ++ l) s p x) (λ r m. got r m) ≡ bad 7 at
  unfolding one_at
  byte_else b w p at e = ap (λ y. and_then at (keep (keep (keep y (λ _ m. got nothing m)) (λ v m. got (with_value v x) m)) (λ r m. read_shape part_at id (plain w ++ l) s m r)) (λ r m. got r m)) e

  ran_yes : (w : List ℕ) (p : ℕ) → begins w (drop p s) ≡ true → read_shape part_at id (plain w ++ l) s p x ≡ read_shape part_at id l s (p + length w) x
  unfolding begins
  ran_yes [] p e = let z : p ≡ p + 0 = omega arith in ap (λ (q : ℕ). read_shape part_at id l s q x) z
  ran_yes (b ∷ w) p e = go (λ i. ran_yes w (p + 1) i) (ltb p (length s)) refl
    where
      go : (begins w (drop (p + 1) s) ≡ true → read_shape part_at id (plain w ++ l) s (p + 1) x ≡ read_shape part_at id l s (p + 1 + length w) x) → (c : Bool) → ltb p (length s) ≡ c
          → read_shape part_at id (plain (b ∷ w) ++ l) s p x ≡ read_shape part_at id l s (p + length (b ∷ w)) x
      go ih true q =
          let h = ltb-true p (length s) q in
          let f : eqb (get_or s p 0) b && begins w (drop (suc p) s) ≡ true = rw (drop-cons s p 0 h) at e in
          let g = both (eqb (get_or s p 0) b) (begins w (drop (suc p) s)) f in
          let z : p + 1 + length w ≡ p + suc (length w) = omega arith in
          byte_then b w p h (eqb-true (get_or s p 0) b g.0) ∙ ih (rw add-one g.1) ∙ ap (λ (m : ℕ). read_shape part_at id l s m x) z
      go ih false q = let h = ltb-false p (length s) q in absurd (false≢true (rw (drop_of_length-le s h) at e))

  ran_no : (w : List ℕ) (p at : ℕ) → begins w (drop p s) ≡ false → and_then at (read_shape part_at id (plain w ++ l) s p x) (λ r m. got r m) ≡ bad 7 at
  unfolding begins
  ran_no [] p at e = absurd (false≢true (sym e))
  ran_no (b ∷ w) p at e = go (λ i. ran_no w (p + 1) at i) (ltb p (length s)) refl
    where
      Refused : ℕ → List ℕ → Type 0
      Refused q v = and_then at (read_shape part_at id (plain v ++ l) s q x) (λ r m. got r m) ≡ bad 7 at

      byte_there : (begins w (drop (p + 1) s) ≡ false → Refused (p + 1) w) → p < length s → (c : Bool) → eqb (get_or s p 0) b ≡ c → Refused p (b ∷ w)
      byte_there ih h true q =
          let f : eqb (get_or s p 0) b && begins w (drop (suc p) s) ≡ false = rw (drop-cons s p 0 h) at e in
          let g : begins w (drop (suc p) s) ≡ false = rw q at f in
          ap (λ y. and_then at y (λ r m. got r m)) (byte_then b w p h (eqb-true (get_or s p 0) b q)) ∙ ih (rw add-one g)
      byte_there ih h false q = byte_else b w p at (byte_no s p b h (eqb-false (get_or s p 0) b q))

      go : (begins w (drop (p + 1) s) ≡ false → Refused (p + 1) w) → (c : Bool) → ltb p (length s) ≡ c → Refused p (b ∷ w)
      go ih true q = byte_there ih (ltb-true p (length s) q) (eqb (get_or s p 0) b) refl
      go ih false q = byte_else b w p at (byte_past s p b (ltb-false p (length s) q))

-- a text that begins another has its bytes
begins_at : (w l : List ℕ) (j : ℕ) → j < length w → begins w l ≡ true → get_or l j 0 ≡ get_or w j 0
unfolding begins
begins_at [] l j h e = absurd (omega arith)
begins_at (b ∷ w) [] j h e = absurd (false≢true e)
begins_at (b ∷ w) (y ∷ l) zero h e = eqb-true y b (both (eqb y b) (begins w l) e).0
begins_at (b ∷ w) (y ∷ l) (suc j) h e = begins_at w l j (omega arith) (both (eqb y b) (begins w l) e).1

-- where another byte stands than one of those that a shape begins with, it does not read
pub other_bytes : (w : List ℕ) (l : List Field) (j : ℕ) → j < length w → (id : ℕ) (s : List ℕ) (at : ℕ) → (get_or s (at + j) 0 ≡ get_or w j 0 → ⊥) → row_at (plain w ++ l) id s at ≡ bad 7 at
unfolding row_at
other_bytes w l j h id s at ne = go (begins w (drop at s)) refl
  where
    go : (c : Bool) → begins w (drop at s) ≡ c → row_at (plain w ++ l) id s at ≡ bad 7 at
    go true q = absurd (ne (sym (get_or-drop at s j 0) ∙ begins_at w (drop at s) j h q))
    go false q = ran_no id s l blank_part w at at q

-- what finding the bytes w at p, or not, says of a shape that begins with them
abbrev pub Ran : List ℕ → ℕ → List ℕ → Ans (Unit {0}) → Type 0
Ran s p w (got u q) = (id : ℕ) (l : List Field) (x : PartRow) → read_shape part_at id (plain w ++ l) s p x ≡ read_shape part_at id l s q x
Ran s p w (bad k q) = (id : ℕ) (l : List Field) (x : PartRow) (at : ℕ) → and_then at (read_shape part_at id (plain w ++ l) s p x) (λ r m. got r m) ≡ bad 7 at

pub ran : (s : List ℕ) (p : ℕ) (w : List ℕ) → Ran s p w (run_at s p w)
unfolding run_at
ran s p w = go (begins w (drop p s)) refl
  where
    go : (c : Bool) → begins w (drop p s) ≡ c → Ran s p w (cond c (got tt (p + length w)) (bad 7 p))
    go true q = λ id l x. ran_yes id s l x w p q
    go false q = λ id l x at. ran_no id s l x w p at q

-- no bytes stand anywhere, and others where a constant text does
pub run_none : (s : List ℕ) (p : ℕ) → got tt p ≡ run_at s p []
unfolding run_at begins
run_none s p = let z : p ≡ p + 0 = omega arith in ap (got tt) z

abbrev found_at : ℕ → List ℕ → Bool → Ans (Unit {0})
found_at p w c = cond c (got tt (p + length w)) (bad 7 p)

pub run_text : (s : List ℕ) (p : ℕ) (w : List ℕ) → 0 < length w → literal_at s p w ≡ run_at s p w
unfolding literal_at run_at begins
run_text s p w h = go (leb p (length s)) refl
  where
    none : (v : List ℕ) → 0 < length v → begins v [] ≡ false
    none [] k = absurd (omega arith)
    none (b ∷ v) k = refl

    go : (c : Bool) → leb p (length s) ≡ c → found_at p w (c && begins w (drop p s)) ≡ found_at p w (begins w (drop p s))
    go true i = refl
    go false i = let z : length s ≤ p = omega (arith, leb-false p (length s) i) in rw (drop_of_length-le s z, none w h)

-- ---- writing: a run is written as its bytes
pub write_run : (id : ℕ) (r : Row) (w : List ℕ) (l : List Field) → write_shape id r (plain w ++ l) ≡ w ++ write_shape id r l
write_run id r [] l = refl
write_run id r (b ∷ w) l = ap (λ (k : List ℕ). b ∷ k) (write_run id r w l)
