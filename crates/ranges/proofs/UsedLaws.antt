-- The entries in use, each by itself: loops over the places, and what the two tests of a table say.
-- Assumes nothing.
use Prim.Native.Nat.{ℕ, zero, suc, ◌+◌, ◌≤◌, ◌<◌, ◌^◌}
use mathlib.Core.Path.{◌≡◌, refl, sym, ap, ◌∙◌}
use mathlib.Core.Bool.{Bool, true, false, cond, not, ◌||◌, true≢false}
use mathlib.Core.List.{List, [], ◌∷◌}
use native.Mathlib.Numerals.{add-one}
use native.Mathlib.Nat.{add-zero, zero-add}
use native.Mathlib.Omega.{arith}
use borrow.Author.Tests.{eqb-false, eq-eqb, ne_eqb}
use lib.Dec.{eqb}
use lib.ListN.{length, take, drop, get_or, set, drop_of_length-le}
use lib.Seq.{drop-cons, take_all, take-suc, take-suc-set}
use Rattle.places.specs.Set.{all_places, in_use}
use Rattle.places.specs.Table.{Each}
use Rattle.places.proofs.Bits.{one_of_32}
use Rattle.places.proofs.Choice.{and_first, and_second, and_both, or_chosen, or_passed, chosen, passed}
use Rattle.ranges.specs.Range.{has, once, each_used, row_of}

module _ {A : Type 0} (q : A → Bool) (used : ℕ) where
  -- ---- a loop over the places
  pub each_end : (xs : List A) (i : ℕ) → length xs ≤ i → each_used q used i (drop i xs) ≡ true
  unfolding each_used
  each_end xs i h = rw (drop_of_length-le xs h)

  module _ (xs : List A) (d : A) (i : ℕ) (h : i < length xs) where
    pub each_bad : in_use used i ≡ true → q (get_or xs i d) ≡ false → each_used q used i (drop i xs) ≡ false
    unfolding each_used
    each_bad u e = rw (drop-cons xs i d, u, e)

    pub each_turn : in_use used i ≡ true → q (get_or xs i d) ≡ true → each_used q used i (drop i xs) ≡ each_used q used (i + 1) (drop (i + 1) xs)
    unfolding each_used
    each_turn u e = rw (drop-cons xs i d, u, e, add-one i)

    pub each_free : in_use used i ≡ false → each_used q used i (drop i xs) ≡ each_used q used (i + 1) (drop (i + 1) xs)
    unfolding each_used
    each_free u = rw (drop-cons xs i d, u, add-one i)

  -- ---- the test is passed exactly where each entry in use passes it
  each_get : (d : A) (xs : List A) (i : ℕ) → each_used q used i xs ≡ true → (j : ℕ) → j < length xs → in_use used (i + j) ≡ true → q (get_or xs j d) ≡ true
  unfolding each_used
  each_get d [] i e j h u = absurd (omega arith)
  each_get d (x ∷ xs) i e zero h u =
      let k : in_use used i ≡ true = rw add-zero at u in
      sym (or_passed (not (in_use used i)) (q x) (ap not k)) ∙ and_first (not (in_use used i) || q x) (each_used q used (suc i) xs) e
  each_get d (x ∷ xs) i e (suc j) h u =
      let s : suc i + j ≡ i + suc j = omega arith in
      each_get d xs (suc i) (and_second (not (in_use used i) || q x) (each_used q used (suc i) xs) e) j (omega arith) (rw s u)

  each_all : (d : A) (xs : List A) (i : ℕ) → ((j : ℕ) → j < length xs → in_use used (i + j) ≡ true → q (get_or xs j d) ≡ true) → each_used q used i xs ≡ true
  unfolding each_used
  each_all d [] i f = refl
  each_all d (x ∷ xs) i f =
      let rest = each_all d xs (suc i) (λ j h u. let s : suc i + j ≡ i + suc j = omega arith in f (suc j) (omega arith) (rw (← s) u)) in
      and_both (not (in_use used i) || q x) (each_used q used (suc i) xs) (here (in_use used i) refl) rest
    where
      here : (b : Bool) → in_use used i ≡ b → (not (in_use used i) || q x) ≡ true
      here true u = or_passed (not (in_use used i)) (q x) (ap not u) ∙ f 0 (omega arith) (rw add-zero u)
      here false u = or_chosen (not (in_use used i)) (q x) (ap not u)

  pub tested_each : (d : A) (xs : List A) → used < 2 ^ 32 → length xs ≡ all_places → each_used q used 0 xs ≡ true → Each (λ x. q x ≡ true) d used xs
  tested_each d xs s l e i u = each_get d xs 0 e i (omega (arith, one_of_32 used i s u)) (rw zero-add u)

  pub each_tested : (d : A) (xs : List A) → Each (λ x. q x ≡ true) d used xs → each_used q used 0 xs ≡ true
  each_tested d xs f = each_all d xs 0 (λ j h u. f j (rw zero-add at u))

-- ---- a row of numbers
module _ {A : Type 0} (num : A → ℕ) (used : ℕ) where
  pub row_long : (xs : List A) (i : ℕ) → length (row_of num used i xs) ≡ length xs
  unfolding row_of
  row_long [] i = refl
  row_long (x ∷ xs) i = ap suc (row_long xs (suc i))

  -- what a loop has filled
  pub row_whole : (xs : List A) (row : List ℕ) (i : ℕ) → length xs ≤ i → length row ≡ length xs → take i row ≡ take i (row_of num used 0 xs) → row ≡ row_of num used 0 xs
  row_whole xs row i h l v =
      let k = row_long xs 0 in
      sym (take_all i row (omega arith)) ∙ v ∙ take_all i (row_of num used 0 xs) (omega arith)

module _ {A : Type 0} (num : A → ℕ) (used : ℕ) (d : A) where
  pub row_get : (xs : List A) (i j : ℕ) → j < length xs → get_or (row_of num used i xs) j 0 ≡ cond (in_use used (i + j)) (num (get_or xs j d)) 0
  unfolding row_of
  row_get [] i j h = absurd (omega arith)
  row_get (x ∷ xs) i zero h = ap (λ (k : ℕ). cond (in_use used k) (num x) 0) (sym (add-zero i))
  row_get (x ∷ xs) i (suc j) h =
      let s : suc i + j ≡ i + suc j = omega arith in
      row_get xs (suc i) j (omega arith) ∙ ap (λ (k : ℕ). cond (in_use used k) (num (get_or xs j d)) 0) s

  -- of all places
  pub row_here : (xs : List A) (j : ℕ) → j < length xs → get_or (row_of num used 0 xs) j 0 ≡ cond (in_use used j) (num (get_or xs j d)) 0
  row_here xs j h = row_get xs 0 j h ∙ ap (λ (k : ℕ). cond (in_use used k) (num (get_or xs j d)) 0) (zero-add j)

  -- a turn of a loop that fills a row
  pub row_turn : (xs : List A) (row : List ℕ) (i n : ℕ) → i < length xs → i < length row → n ≡ cond (in_use used i) (num (get_or xs i d)) 0
      → take i row ≡ take i (row_of num used 0 xs) → take (i + 1) (set row i n) ≡ take (i + 1) (row_of num used 0 xs)
  row_turn xs row i n h k e v =
      let l : i < length (row_of num used 0 xs) = omega (arith, row_long num used xs 0) in
      let w : n ≡ get_or (row_of num used 0 xs) i 0 = e ∙ sym (row_here xs i h) in
      rw (add-one i, take-suc-set row i n k, take-suc (row_of num used 0 xs) i 0 l, v, w)

-- a number that stands in no place of a row, and one that does
has_not : (n : ℕ) (l : List ℕ) → has n l ≡ false → (j : ℕ) → j < length l → get_or l j 0 ≡ n → ⊥
has_not n [] e j h k = absurd (omega arith)
has_not n (x ∷ l) e zero h k = true≢false (sym (or_chosen (eqb x n) (has n l) (eq-eqb x n k)) ∙ e)
has_not n (x ∷ l) e (suc j) h k = has_not n l (rest (eqb x n) e) j (omega arith) k
  where
    rest : (b : Bool) → (b || has n l) ≡ false → has n l ≡ false
    rest true z = absurd (true≢false z)
    rest false z = z

not_has : (n : ℕ) (l : List ℕ) → ((j : ℕ) → j < length l → get_or l j 0 ≡ n → ⊥) → has n l ≡ false
not_has n [] f = refl
not_has n (x ∷ l) f = or_passed (eqb x n) (has n l) (ne_eqb x n (λ e. f 0 (omega arith) e)) ∙ not_has n l (λ j h. f (suc j) (omega arith))

-- ---- no number but 0 stands in two places of the row
once_first : (n : ℕ) (l : List ℕ) → (eqb n 0 || not (has n l)) ≡ true → (n ≡ 0 → ⊥) → has n l ≡ false
once_first n l e z = go (has n l) (sym (or_passed (eqb n 0) (not (has n l)) (ne_eqb n 0 z)) ∙ e)
  where
    go : (b : Bool) → not b ≡ true → b ≡ false
    go true k = sym k
    go false k = refl

pub once_apart : (l : List ℕ) → once l ≡ true → (i j : ℕ) → i < length l → j < length l → (get_or l i 0 ≡ 0 → ⊥) → get_or l i 0 ≡ get_or l j 0 → i ≡ j
unfolding once
once_apart [] e i j h k z s = absurd (omega arith)
once_apart (n ∷ l) e zero zero h k z s = refl
once_apart (n ∷ l) e zero (suc j) h k z s = absurd (has_not n l (once_first n l (and_first (eqb n 0 || not (has n l)) (once l) e) z) j (omega arith) (sym s))
once_apart (n ∷ l) e (suc i) zero h k z s = absurd (has_not n l (once_first n l (and_first (eqb n 0 || not (has n l)) (once l) e) (λ y. z (s ∙ y))) i (omega arith) s)
once_apart (n ∷ l) e (suc i) (suc j) h k z s = ap suc (once_apart l (and_second (eqb n 0 || not (has n l)) (once l) e) i j (omega arith) (omega arith) z s)

pub apart_once : (l : List ℕ) → ((i j : ℕ) → i < length l → j < length l → (get_or l i 0 ≡ 0 → ⊥) → get_or l i 0 ≡ get_or l j 0 → i ≡ j) → once l ≡ true
unfolding once
apart_once [] f = refl
apart_once (n ∷ l) f =
    and_both (eqb n 0 || not (has n l)) (once l) (here (eqb n 0) refl) (apart_once l (λ i j h k z s. let e : suc i ≡ suc j = f (suc i) (suc j) (omega arith) (omega arith) z s in omega (arith, e)))
  where
    here : (b : Bool) → eqb n 0 ≡ b → (eqb n 0 || not (has n l)) ≡ true
    here true e = or_chosen (eqb n 0) (not (has n l)) e
    here false e = or_passed (eqb n 0) (not (has n l)) e ∙ ap not (not_has n l (λ j h k. let y : 0 ≡ suc j = f 0 (suc j) (omega arith) (omega arith) (eqb-false n 0 e) (sym k) in absurd (omega (arith, y))))

-- ---- so the row of a table tells whether its numbers in use are apart
module _ {A : Type 0} (num : A → ℕ) (used : ℕ) (d : A) (xs : List A) (long : length xs ≡ all_places) where
  -- two places in use with one number, which is not 0, are one place
  abbrev pub Apart : Type 0
  Apart = (i j : ℕ) → in_use used i ≡ true → in_use used j ≡ true → (num (get_or xs i d) ≡ 0 → ⊥) → num (get_or xs i d) ≡ num (get_or xs j d) → i ≡ j

  -- what stands in the row for a place in use, and what is not 0 in it
  stands : (i : ℕ) → i < length xs → in_use used i ≡ true → get_or (row_of num used 0 xs) i 0 ≡ num (get_or xs i d)
  stands i h u = row_here num used d xs i h ∙ chosen (in_use used i) (num (get_or xs i d)) 0 u

  held : (i : ℕ) → i < length xs → (get_or (row_of num used 0 xs) i 0 ≡ 0 → ⊥) → in_use used i ≡ true
  held i h z = go (in_use used i) refl
    where
      go : (b : Bool) → in_use used i ≡ b → in_use used i ≡ true
      go true u = u
      go false u = absurd (z (row_here num used d xs i h ∙ passed (in_use used i) (num (get_or xs i d)) 0 u))

  pub row_apart : used < 2 ^ 32 → once (row_of num used 0 xs) ≡ true → Apart
  row_apart s o i j u v z e =
      let h : i < length xs = omega (arith, one_of_32 used i s u) in
      let k : j < length xs = omega (arith, one_of_32 used j s v) in
      let l = row_long num used xs 0 in
      once_apart (row_of num used 0 xs) o i j (omega (arith, l, h)) (omega (arith, l, k)) (λ y. z (sym (stands i h u) ∙ y)) (stands i h u ∙ e ∙ sym (stands j k v))

  pub apart_row : Apart → once (row_of num used 0 xs) ≡ true
  apart_row f =
      let l = row_long num used xs 0 in
      apart_once (row_of num used 0 xs)
      (λ i j h k z e.
      let a : i < length xs = omega (arith, l, h) in
      let b : j < length xs = omega (arith, l, k) in
      let u = held i a z in
      let v = held j b (λ y. z (e ∙ y)) in
      f i j u v (λ y. z (stands i a u ∙ y)) (sym (stands i a u) ∙ e ∙ stands j b v))
