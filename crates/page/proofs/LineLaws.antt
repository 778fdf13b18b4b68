-- The lines of the page as the code has them are its shapes, and where they begin.
-- Assumes nothing.
use Prim.Native.Nat.{ℕ, zero, suc, ◌+◌, ◌≤◌, ◌<◌}
use mathlib.Core.Path.{◌≡◌, refl, sym, ap, ap₂, ◌∙◌, subst}
use mathlib.Core.Bool.{Bool, true, false, not, ◌&&◌}
use mathlib.Core.List.{List, [], ◌∷◌, ◌++◌}
use native.Mathlib.Omega.{arith}
use lib.ListN.{length, get_or, take, drop, length-take}
use lib.Seq.{get_or-take}
use lib.Dec.{leb, ltb, eqb}
use borrow.Author.Tests.{leb-true, ltb-true, ltb-false, eqb-true, eqb-false, not-true}
use Rattle.token.specs.Ans.{bad}
use Rattle.token.specs.Texts.{pick}
use Rattle.token.proofs.NumberLaws.{both}
use Rattle.token.proofs.TextsLaws.{pick_none, pick_short}
use Rattle.shape.specs.Marks.{Field, field_of, fields}
use Rattle.shape.specs.Runs.{coded, runs, marked, plain}
use Rattle.shape.specs.Shape.{row_at}
use Rattle.shape.proofs.RunLaws.{coded_runs, no_mark, other_bytes}
use Rattle.page.specs.Page.{page, shape}
use Rattle.page.specs.Lines.{coded_lines, lines, is_other}

all_lines : length lines ≡ 28
unfolding page field_of
all_lines = refl

pick_coded : (l : List (List ℕ)) (k : ℕ) → pick (coded_lines l) k ≡ coded (pick l k)
pick_coded [] k = refl
pick_coded (w ∷ l) zero = refl
pick_coded (w ∷ l) (suc k) = pick_coded l k

line_shape : (k : ℕ) → runs (pick lines k) ≡ shape k
unfolding shape
line_shape k = ap runs (pick_coded page k) ∙ coded_runs (pick page k)

line_short : (k : ℕ) → length (pick lines k) ≤ 600
unfolding page field_of
line_short k = pick_short 600 lines refl k

-- of what the code has of a line
pub line_is : (l : List ℕ) (k : ℕ) → l ≡ pick lines k → (runs l ≡ shape k) × (length l ≤ 600)
line_is l k e = (ap runs e ∙ line_shape k, subst (λ (x : List ℕ). length x ≤ 600) (sym e) (line_short k))

none_first : pick lines 0 ≡ []
unfolding page
none_first = refl

none_after : (k : ℕ) → 28 ≤ k → pick lines k ≡ []
none_after k h = pick_none lines k (omega (arith, all_lines))

-- no line has any other number
pub no_line : (k : ℕ) → (1 ≤ k → k < 28 → ⊥) → [] ≡ pick lines k
no_line k h = go (ltb 0 k) refl (ltb k 28) refl
  where
    go : (t : Bool) → ltb 0 k ≡ t → (u : Bool) → ltb k 28 ≡ u → [] ≡ pick lines k
    go false e u i = let z : k ≡ 0 = omega (arith, ltb-false 0 k e) in sym (ap (pick lines) z ∙ none_first)
    go true e false i = sym (none_after k (ltb-false k 28 i))
    go true e true i = absurd (h (ltb-true 0 k e) (ltb-true k 28 i))

-- ---- the fourth byte of a line tells its elements from others
abbrev no_marks : List ℕ → Bool
no_marks [] = true
no_marks (t ∷ l) = not (marked (field_of t)) && no_marks l

-- a line begins with four bytes that stand for themselves, the last of them in the code's line after the length
abbrev fourth_fits : List ℕ → Bool
fourth_fits w = (leb 4 (length w) && no_marks (take 4 w)) && eqb (get_or w 3 0) (get_or (coded w) 4 0)

abbrev fourths_fit : List (List ℕ) → Bool
fourths_fit [] = true
fourths_fit (w ∷ l) = fourth_fits w && fourths_fit l

record Fourth (w : List ℕ) : Type 0 where
  long : 4 ≤ length w
  bare : no_marks (take 4 w) ≡ true
  last : get_or w 3 0 ≡ get_or (coded w) 4 0

fourth_at : (l : List (List ℕ)) → fourths_fit l ≡ true → (k : ℕ) → k < length l → Fourth (pick l k)
fourth_at [] e k h = absurd (omega arith)
fourth_at (w ∷ l) e zero h =
    let a = both (leb 4 (length w) && no_marks (take 4 w)) (eqb (get_or w 3 0) (get_or (coded w) 4 0)) (both (fourth_fits w) (fourths_fit l) e).0 in
    let b = both (leb 4 (length w)) (no_marks (take 4 w)) a.0 in
    record { long = leb-true 4 (length w) b.0; bare = b.1; last = eqb-true (get_or w 3 0) (get_or (coded w) 4 0) a.1 }
fourth_at (w ∷ l) e (suc k) h = fourth_at l (both (fourth_fits w) (fourths_fit l) e).1 k (omega arith)

bare_front : (n : ℕ) (w : List ℕ) → no_marks (take n w) ≡ true → fields w ≡ plain (take n w) ++ fields (drop n w)
bare_front zero w e = refl
bare_front (suc n) [] e = refl
bare_front (suc n) (t ∷ w) e =
    let b = both (not (marked (field_of t))) (no_marks (take n w)) e in
    ap₂ (λ (f : Field) (l : List Field). f ∷ l) (no_mark t (not-true (marked (field_of t)) b.0)) (bare_front n w b.1)

other_line : (w : List ℕ) → Fourth w → (id : ℕ) (s : List ℕ) (at : ℕ) → (get_or s (at + 3) 0 ≡ get_or (coded w) 4 0 → ⊥) → row_at (fields w) id s at ≡ bad 7 at
other_line w x id s at ne =
    let front = take 4 w in
    let size : length front ≡ 4 = length-take 4 w ∙ omega (arith, x.long) in
    let same : get_or front 3 0 ≡ get_or (coded w) 4 0 = get_or-take 4 w 3 0 (omega arith) ∙ x.last in
    rw (bare_front 4 w x.bare) (other_bytes front (fields (drop 4 w)) 3 (omega (arith, size)) id s at (λ e. ne (e ∙ same)))

all_fourths : fourths_fit (drop 1 page) ≡ true
unfolding page field_of
all_fourths = refl

other_kind : (k : ℕ) → 1 ≤ k → k < 28 → (id : ℕ) (s : List ℕ) (at : ℕ) → (get_or s (at + 3) 0 ≡ get_or (pick lines k) 4 0 → ⊥) → row_at (shape k) id s at ≡ bad 7 at
unfolding shape page
other_kind zero l h id s at ne = absurd (omega arith)
other_kind (suc k) l h id s at ne = other_line (pick (drop 1 page) k) (fourth_at (drop 1 page) all_fourths k (omega arith)) id s at (λ e. ne (e ∙ ap (λ w. get_or w 4 0) (sym (pick_coded page (suc k)))))

-- kind k has a line
has_line : (k : ℕ) → 1 ≤ length (pick lines k) → (1 ≤ k) × (k < 28)
has_line k h = (go (ltb 0 k) refl, go2 (ltb k 28) refl)
  where
    go : (t : Bool) → ltb 0 k ≡ t → 1 ≤ k
    go true e = ltb-true 0 k e
    go false e = let z : k ≡ 0 = omega (arith, ltb-false 0 k e) in absurd (omega (arith, subst (λ j. 1 ≤ length (pick lines j)) z h, ap length none_first))

    go2 : (t : Bool) → ltb k 28 ≡ t → k < 28
    go2 true e = ltb-true k 28 e
    go2 false e = absurd (omega (arith, h, ap length (none_after k (ltb-false k 28 e))))

pub other_there : (k id : ℕ) (s : List ℕ) (at : ℕ) → is_other s at (pick lines k) ≡ true → row_at (shape k) id s at ≡ bad 7 at
unfolding is_other
other_there k id s at e =
    let w = pick lines k in
    let a = both (leb 5 (length w) && leb (at + 4) (length s)) _ e in
    let b = both (leb 5 (length w)) _ a.0 in
    let h = has_line k (omega (arith, leb-true 5 (length w) b.0)) in
    other_kind k h.0 h.1 id s at (eqb-false (get_or s (at + 3) 0) (get_or w 4 0) (not-true (eqb (get_or s (at + 3) 0) (get_or w 4 0)) a.1))
