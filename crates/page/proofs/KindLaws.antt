-- One of some kinds is read where it stands, in either of its lines, if the lines are sound and told apart.
-- Assumes nothing.
use Prim.Native.Nat.{ℕ, zero, suc, ◌+◌, ◌-◌, ◌≤◌, ◌<◌}
use mathlib.Core.Path.{◌≡◌, refl, sym, ap, ap₂, ◌∙◌, subst}
use mathlib.Core.Bool.{Bool, true, false, cond, ◌&&◌}
use mathlib.Core.List.{List}
use lib.ListN.{get_or}
use native.Mathlib.Omega.{arith}
use native.Mathlib.Numerals.{add-one}
use lib.Dec.{eqb}
use borrow.Author.Tests.{eqb-true, eqb-false}
use Rattle.token.specs.Ans.{Ans, got, bad, keep, Stands}
use Rattle.token.specs.Texts.{pick}
use Rattle.token.proofs.NumberLaws.{both}
use Rattle.grammar.specs.Codec.{There, Moves, or_else}
use Rattle.grammar.proofs.CodecLaws.{value, place, also_there, also_moves}
use Rattle.grammar.proofs.NumberedLaws.{never, Apart}
use Rattle.text.specs.Wording.{last_station}
use Rattle.shape.specs.Marks.{slot_station}
use Rattle.shape.specs.Row.{Row, PartRow, num_of, row_of_part}
use Rattle.shape.specs.Shape.{shape_c, row_at}
use Rattle.shape.proofs.Sound.{sound, apart}
use Rattle.shape.proofs.ShapeLaws.{shape_there, shape_moves}
use Rattle.shape.proofs.LeftOut.{left_out, whole}
use Rattle.shape.proofs.PartLaws.{shape_in}
use Rattle.shape.proofs.StationLaws.{station_read}
use Rattle.shape.proofs.ApartLaws.{shapes_apart}
use Rattle.page.specs.Page.{page, shape, second}
use Rattle.page.specs.Kind.{spelled_c, spelled_at, first_kind, first_of, kind_at, kind_c, kind_row_at, kinded_ans}
use Rattle.page.specs.declared.Kinded.{Kinded}
use Rattle.std.specs.Prelude.{Ok}
use Rattle.token.specs.declared.Cursor.{Cursor}

-- line e is told from the first lines of the n kinds from k on
unfoldable pub before : ℕ → ℕ → ℕ → Bool
before e zero k = true
before e (suc n) k = apart (shape e) (shape k) && before e n (suc k)

-- a test of the second line of kind k, if it is another than the first
abbrev pub of_second : Bool → ℕ → Bool
of_second t k = cond (eqb (second k) k) true t

-- both lines of kind k are sound, and the second is the first without a part
abbrev pub lines_ok : ℕ → Bool
lines_ok k = sound (shape k) && of_second (sound (shape (second k)) && left_out slot_station (shape k) (shape (second k))) k

-- the n kinds from k on have such lines, and each is told from those after it
unfoldable pub told : ℕ → ℕ → Bool
told zero k = true
told (suc n) k = lines_ok k && (before k n (suc k) && of_second (before (second k) n (suc k)) k) && told n (suc k)

-- what is tested of the second line holds of it where it is the first too
of_second_lem : (P : ℕ → Type 0) (t : Bool) (k : ℕ) → of_second t k ≡ true → P k → (t ≡ true → P (second k)) → P (second k)
of_second_lem P t k e first other = go (eqb (second k) k) refl e
  where
    go : (v : Bool) → eqb (second k) k ≡ v → cond v true t ≡ true → P (second k)
    go true i h = subst P (sym (eqb-true (second k) k i)) first
    go false i h = other h

before_at : (e n k : ℕ) → before e n k ≡ true → (j : ℕ) → k ≤ j → j < k + n → apart (shape e) (shape j) ≡ true
unfolding before
before_at e zero k h j a b = absurd (omega arith)
before_at e (suc n) k h j a b =
    let x = both (apart (shape e) (shape k)) (before e n (suc k)) h in
    go x.0 (λ c d. before_at e n (suc k) x.1 j c d) (eqb k j) refl
  where
    go : apart (shape e) (shape k) ≡ true → (suc k ≤ j → j < suc k + n → apart (shape e) (shape j) ≡ true) → (t : Bool) → eqb k j ≡ t → apart (shape e) (shape j) ≡ true
    go h ih true q = subst (λ y. apart (shape e) (shape y) ≡ true) (eqb-true k j q) h
    go h ih false q = let ne = eqb-false k j q in ih (omega (arith, ne)) (omega arith)

-- of the test: the lines of the first kind, that both are told from the kinds after it, and the test of those
record Split (n k : ℕ) : Type 0 where
  own : lines_ok k ≡ true
  first : before k n (suc k) ≡ true
  other : before (second k) n (suc k) ≡ true
  rest : told n (suc k) ≡ true

split : (n k : ℕ) → told (suc n) k ≡ true → Split n k
unfolding told
split n k e =
    let t = before (second k) n (suc k) in
    let a = both (lines_ok k && (before k n (suc k) && of_second t k)) (told n (suc k)) e in
    let b = both (lines_ok k) (before k n (suc k) && of_second t k) a.0 in
    let c = both (before k n (suc k)) (of_second t k) b.1 in
    record { own = b.0; first = c.0; other = of_second_lem (λ j. before j n (suc k) ≡ true) t k c.1 c.0 (λ h. h); rest = a.1 }

lines_at : (n k : ℕ) → told n k ≡ true → (j : ℕ) → k ≤ j → j < k + n → lines_ok j ≡ true
lines_at zero k h j a b = absurd (omega arith)
lines_at (suc n) k h j a b = let x = split n k h in go x.own (λ c d. lines_at n (suc k) x.rest j c d) (eqb k j) refl
  where
    go : lines_ok k ≡ true → (suc k ≤ j → j < suc k + n → lines_ok j ≡ true) → (t : Bool) → eqb k j ≡ t → lines_ok j ≡ true
    go h ih true q = subst (λ y. lines_ok y ≡ true) (eqb-true k j q) h
    go h ih false q = let ne = eqb-false k j q in ih (omega (arith, ne)) (omega arith)

-- ---- one kind in its two lines
record Lines (k : ℕ) : Type 0 where
  first : sound (shape k) ≡ true
  other : sound (shape (second k)) ≡ true
  fits : (id : ℕ) (r : Row) → (shape_c (shape (second k)) id).good r → (shape_c (shape k) id).good r

lines_of : (k : ℕ) → lines_ok k ≡ true → Lines k
lines_of k e =
    let t = sound (shape (second k)) && left_out slot_station (shape k) (shape (second k)) in
    let a = both (sound (shape k)) (of_second t k) e in
    record {
      first = a.0;
      other = of_second_lem (λ j. sound (shape j) ≡ true) t k a.1 a.0 (λ h. (both (sound (shape (second k))) _ h).0);
      fits =
          of_second_lem (λ j. (id : ℕ) (r : Row) → (shape_c (shape j) id).good r → (shape_c (shape k) id).good r) t k a.1 (λ id r g. g)
          (λ h id r g. whole slot_station (shape k) (shape (second k)) id (both (sound (shape (second k))) _ h).1 r g);
    }

module _ (k id : ℕ) (x : Lines k) where
  spelled_there : There (spelled_c k id)
  spelled_there = also_there (shape_c (shape k) id) (shape_c (shape (second k)) id) (shape_there (shape k) id x.first)

  spelled_moves : Moves (spelled_c k id)
  spelled_moves =
      also_moves (shape_c (shape k) id) (shape_c (shape (second k)) id) (x.fits id)
      (shape_moves (shape k) id x.first) (shape_moves (shape (second k)) id x.other)

-- where an element of the shape of line j is written, a kind that is told from it does not read
spelled_apart : (k j id : ℕ) → apart (shape k) (shape j) ≡ true → apart (shape (second k)) (shape j) ≡ true → sound (shape j) ≡ true → Apart (shape_c (shape j) id) (spelled_c k id)
spelled_apart k j id e f o s at r p g st y q rd = go ((shape_c (shape k) id).read s at) refl rd
  where
    go : (x : Ans Row) → (shape_c (shape k) id).read s at ≡ x → or_else x ((shape_c (shape (second k)) id).read s at) ≡ got y q → ⊥
    go (got z w) i h = shapes_apart (shape k) (shape j) id e o s at r p g st y q (i ∙ h)
    go (bad m w) i h = shapes_apart (shape (second k)) (shape j) id f o s at r p g st y q h

-- ---- what is read with its text is what is read with the part that the text is
spelled_in : (k id : ℕ) (s : List ℕ) (at : ℕ) → (spelled_c k id).read s at ≡ keep (spelled_at k id s at) (λ r p. got (row_of_part s r) p)
unfolding spelled_at
spelled_in k id s at = ap₂ or_else (shape_in (shape k) id s at) (shape_in (shape (second k)) id s at) ∙ go (row_at (shape k) id s at) (row_at (shape (second k)) id s at)
  where
    go : (x y : Ans PartRow) → or_else (keep x (λ r p. got (row_of_part s r) p)) (keep y (λ r p. got (row_of_part s r) p)) ≡ keep (or_else x y) (λ r p. got (row_of_part s r) p)
    go (got r p) y = refl
    go (bad j p) y = refl

-- what the first line says: it reads, or it does not and the second decides
pub spelled_first : (k id : ℕ) (s : List ℕ) (at : ℕ) {r : PartRow} {p : ℕ} → row_at (shape k) id s at ≡ got r p → spelled_at k id s at ≡ got r p
unfolding spelled_at
spelled_first k id s at e = ap (λ (x : Ans PartRow). or_else x (row_at (shape (second k)) id s at)) e

pub spelled_second : (k id : ℕ) (s : List ℕ) (at : ℕ) {j p : ℕ} → row_at (shape k) id s at ≡ bad j p → row_at (shape (second k)) id s at ≡ spelled_at k id s at
unfolding spelled_at
spelled_second k id s at e = ap (λ (x : Ans PartRow). or_else x (row_at (shape (second k)) id s at)) (sym e)

-- a station that is read is one
spelled_station : (k id : ℕ) (s : List ℕ) (at : ℕ) (r : PartRow) (p : ℕ) → spelled_at k id s at ≡ got r p → num_of r slot_station ≤ last_station
unfolding spelled_at shape
spelled_station k id s at r p e = go (row_at (shape k) id s at) refl e
  where
    go : (x : Ans PartRow) → row_at (shape k) id s at ≡ x → or_else x (row_at (shape (second k)) id s at) ≡ got r p → num_of r slot_station ≤ last_station
    go (got z q) i h = station_read (pick page k) id s at r p (i ∙ h)
    go (bad j q) i h = station_read (pick page (second k)) id s at r p h

-- ---- the first of some kinds
module _ {X : Type 0} (R : ℕ → Ans X) (at : ℕ) where
  first_yes : (n k : ℕ) (r : X) (p : ℕ) → R k ≡ got r p → first_of R at (suc n) k ≡ got (k, r) p
  unfolding first_of
  first_yes n k r p e = ap (λ x. first_kind k x (first_of R at n (suc k))) e

  first_no : (n k j q : ℕ) → R k ≡ bad j q → first_of R at (suc n) k ≡ first_of R at n (suc k)
  unfolding first_of
  first_no n k j q e = ap (λ x. first_kind k x (first_of R at n (suc k))) e

  -- a turn of the loop that tries the kinds up to `end`
  turn : (end k : ℕ) → k < end → first_of R at (end - k) k ≡ first_of R at (suc (end - (k + 1))) k
  turn end k h = let j : end - k ≡ suc (end - (k + 1)) = omega arith in ap (λ n. first_of R at n k) j

  pub turn_yes : (end k : ℕ) (r : X) (p : ℕ) → k < end → R k ≡ got r p → first_of R at (end - k) k ≡ got (k, r) p
  turn_yes end k r p h e = turn end k h ∙ first_yes (end - (k + 1)) k r p e

  pub turn_no : (end k j q : ℕ) → k < end → R k ≡ bad j q → first_of R at (end - k) k ≡ first_of R at (end - (k + 1)) (k + 1)
  turn_no end k j q h e = turn end k h ∙ first_no (end - (k + 1)) k j q e ∙ ap (λ m. first_of R at (end - (k + 1)) m) (sym (add-one k))

  pub turn_end : (end k : ℕ) → end ≤ k → first_of R at (end - k) k ≡ bad 7 at
  unfolding first_of
  turn_end end k h = let j : end - k ≡ 0 = omega arith in ap (λ n. first_of R at n k) j

  -- where none of them reads, that is refused at the element's own place
  pub kind_bad : (n k j q : ℕ) → first_of R at n k ≡ bad j q → (j ≡ 7) × (q ≡ at)
  unfolding first_of
  kind_bad zero k j q e = (cc, cc)
  kind_bad (suc n) k j q e = go (λ h. kind_bad n (suc k) j q h) (R k) e
    where
      go : (first_of R at n (suc k) ≡ bad j q → (j ≡ 7) × (q ≡ at)) → (y : Ans X) → first_kind k y (first_of R at n (suc k)) ≡ bad j q → (j ≡ 7) × (q ≡ at)
      go ih (got z p) h = never (sym h)
      go ih (bad m p) h = ih h

-- what is read with its text is what is read with the part that the text is
pub kind_in : (n k id : ℕ) (s : List ℕ) (at : ℕ) → kind_at n k id s at ≡ keep (kind_row_at n k id s at) (λ x p. got (x.0, row_of_part s x.1) p)
unfolding first_of kind_row_at
kind_in zero k id s at = refl
kind_in (suc n) k id s at =
    ap₂ (λ x d. first_kind k x d) (spelled_in k id s at) (kind_in n (suc k) id s at) ∙ go (spelled_at k id s at) (kind_row_at n (suc k) id s at)
  where
    go : (x : Ans PartRow) (d : Ans (ℕ × PartRow)) → first_kind k (keep x (λ r p. got (row_of_part s r) p)) (keep d (λ y p. got (y.0, row_of_part s y.1) p)) ≡ keep (first_kind k x d) (λ y p. got (y.0, row_of_part s y.1) p)
    go (got r p) d = refl
    go (bad j p) d = refl

module _ (id : ℕ) (s : List ℕ) (at : ℕ) where
  abbrev R : ℕ → Ans Row
  R k = (spelled_c k id).read s at

  kind_found : (n k : ℕ) → told n k ≡ true → (j : ℕ) (r : Row) (p : ℕ) → k ≤ j → j < k + n → (spelled_c j id).good r → Stands s at ((spelled_c j id).write r) p → kind_at n k id s at ≡ got (j, r) p
  kind_found zero k e j r p a b g st = absurd (omega arith)
  kind_found (suc n) k e j r p a b g st =
      let x = split n k e in
      go x (λ c d. kind_found n (suc k) x.rest j r p c d g st) (eqb k j) refl ((spelled_c k id).read s at) refl
    where
      go : Split n k → (suc k ≤ j → j < suc k + n → kind_at n (suc k) id s at ≡ got (j, r) p) → (t : Bool) → eqb k j ≡ t
          → (y : Ans Row) → (spelled_c k id).read s at ≡ y → kind_at (suc n) k id s at ≡ got (j, r) p
      go x ih true q y i =
          let same = eqb-true k j q in
          first_yes R at n k r p
          (spelled_there k id (lines_of k x.own) s at r p (subst (λ m. (spelled_c m id).good r) (sym same) g) (subst (λ m. Stands s at ((spelled_c m id).write r) p) (sym same) st))
          ∙ ap (λ m. got (m, r) p) same
      go x ih false q (got z w) i =
          let ne = eqb-false k j q in
          let after : suc k ≤ j = omega (arith, ne) in
          let told_from_lem : (e : ℕ) → before e n (suc k) ≡ true → apart (shape e) (shape j) ≡ true = λ e h. before_at e n (suc k) h j after (omega arith) in
          absurd (spelled_apart k j id (told_from_lem k x.first) (told_from_lem (second k) x.other) (lines_of j (lines_at (suc n) k e j a b)).first s at r p g st z w i)
      go x ih false q (bad m w) i = let ne = eqb-false k j q in first_no R at n k m w i ∙ ih (omega (arith, ne)) (omega arith)

  -- a kind that was read is one of them, and reads
  record Read (n k j : ℕ) (r : Row) (p : ℕ) : Type 0 where
    low : k ≤ j
    high : j < k + n
    reads : (spelled_c j id).read s at ≡ got r p

  kind_read : (n k j : ℕ) (r : Row) (p : ℕ) → kind_at n k id s at ≡ got (j, r) p → Read n k j r p
  unfolding first_of
  kind_read zero k j r p e = never e
  kind_read (suc n) k j r p e = go (λ h. kind_read n (suc k) j r p h) ((spelled_c k id).read s at) refl e
    where
      go : (kind_at n (suc k) id s at ≡ got (j, r) p → Read n (suc k) j r p) → (y : Ans Row) → (spelled_c k id).read s at ≡ y → first_kind k y (kind_at n (suc k) id s at) ≡ got (j, r) p → Read (suc n) k j r p
      go ih (got z q) i h =
          let v : ◌≡◌ {A = ℕ × Row} (k, z) (j, r) = value h in
          let kj : k ≡ j = ap (λ (x : ℕ × Row). x.0) v in
          let zr : z ≡ r = ap (λ (x : ℕ × Row). x.1) v in
          record { low = omega arith; high = omega arith; reads = subst (λ m. (spelled_c m id).read s at ≡ got r p) kj (i ∙ ap₂ got zr (place h)) }
      go ih (bad m q) i h = let x = ih h in record { low = omega (arith, x.low); high = omega (arith, x.high); reads = x.reads }

module _ (n k id : ℕ) (e : told n k ≡ true) where
  -- the lines of one of them
  its_lines : (j : ℕ) → k ≤ j → j < k + n → Lines j
  its_lines j a b = lines_of j (lines_at n k e j a b)

  pub kind_there : There (kind_c n k id)
  kind_there s at x p g st = kind_found id s at n k e x.0 x.1 p g.0.0 g.0.1 g.1 st

  pub kind_moves : Moves (kind_c n k id)
  kind_moves s at x p h =
      let r = kind_read id s at n k x.0 x.1 p h in
      let m = spelled_moves x.0 id (its_lines x.0 r.low r.high) s at x.1 p r.reads in
      record { good = ((r.low, r.high), m.good); forward = m.forward; inside = m.inside }

  -- what ends a list is told from its elements
  pub kind_apart : (z : ℕ) → before z n k ≡ true → Apart (kind_c n k id) (shape_c (shape z) id)
  kind_apart z h s at x p g st y q rd =
      shapes_apart (shape z) (shape x.0) id (before_at z n k h x.0 g.0.0 g.0.1) (its_lines x.0 g.0.0 g.0.1).first s at x.1 p g.1 st y q rd

-- a station that is read in an element is one, whatever the kinds
kind_station : (n k id : ℕ) (s : List ℕ) (at : ℕ) (x : ℕ × PartRow) (p : ℕ) → kind_row_at n k id s at ≡ got x p → num_of x.1 slot_station ≤ last_station
unfolding first_of kind_row_at
kind_station zero k id s at x p e = never e
kind_station (suc n) k id s at x p e = go (λ h. kind_station n (suc k) id s at x p h) (spelled_at k id s at) refl e
  where
    go : (kind_row_at n (suc k) id s at ≡ got x p → num_of x.1 slot_station ≤ last_station) → (y : Ans PartRow) → spelled_at k id s at ≡ y → first_kind k y (kind_row_at n (suc k) id s at) ≡ got x p
        → num_of x.1 slot_station ≤ last_station
    go ih (got r q) i h = subst (λ (z : ℕ × PartRow). num_of z.1 slot_station ≤ last_station) (value h) (spelled_station k id s at r q i)
    go ih (bad j q) i h = ih h

pub kinded_station : (n k id : ℕ) (s : List ℕ) (at : ℕ) {x : Kinded × Cursor} → kind_row_at n k id s at ≡ kinded_ans (Ok x) → get_or x.0.row.nums slot_station 0 ≤ last_station
kinded_station n k id s at e = kind_station n k id s at _ _ e
