-- What an element or a head in the written form tells of its values: each has the range of its mark.
-- Assumes nothing.
use Prim.Native.Nat.{ℕ, zero, suc, ◌+◌, ◌≤◌, ◌<◌}
use mathlib.Core.Path.{◌≡◌, refl, ap, subst}
use mathlib.Core.Bool.{Bool, true, false, cond, ◌&&◌}
use mathlib.Core.List.{List, [], ◌∷◌}
use native.Mathlib.Omega.{arith}
use lib.Dec.{eqb, leb}
use lib.ListN.{get_or, set}
use borrow.Author.Tests.{eq-eqb, leb-true}
use Rattle.token.specs.Texts.{pick}
use Rattle.token.proofs.NumberLaws.{both}
use Rattle.shape.specs.Marks.{Field, byte, fixed, num, word, text, mark_table, field_in, field_of, fields}
use Rattle.shape.specs.Row.{Row, blank, num_of}
use Rattle.shape.specs.Shape.{GoodOne, GoodShape, copy_one, copy_shape}
use Rattle.page.specs.Page.{page, shape}
use Rattle.page.specs.declared.Kinds.{Kinds}
use Rattle.elements.specs.declared.Head.{Head}
use Rattle.elements.specs.Element.{of_head, head_c, of_element}
use Rattle.lists.specs.declared.Entry.{Entry}
use Rattle.lists.specs.Lists.{entry_of}
use Rattle.sendable.specs.Sendable.{CardNumber, Number, Sendable}
use Rattle.sendable.proofs.MarkLaws.{marks}

-- ---- by its line: the value of each mark has the mark's range
good_marks : (id : ℕ) (r : Row) (l : List Field) → GoodShape id r l → GoodShape id r (marks l)
good_marks id r [] g = tt
good_marks id r (byte b ∷ l) g = good_marks id r l g.1
good_marks id r (fixed w ∷ l) g = good_marks id r l g.1
good_marks id r (num k lo hi ∷ l) g = (g.0, good_marks id r l g.1)
good_marks id r (word k n from ∷ l) g = (g.0, good_marks id r l g.1)
good_marks id r (text ∷ l) g = (g.0, good_marks id r l g.1)

-- some CmdID
some_id : Number 1
some_id = (omega arith, omega arith)

-- its kind is one of its list's
pub taken_kind : (k : Kinds) (e : Entry) → Sendable k e → (k.from ≤ e.fields.kind) × (e.fields.kind < k.from + k.count)
taken_kind k e h = (h.0 1 some_id).0

-- of an element of kind n, and of the head of package n
pub element_marks : (k : Kinds) (e : Entry) → Sendable k e → (n : ℕ) → e.fields.kind ≡ n → GoodShape 1 (of_element (entry_of e)).1 (marks (shape n))
element_marks k e h n q =
    let r = (of_element (entry_of e)).1 in
    subst (λ (m : ℕ). GoodShape 1 r (marks (shape m))) q (good_marks 1 r (shape e.fields.kind) (h.0 1 some_id).1.0)

pub head_marks : (h : Head) → head_c.good h → (n : ℕ) → h.pkg ≡ n → GoodShape 0 (of_head h).1 (marks (shape n))
head_marks h g n q =
    let r = (of_head h).1 in
    subst (λ (m : ℕ). GoodShape 0 r (marks (shape m))) q (good_marks 0 r (shape h.pkg) g.1.0)

-- an Add of the server has a GUID
pub add_guid : (k : Kinds) (e : Entry) → Sendable k e → e.fields.kind ≡ 17 → CardNumber e.fields.guid.0
unfolding shape page field_of
add_guid k e h q = (element_marks k e h 17 q).0

-- every head has a session number
pub head_session : (h : Head) → head_c.good h → Number h.session
unfolding shape page field_of
head_session h g = first h.pkg g.0.0 g.0.1 (head_marks h g h.pkg refl)
  where
    first : (n : ℕ) → 1 ≤ n → n < 7 → GoodShape 0 (of_head h).1 (marks (shape n)) → Number h.session
    first zero a b m = absurd (omega arith)
    first (suc zero) a b m = m.0
    first (suc (suc zero)) a b m = m.0
    first (suc (suc (suc zero))) a b m = m.0
    first (suc (suc (suc (suc zero)))) a b m = m.0
    first (suc (suc (suc (suc (suc zero))))) a b m = m.0
    first (suc (suc (suc (suc (suc (suc zero)))))) a b m = m.0
    first (suc (suc (suc (suc (suc (suc (suc n))))))) a b m = absurd (omega arith)

-- ---- whatever its line: the number of a slot is at most the greatest that a mark of the slot can have; where there is no such mark it is 0
-- a field that puts at most `most` into slot k
abbrev within : ℕ → ℕ → Field → Bool
within k most (byte b) = true
within k most (fixed w) = true
within k most (num j lo hi) = cond (eqb j k) (leb hi most) true
within k most (word j n from) = cond (eqb j k) (leb (from + n) most) true
within k most text = true

abbrev all_within : ℕ → ℕ → List (ℕ × Field) → Bool
all_within k most [] = true
all_within k most (x ∷ l) = within k most x.1 && all_within k most l

module _ (k most : ℕ) where
  either : (b : Bool) (f g : Field) → within k most f ≡ true → within k most g ≡ true → within k most (cond b f g) ≡ true
  either true f g p q = p
  either false f g p q = q

  mark_within : (l : List (ℕ × Field)) → all_within k most l ≡ true → (t : ℕ) → within k most (field_in l t) ≡ true
  mark_within [] e t = refl
  mark_within (x ∷ l) e t =
      let b = both (within k most x.1) (all_within k most l) e in
      either (eqb t x.0) x.1 (field_in l t) b.0 (mark_within l b.1 t)

  -- n is put into slot j
  put_most : (nums : List ℕ) (j i n : ℕ) → (j ≡ i → n ≤ most) → get_or nums i 0 ≤ most → get_or (set nums j n) i 0 ≤ most
  put_most [] j i n f h = h
  put_most (a ∷ nums) zero zero n f h = f refl
  put_most (a ∷ nums) zero (suc i) n f h = h
  put_most (a ∷ nums) (suc j) zero n f h = h
  put_most (a ∷ nums) (suc j) (suc i) n f h = put_most nums j i n (λ e. f (ap suc e)) h

  where_same : (b c : Bool) → cond b c true ≡ true → b ≡ true → c ≡ true
  where_same true c e q = e
  where_same false c e q = let z : ◌≡◌ {A = ℕ} 0 1 = cc in absurd (omega arith)

  module _ (all : all_within k most mark_table ≡ true) (id : ℕ) (r : Row) where
    copy_one_lem : (f : Field) (x : Row) → within k most f ≡ true → GoodOne id r f → num_of x k ≤ most → num_of (copy_one r f x) k ≤ most
    copy_one_lem (byte b) x w g h = h
    copy_one_lem (fixed w) x i g h = h
    copy_one_lem (num j lo hi) x w g h =
        put_most x.nums j k (num_of r j) (λ e. let m = leb-true hi most (where_same (eqb j k) (leb hi most) w (eq-eqb j k e)) in omega (arith, g.1)) h
    copy_one_lem (word j n from) x w g h =
        put_most x.nums j k (num_of r j) (λ e. let m = leb-true (from + n) most (where_same (eqb j k) (leb (from + n) most) w (eq-eqb j k e)) in omega (arith, g.1)) h
    copy_one_lem text x w g h = h

    copy_all : (l : List ℕ) (x : Row) → GoodShape id r (fields l) → num_of x k ≤ most → num_of (copy_shape r (fields l) x) k ≤ most
    unfolding field_of
    copy_all [] x g h = h
    copy_all (t ∷ l) x g h = copy_all l (copy_one r (field_of t) x) g.1 (copy_one_lem (field_of t) x (mark_within mark_table all t) g.0 h)

    row_most : (n : ℕ) → GoodShape id r (shape n) → copy_shape r (shape n) blank ≡ r → num_of blank k ≤ most → num_of r k ≤ most
    unfolding shape
    row_most n g c z = subst (λ (x : Row). num_of x k ≤ most) c (copy_all (pick page n) blank g z)

module _ (k : Kinds) (e : Entry) (h : Sendable k e) where
  element_most : (slot most : ℕ) → all_within slot most mark_table ≡ true → num_of blank slot ≤ most → num_of (of_element (entry_of e)).1 slot ≤ most
  element_most slot most all z =
      let g = (h.0 1 some_id).1 in
      row_most slot most all 1 (of_element (entry_of e)).1 e.fields.kind g.0 g.1 z

  pub taken_guid : e.fields.guid.0 ≤ 65535
  taken_guid = element_most 10 65535 refl (omega arith)

  pub taken_luid : e.fields.luid.0 ≤ 65535
  taken_luid = element_most 11 65535 refl (omega arith)

  pub taken_fp : e.fields.fp ≤ 4294967295
  taken_fp = element_most 12 4294967295 refl (omega arith)
