-- What is written by a sound shape is read where it stands; what is read by it has a written form, no longer than what was read.
-- Assumes nothing.
use Prim.Native.Nat.{ℕ, ◌+◌, ◌≤◌, ◌<◌}
use mathlib.Core.Path.{◌≡◌, refl, sym, ap, ◌∙◌, subst}
use mathlib.Core.Bool.{Bool, true, false≢true, ◌&&◌, not}
use mathlib.Core.List.{List, [], ◌∷◌, ◌++◌}
use native.Mathlib.Omega.{arith}
use lib.ListN.{length, drop, length-set}
use lib.Seq.{get_or-set_same, get_or-set_other}
use lib.Dec.{eqb, leb, ltb}
use borrow.Author.Tests.{eqb-true, eqb-false, leb-true, ltb-true, not-true}
use Rattle.token.specs.Ans.{Ans, got, bad, and_then, keep, Stands}
use Rattle.token.specs.Number.{number_at, count, is_digit, Spellable}
use Rattle.token.specs.Literal.{literal_at}
use Rattle.token.proofs.LiteralLaws.{literal_there, literal_moves}
use Rattle.token.proofs.NumberLaws.{both, number_there, number_moves}
use Rattle.token.proofs.LengthLaws.{spellable}
use Rattle.token.proofs.StandsLaws.{left, right, chain, kept}
use Rattle.words.specs.Words.{word_at}
use Rattle.words.proofs.WordTests.{told_apart}
use Rattle.words.proofs.WordLaws.{word_there, word_moves}
use Rattle.text.specs.Text.{GoodText}
use Rattle.spelling.specs.Data.{data_at}
use Rattle.spelling.proofs.DataLaws.{data_there, data_moves}
use Rattle.grammar.specs.Codec.{There, Moves}
use Rattle.grammar.proofs.CodecLaws.{value, place}
use Rattle.grammar.proofs.NumberedLaws.{never}
use Rattle.shape.specs.Row.{RowOf, Row, slots, blank, num_of, with_num, with_text}
use Rattle.shape.specs.Marks.{Fixed, due, exactly, Field, byte, fixed, num, word, text}
use Rattle.shape.specs.Shape.{fixed_at, Value, nothing, slot, body, one_at, with_value, write_one, GoodOne, read_one, copy_one, write_shape, GoodShape, read_shape, copy_shape, shape_c}
use Rattle.shape.proofs.Sound.{narrow, ends, is_byte, begun, follows, parted, fills_num, fills_text, none, fresh, distinct, sound}

-- ---- what has to come after a field
abbrev pub Next : Field → List ℕ → Type 0
Next (byte b) l = Unit {0}
Next (fixed w) l = (narrow w ≡ true) × (count l ≡ 0)
Next (num k lo hi) l = (hi ≤ 4294967295) × (count l ≡ 0)
Next (word k n from) l = (told_apart n from n from ≡ true) × ((t : List ℕ) × (l ≡ 34 ∷ t))
Next text l = Unit {0}

none_next : (f : Field) (l : List ℕ) → is_byte f ≡ true → Next f l
none_next (byte b) l e = tt
none_next (fixed w) l e = absurd (false≢true e)
none_next (num k lo hi) l e = absurd (false≢true e)
none_next (word k n from) l e = absurd (false≢true e)
none_next text l e = absurd (false≢true e)

ends_next : (f : Field) (b : ℕ) (l : List ℕ) → ends f b ≡ true → Next f (b ∷ l)
unfolding count
ends_next (byte c) b l e = tt
ends_next (fixed w) b l e = let x = both (not (is_digit b)) (narrow w) e in (x.1, simp (not-true (is_digit b) x.0))
ends_next (num k lo hi) b l e = let x = both (not (is_digit b)) (leb hi 4294967295) e in (leb-true hi 4294967295 x.1, simp (not-true (is_digit b) x.0))
ends_next (word k n from) b l e = let x = both (eqb b 34) (told_apart n from n from) e in (x.1, (l, ap (λ (c : ℕ). c ∷ l) (eqb-true b 34 x.0)))
ends_next text b l e = tt

pub follow_next : (id : ℕ) (r : Row) (f : Field) (l : List Field) (t : List ℕ) → follows f l ≡ true → Next f (write_shape id r l ++ t)
follow_next id r f [] t e = none_next f _ e
follow_next id r f (byte b ∷ l) t e = ends_next f b _ e
follow_next id r f (fixed w ∷ l) t e = none_next f _ e
follow_next id r f (num k lo hi ∷ l) t e = none_next f _ e
follow_next id r f (word k n from ∷ l) t e = none_next f _ e
follow_next id r f (text ∷ l) t e = none_next f _ e

-- ---- what is written reads back
fixed_spells : (id : ℕ) (r : Row) (w : Fixed) → GoodOne id r (fixed w) → narrow w ≡ true → Spellable (fixed_at id w)
fixed_spells id r due g e = g
fixed_spells id r (exactly n) g e = spellable n (leb-true n 4294967295 e)

pub one_there : (id : ℕ) (r : Row) (f : Field) (s : List ℕ) (at p : ℕ) (x : Row) → GoodOne id r f → Stands s at (write_one id r f) p → Next f (drop p s) → read_one data_at id f s at x ≡ got (copy_one r f x) p
unfolding one_at
one_there id r (byte b) s at p x g st n = rw (literal_there s at (b ∷ []) p st)
one_there id r (fixed w) s at p x g st n =
    let m = fixed_at id w in
    rw (number_there s at m m m p (omega arith) (omega arith) (fixed_spells id r w g n.0) st n.1)
one_there id r (num k lo hi) s at p x g st n = rw (number_there s at (num_of r k) lo hi p g.0 g.1 (spellable (num_of r k) (omega (arith, g.1, n.0))) st n.1)
one_there id r (word k m from) s at p x g st n = rw (word_there m from (num_of r k) s at p n.1.0 n.0 g.0 g.1 st n.1.1)
one_there id r text s at p x g st n = rw (data_there s at r.text p g st)

module _ (id : ℕ) (r : Row) (s : List ℕ) where
  -- what comes after a field in a shape that stands there
  pub next_in : (f : Field) (l : List Field) (at p : ℕ) → follows f l ≡ true → Stands s at (write_shape id r (f ∷ l)) p → Next f (drop (at + length (write_one id r f)) s)
  next_in f l at p e st =
      let y = right s at (write_one id r f) (write_shape id r l) p st in
      subst (λ (d : List ℕ). Next f d) (sym y.text) (follow_next id r f l (drop p s) e)

  there : (l : List Field) (at p : ℕ) (x : Row) → parted l ≡ true → GoodShape id r l → Stands s at (write_shape id r l) p → read_shape data_at id l s at x ≡ got (copy_shape r l x) p
  there [] at p x e g st = ap (got x) (omega (arith, st.next))
  there (f ∷ l) at p x e g st =
      let w = write_one id r f in
      let b = both (follows f l) (parted l) e in
      let q = at + length w in
      ap (λ y. keep y (λ z m. read_shape data_at id l s m z)) (one_there id r f s at q x g.0 (left s at w (write_shape id r l) p st) (next_in f l at p b.0 st))
      ∙ there l q p (copy_one r f x) b.1 g.1 (right s at w (write_shape id r l) p st)

-- ---- what is read by a shape
module _ (id : ℕ) (s : List ℕ) where
  -- the value that reading one field found, and the row with it
  pub one : {T A : Type 0} (f : A → Value T) (x y : RowOf T) (p : ℕ) (a : Ans A) → keep (keep a (λ n q. got (f n) q)) (λ v q. got (with_value v x) q) ≡ got y p → (n : A) × (a ≡ got n p) × (with_value (f n) x ≡ y)
  one f x y p (got n q) e = (n, ap (got n) (place e), value e)
  one f x y p (bad k q) e = never e

  -- a field that does not fill a slot leaves it as it was
  keeps_num : (k : ℕ) (f : Field) (at : ℕ) (x y : Row) (p : ℕ) → not (fills_num k f) ≡ true → read_one data_at id f s at x ≡ got y p → num_of y k ≡ num_of x k
  unfolding one_at
  keeps_num k (byte b) at x y p e q = ap (λ (z : Row). num_of z k) (sym (one (λ _. nothing) x y p (literal_at s at (b ∷ [])) q).2)
  keeps_num k (fixed w) at x y p e q = ap (λ (z : Row). num_of z k) (sym (one (λ _. nothing) x y p (number_at s at (fixed_at id w) (fixed_at id w)) q).2)
  keeps_num k (num j lo hi) at x y p e q =
      let o = one (slot j) x y p (number_at s at lo hi) q in
      ap (λ (z : Row). num_of z k) (sym o.2) ∙ get_or-set_other x.nums j k o.0 0 (eqb-false k j (not-true (eqb k j) e))
  keeps_num k (word j n from) at x y p e q =
      let o = one (slot j) x y p (word_at n from s at) q in
      ap (λ (z : Row). num_of z k) (sym o.2) ∙ get_or-set_other x.nums j k o.0 0 (eqb-false k j (not-true (eqb k j) e))
  keeps_num k text at x y p e q = ap (λ (z : Row). num_of z k) (sym (one body x y p (data_at s at) q).2)

  keeps_text : (f : Field) (at : ℕ) (x y : Row) (p : ℕ) → not (fills_text f) ≡ true → read_one data_at id f s at x ≡ got y p → y.text ≡ x.text
  unfolding one_at
  keeps_text (byte b) at x y p e q = ap (λ (z : Row). z.text) (sym (one (λ _. nothing) x y p (literal_at s at (b ∷ [])) q).2)
  keeps_text (fixed w) at x y p e q = ap (λ (z : Row). z.text) (sym (one (λ _. nothing) x y p (number_at s at (fixed_at id w) (fixed_at id w)) q).2)
  keeps_text (num j lo hi) at x y p e q = ap (λ (z : Row). z.text) (sym (one (slot j) x y p (number_at s at lo hi) q).2)
  keeps_text (word j n from) at x y p e q = ap (λ (z : Row). z.text) (sym (one (slot j) x y p (word_at n from s at) q).2)
  keeps_text text at x y p e q = absurd (false≢true e)

  -- and so does a shape none of whose fields fills it
  stays : {A : Type 0} (fills : Field → Bool) (look : Row → A) → ((f : Field) (at : ℕ) (x y : Row) (p : ℕ) → not (fills f) ≡ true → read_one data_at id f s at x ≡ got y p → look y ≡ look x)
      → (l : List Field) (at : ℕ) (x r : Row) (p : ℕ) → none fills l ≡ true → read_shape data_at id l s at x ≡ got r p → look r ≡ look x
  stays fills look h [] at x r p e q = ap look (sym (value q))
  stays fills look h (f ∷ l) at x r p e q =
      let b = both (not (fills f)) (none fills l) e in
      let a = kept (read_one data_at id f s at x) _ r p q in
      stays fills look h l a.1 a.0 r p b.1 a.3 ∙ h f at x a.0 a.1 b.0 a.2

  -- two rows have the same value for a field
  abbrev Agree : Field → Row → Row → Type 0
  Agree (byte b) y r = Unit {0}
  Agree (fixed w) y r = Unit {0}
  Agree (num k lo hi) y r = num_of y k ≡ num_of r k
  Agree (word k n from) y r = num_of y k ≡ num_of r k
  Agree text y r = y.text ≡ r.text

  agreed : (f : Field) (l : List Field) (at : ℕ) (y r : Row) (p : ℕ) → fresh f l ≡ true → read_shape data_at id l s at y ≡ got r p → Agree f y r
  agreed (byte b) l at y r p e q = tt
  agreed (fixed w) l at y r p e q = tt
  agreed (num k lo hi) l at y r p e q = sym (stays (fills_num k) (λ (z : Row). num_of z k) (keeps_num k) l at y r p (both (ltb k slots) _ e).1 q)
  agreed (word k n from) l at y r p e q = sym (stays (fills_num k) (λ (z : Row). num_of z k) (keeps_num k) l at y r p (both (ltb k slots) _ e).1 q)
  agreed text l at y r p e q = sym (stays fills_text (λ (z : Row). z.text) keeps_text l at y r p e q)

  -- a field whose value is the number in slot k: n was read, and stands in any row that agrees
  slot_kept : (k : ℕ) (x y r : Row) (n : ℕ) → k < length x.nums → with_num x k n ≡ y → num_of y k ≡ num_of r k → n ≡ num_of r k
  slot_kept k x y r n h e g = sym (get_or-set_same x.nums k n 0 h) ∙ ap (λ (v : Row). num_of v k) e ∙ g

  -- ---- moves: a row that was read by a shape has values in the written form, all else is as it was, and the reading went on and stayed inside
  pub record Moved (l : List Field) (at : ℕ) (x r : Row) (p : ℕ) : Type 0 where
    pub good : GoodShape id r l
    pub copied : copy_shape r l x ≡ r
    pub on : at ≤ p
    pub inside : p ≤ length s

  -- the same of one field, and of any row that has its value
  record MovedOne (f : Field) (at : ℕ) (x y r : Row) (p : ℕ) : Type 0 where
    good : GoodOne id r f
    copied : copy_one r f x ≡ y
    size : length y.nums ≡ slots
    on : at ≤ p
    inside : p ≤ length s

  -- one that fills the slot k with n
  slot_moves : (k : ℕ) (P : ℕ → Type 0) (f : Field) (at : ℕ) (x y r : Row) (p n : ℕ) → ltb k slots ≡ true → length x.nums ≡ slots → with_num x k n ≡ y → num_of y k ≡ num_of r k → P n → at ≤ p → p ≤ length s
      → (P (num_of r k) → with_num x k (num_of r k) ≡ y → GoodOne id r f × (copy_one r f x ≡ y)) → MovedOne f at x y r p
  slot_moves k P f at x y r p n h z e g pn o i fits =
      let same = slot_kept k x y r n (omega (arith, ltb-true k slots h, z)) e g in
      let t = fits (subst P same pn) (ap (with_num x k) (sym same) ∙ e) in
      record { good = t.0; copied = t.1; size = ap (λ (v : Row). length v.nums) (sym e) ∙ length-set x.nums k n ∙ z; on = o; inside = i }

  fixed_good : (r : Row) (w : Fixed) → Spellable (fixed_at id w) → GoodOne id r (fixed w)
  fixed_good r due h = h
  fixed_good r (exactly n) h = tt

  one_moves : (f : Field) (l : List Field) (at : ℕ) (x y r : Row) (p : ℕ) → length x.nums ≡ slots → fresh f l ≡ true → read_one data_at id f s at x ≡ got y p → Agree f y r → MovedOne f at x y r p
  unfolding one_at
  one_moves (byte b) l at x y r p z e q g =
      let o = one (λ _. nothing) x y p (literal_at s at (b ∷ [])) q in
      let m = literal_moves s at (b ∷ []) o.0 p o.1 in
      record { good = tt; copied = o.2; size = ap (λ (v : Row). length v.nums) (sym o.2) ∙ z; on = omega (arith, m.0); inside = m.1 }
  one_moves (fixed w) l at x y r p z e q g =
      let m = fixed_at id w in
      let o = one (λ _. nothing) x y p (number_at s at m m) q in
      let v = number_moves s at o.0 m m p o.1 in
      let same : o.0 ≡ m = omega (arith, v.low, v.high) in
      record {
        good = fixed_good r w (subst Spellable same v.spells);
        copied = o.2;
        size = ap (λ (u : Row). length u.nums) (sym o.2) ∙ z;
        on = omega (arith, v.forward);
        inside = v.inside;
      }
  one_moves (num k lo hi) l at x y r p z e q g =
      let o = one (slot k) x y p (number_at s at lo hi) q in
      let m = number_moves s at o.0 lo hi p o.1 in
      slot_moves k (λ v. (lo ≤ v) × (v ≤ hi)) (num k lo hi) at x y r p o.0 (both (ltb k slots) _ e).0 z o.2 g (m.low, m.high) (omega (arith, m.forward)) m.inside (λ a b. (a, b))
  one_moves (word k c from) l at x y r p z e q g =
      let o = one (slot k) x y p (word_at c from s at) q in
      let m = word_moves c from s at o.0 p o.1 in
      slot_moves k (λ v. (from ≤ v) × (v < from + c)) (word k c from) at x y r p o.0 (both (ltb k slots) _ e).0 z o.2 g (m.0, m.1) (omega (arith, m.2)) m.3 (λ a b. (a, b))
  one_moves text l at x y r p z e q g =
      let o = one body x y p (data_at s at) q in
      let m = data_moves s at o.0 p o.1 in
      let same : o.0 ≡ r.text = ap (λ (v : Row). v.text) o.2 ∙ g in
      record {
        good = subst GoodText same m.good;
        copied = ap (with_text x) (sym same) ∙ o.2;
        size = ap (λ (v : Row). length v.nums) (sym o.2) ∙ z;
        on = omega (arith, m.forward);
        inside = m.inside;
      }

  -- what reading by a shape came from: its first field, any row that agrees, and the rest
  record First (f : Field) (l : List Field) (at : ℕ) (x r : Row) (p : ℕ) : Type 0 where
    row : Row
    after : ℕ
    field : read_one data_at id f s at x ≡ got row after
    moved : MovedOne f at x row r after
    rest : read_shape data_at id l s after row ≡ got r p

  first : (f : Field) (l : List Field) (at : ℕ) (x r : Row) (p : ℕ) → length x.nums ≡ slots → fresh f l ≡ true → read_shape data_at id (f ∷ l) s at x ≡ got r p → First f l at x r p
  first f l at x r p z e rd =
      let a = kept (read_one data_at id f s at x) _ r p rd in
      let g = agreed f l a.1 a.0 r p e a.3 in
      record { row = a.0; after = a.1; field = a.2; moved = one_moves f l at x a.0 r a.1 z e a.2 g; rest = a.3 }

  pub moves : (l : List Field) (at : ℕ) (x r : Row) (p : ℕ) → at ≤ length s → length x.nums ≡ slots → distinct l ≡ true → read_shape data_at id l s at x ≡ got r p → Moved l at x r p
  moves [] at x r p h z e rd = let k = place rd in record { good = tt; copied = value rd; on = omega arith; inside = omega arith }
  moves (f ∷ l) at x r p h z e rd =
      let d = both (fresh f l) (distinct l) e in
      let a = first f l at x r p z d.0 rd in
      let o = a.moved in
      let t = moves l a.after a.row r p o.inside o.size d.1 a.rest in
      record { good = (o.good, t.good); copied = ap (λ (y : Row). copy_shape r l y) o.copied ∙ t.copied; on = omega (arith, o.on, t.on); inside = t.inside }

  -- a shape that a byte begins is read nowhere but within s, and past that byte
  pub begins_in : (l : List Field) (at : ℕ) (x r : Row) (p : ℕ) → length x.nums ≡ slots → distinct l ≡ true → begun l ≡ true → read_shape data_at id l s at x ≡ got r p → (at < p) × (at < length s)
  unfolding one_at
  begins_in [] at x r p z d e rd = absurd (false≢true e)
  begins_in (byte b ∷ l) at x r p z d e rd =
      let a = first (byte b) l at x r p z refl rd in
      let o = one (λ _. nothing) x a.row a.after (literal_at s at (b ∷ [])) a.field in
      let m = literal_moves s at (b ∷ []) o.0 a.after o.1 in
      let t = moves l a.after a.row r p m.1 a.moved.size (both true (distinct l) d).1 a.rest in
      (omega (arith, m.0, t.on), omega (arith, m.0, m.1))
  begins_in (fixed w ∷ l) at x r p z d e rd = absurd (false≢true e)
  begins_in (num k lo hi ∷ l) at x r p z d e rd = absurd (false≢true e)
  begins_in (word k n from ∷ l) at x r p z d e rd = absurd (false≢true e)
  begins_in (text ∷ l) at x r p z d e rd = absurd (false≢true e)

-- ---- the two laws of a sound shape
module _ (l : List Field) (id : ℕ) (e : sound l ≡ true) where
  starts : begun l ≡ true
  starts = (both (begun l) (parted l) (both (begun l && parted l) (distinct l) e).0).0

  apart_fields : parted l ≡ true
  apart_fields = (both (begun l) (parted l) (both (begun l && parted l) (distinct l) e).0).1

  once : distinct l ≡ true
  once = (both (begun l && parted l) (distinct l) e).1

  fields_read : (s : List ℕ) (at : ℕ) (r : Row) (p : ℕ) → (shape_c l id).read s at ≡ got r p → read_shape data_at id l s at blank ≡ got r p
  fields_read s at r p q = let c = chain at (read_shape data_at id l s at blank) _ r p q in c.2 ∙ c.3

  pub shape_there : There (shape_c l id)
  shape_there s at r p g st = ap (λ y. and_then at y (λ z q. got z q)) (there id r s l at p blank apart_fields g.0 st) ∙ ap (λ z. got z p) g.1

  pub shape_moves : Moves (shape_c l id)
  shape_moves s at r p q =
      let rd = fields_read s at r p q in
      let b = begins_in id s l at blank r p refl once starts rd in
      let m = moves id s l at blank r p (omega (arith, b.1)) refl once rd in
      record { good = (m.good, m.copied); forward = b.0; inside = m.inside }
