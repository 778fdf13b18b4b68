-- Which side stands in bytes: read, looked at and kept, for whichever side.
-- Assumes nothing.
use Rattle.std.proofs.Common.{None, Some}
use Prim.Native.Nat.{ℕ}
use mathlib.Core.Path.{◌≡◌, refl, sym, ap, ap₂, ◌∙◌}
use mathlib.Core.Bool.{Bool, true, false, cond, not, ◌&&◌}
use mathlib.Core.List.{List}
use lib.Dec.{eqb}
use Rattle.std.proofs.lemmas.Bool.Decides.{Decides-eqb}
use Rattle.std.proofs.lemmas.Slice.Eq.{slice_eq-Decides}
use Rattle.std.specs.Cmp.Lexicographic.{pointwise}
use lib.ListN.{length}
use lib.Seq.{sets}
use borrow.Author.Tests.{eq-eqb, ne_eqb, eqb-true}
use Rattle.places.proofs.Choice.{and_chosen, and_passed, and_first, and_second, and_both, never}
use Rattle.image.specs.Same.{same}
use Rattle.image.specs.Keeping.{Keeping, is_image, standing}
use Rattle.image.proofs.FlatLaws.{sets_whole}
use Rattle.image.proofs.SameLaws.{same_told, same_self, same_true}

-- a test that asks whether there is no image
pub unset : (b : Bool) → not b ≡ true → b ≡ false
unset true h = sym h
unset false h = refl

pub is_set : (b : Bool) → not b ≡ false → b ≡ true
is_set true h = refl
is_set false h = sym h

module _ {S : Type 0} (k : Keeping S) (s : List ℕ) where
  -- ---- bytes are looked at: too few or too many; or the side that stands in them is written again
  pub not_standing : (length s ≡ k.size → ⊥) → None ≡ standing k s
  not_standing h = sym (ap (λ (b : Bool). cond b (Some (k.side_in s)) None) (and_passed (eqb (length s) k.size) _ (ne_eqb (length s) k.size h)))

  looked_at : (again : List ℕ) (p : S) (ok fine : Bool) → length s ≡ k.size → length again ≡ length (k.image_of p) → p ≡ k.side_in s
      → (ok ≡ true → sets again 0 (k.image_of p) ≡ s) × (sets again 0 (k.image_of p) ≡ s → ok ≡ true) → fine ≡ k.in_range p → cond (ok && fine) (Some p) None ≡ standing k s
  looked_at again p ok fine h l e t f =
      let w : sets again 0 (k.image_of p) ≡ k.image_of p = sets_whole again (k.image_of p) (sym l) in
      let o : ok ≡ same (k.image_of p) s = same_told (k.image_of p) s ok (λ x. sym w ∙ t.0 x) (λ x. t.1 (w ∙ x)) in
      ap₂ (λ (b c : Bool). cond (b && c) (Some p) None) o f
      ∙ ap (λ (q : S). cond (same (k.image_of q) s && k.in_range q) (Some q) None) e
      ∙ sym (ap (λ (b : Bool). cond b (Some (k.side_in s)) None) (and_chosen (eqb (length s) k.size) _ (eq-eqb (length s) k.size h)))

  -- compared with what was written, w, and looked at whether the side is in range
  pub looked_told : (again w : List ℕ) (p : S) (ok fine : Bool) → length s ≡ k.size → length again ≡ length (k.image_of p) → p ≡ k.side_in s → w ≡ sets again 0 (k.image_of p) → ok ≡ pointwise eqb w s
      → fine ≡ k.in_range p → cond (ok && fine) (Some p) None ≡ standing k s
  looked_told again w p ok fine h l e x t f =
      let d = slice_eq-Decides Decides-eqb w s ok t in
      looked_at again p ok fine h l e (λ o. sym x ∙ d.0 o, λ y. d.1 (x ∙ y)) f

  -- so it stands there where both are so, and else none
  module _ (p : S) (ok fine : Bool) (e : cond (ok && fine) (Some p) None ≡ standing k s) where
    pub is_standing : ok ≡ true → fine ≡ true → Some p ≡ standing k s
    is_standing o f = ap (λ (b : Bool). cond b (Some p) None) (sym (and_both ok fine o f)) ∙ e

    pub other_bytes : ok ≡ false → None ≡ standing k s
    other_bytes o = ap (λ (b : Bool). cond b (Some p) None) (sym (and_passed ok fine o)) ∙ e

    pub out_of_range : ok ≡ true → fine ≡ false → None ≡ standing k s
    out_of_range o f = ap (λ (b : Bool). cond b (Some p) None) (sym (and_chosen ok fine o ∙ f)) ∙ e

  -- ---- what stands in an image: the bytes have its length and are its image, and it passes the test of its range
  pub record Standing (p : S) : Type 0 where
    pub long : length s ≡ k.size
    pub image : s ≡ k.image_of p
    pub read : k.side_in s ≡ p
    pub tested : k.in_range p ≡ true

  pub standing_is : (p : S) → standing k s ≡ Some p → Standing p
  standing_is p h = go (is_image k s) refl h
    where
      go : (b : Bool) → is_image k s ≡ b → cond b (Some (k.side_in s)) None ≡ Some p → Standing p
      go false e n = never (cc)
      go true e n =
          let is : k.side_in s ≡ p = cc in
          let same-one = same (k.image_of (k.side_in s)) s in
          let r = and_second (eqb (length s) k.size) (same-one && k.in_range (k.side_in s)) e in
          record {
            long = eqb-true (length s) k.size (and_first (eqb (length s) k.size) (same-one && k.in_range (k.side_in s)) e);
            image = sym (same_true (k.image_of (k.side_in s)) s (and_first same-one (k.in_range (k.side_in s)) r)) ∙ ap k.image_of is;
            read = is;
            tested = sym (ap k.in_range is) ∙ and_second same-one (k.in_range (k.side_in s)) r;
          }

-- ---- the image of a side, if it has its length and reads back and the side is in range, is one in which this side stands
pub image_stands : {S : Type 0} (k : Keeping S) (p : S) → length (k.image_of p) ≡ k.size → k.side_in (k.image_of p) ≡ p → k.in_range p ≡ true → standing k (k.image_of p) ≡ Some p
image_stands k p l e r =
    let s = k.image_of p in
    ap₂ (λ (b : Bool) (q : _). cond b (Some q) None)
    (and_both (eqb (length s) k.size) _ (eq-eqb (length s) k.size l) (and_both (same (k.image_of (k.side_in s)) s) _ (ap (λ (q : _). same (k.image_of q) s) e ∙ same_self s) (ap k.in_range e ∙ r)))
    e

-- what was read of bytes, where it was one and where it was none
pub read_none : {S : Type 0} (k : Keeping S) (s : List ℕ) (p : S) (b : Bool) → cond b (Some p) None ≡ standing k s → b ≡ false → standing k s ≡ None
read_none k s p b e h = sym e ∙ ap (λ (c : Bool). cond c (Some p) None) h

pub read_some : {S : Type 0} (k : Keeping S) (s : List ℕ) (p : S) (b : Bool) → cond b (Some p) None ≡ standing k s → b ≡ true → standing k s ≡ Some p
read_some k s p b e h = sym e ∙ ap (λ (c : Bool). cond c (Some p) None) h
