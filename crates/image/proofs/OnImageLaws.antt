-- A call on an image, from what was read of it and what was kept: for whichever side.
-- Assumes nothing.
use Rattle.std.proofs.Common.{Option, None, Some}
use Prim.Native.Nat.{ℕ}
use mathlib.Core.Path.{◌≡◌, sym, ap, ap₂, ◌∙◌}
use mathlib.Core.Bool.{Bool, cond}
use mathlib.Core.List.{List}
use lib.ListN.{length}
use borrow.Author.Tests.{eq-eqb, ne_eqb}
use Rattle.calls.specs.After.{After, after}
use Rattle.calls.specs.Reply.{Reply}
use Rattle.image.specs.Keeping.{Keeping, standing}
use Rattle.image.specs.OnImage.{no_image, Result, did, refused, replied, untold, Left, left, leaves, on_image, stands_for, stands_after, Keeps, MadeIn, Calls, result_in, output_in, CallsIn}

module _ {S : Type 0} (k : Keeping S) where
  -- ---- a result is kept: the image of the side after it; or nothing is touched
  pub done_kept : (p : S) (n : ℕ) (s : List ℕ) (t : ℕ) {s' : List ℕ} → s' ≡ k.image_of p → standing k s' ≡ Some p → (r : Result S) → r ≡ did n p → Keeps k r s t 0 s' n
  done_kept p n s t e h r d =
      (ap (λ (w : List ℕ). left 0 w n) e ∙ sym (ap (λ (x : Result S). leaves k x s t) d), h ∙ sym (ap (λ (x : Result S). stands_for x (standing k s)) d))

  pub refused_kept : (n : ℕ) (s : List ℕ) (t : ℕ) (r : Result S) → r ≡ refused n → Keeps k r s t n s t
  refused_kept n s t r d = (sym (ap (λ (x : Result S). leaves k x s t) d), sym (ap (λ (x : Result S). stands_for x (standing k s)) d))

  -- where what is told is not wanted
  pub kept_untold : (r : Result S) (s : List ℕ) (t : ℕ) {n t' : ℕ} {s' : List ℕ} → Keeps k r s t n s' t' → Keeps k (untold r) s 0 n s' 0
  kept_untold (did n p) s t h = (ap (λ (x : Left). left x.number x.image 0) h.0, h.1)
  kept_untold (refused n) s t h = (ap (λ (x : Left). left x.number x.image 0) h.0, h.1)

  module _ (s : List ℕ) (t : ℕ) where
    -- ---- a call, where there is no image, and where a side was read
    pub none_left : (f : S → Result S) → standing k s ≡ None → Calls k f s t no_image s t
    none_left f e = (sym (ap (λ (x : Option S). on_image k f x s t) e), e ∙ sym (ap (stands_after f) e))

    pub kept_left : (f : S → Result S) (p : S) → standing k s ≡ Some p → (r : Result S) → r ≡ f p → {n : ℕ} {s' : List ℕ} {t' : ℕ} → Keeps k r s t n s' t' → Calls k f s t n s' t'
    kept_left f p e r d h = (
      h.0 ∙ ap (λ (x : Result S). leaves k x s t) d ∙ sym (ap (λ (x : Option S). on_image k f x s t) e),
      h.1 ∙ ap₂ (λ (x : Result S) (y : Option S). stands_for x y) d e ∙ sym (ap (stands_after f) e),
    )

    -- with an output
    pub none_in : (f : S → After S) (out : List ℕ) → standing k s ≡ None → CallsIn k f s t out no_image s t out
    none_in f out e = (none_left (result_in f) e, sym (ap (λ (x : Option S). output_in f x out) e))

    pub kept_in : (f : S → After S) (out : List ℕ) (p : S) → standing k s ≡ Some p → (r : Reply) (q : S) (o : List ℕ) → after r q o ≡ f p
        → {n : ℕ} {s' : List ℕ} {t' : ℕ} → Keeps k (replied r q) s t n s' t' → CallsIn k f s t out n s' t' o
    kept_in f out p e r q o d h = (
      kept_left (result_in f) p e (replied r q) (ap (λ (x : After S). replied x.reply x.side) d) h,
      ap (λ (x : After S). x.output) d ∙ sym (ap (λ (x : Option S). output_in f x out) e),
    )

  -- ---- a side made fresh
  module _ (s : List ℕ) (r : Result S) where
    pub other_length : (length s ≡ k.size → ⊥) → MadeIn k r s no_image s
    other_length h =
        let e = ne_eqb (length s) k.size h in
        (sym (ap (λ (b : Bool). cond b (leaves k r s 0) (left no_image s 0)) e), sym (ap (λ (b : Bool). cond b (stands_for r (standing k s)) (standing k s)) e))

    pub made_kept : length s ≡ k.size → {n : ℕ} {s' : List ℕ} → Keeps k r s 0 n s' 0 → MadeIn k r s n s'
    made_kept h w =
        let e = eq-eqb (length s) k.size h in
        (w.0 ∙ sym (ap (λ (b : Bool). cond b (leaves k r s 0) (left no_image s 0)) e), w.1 ∙ sym (ap (λ (b : Bool). cond b (stands_for r (standing k s)) (standing k s)) e))
