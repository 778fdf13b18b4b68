-- The cases of each edit, by what its checks and its search said; and what holds in all of them. Assumes nothing.
use Rattle.std.proofs.Common.{Option, Some, None}
use Prim.Native.Nat.{ℕ}
use mathlib.Core.Path.{◌≡◌, refl, ap, ◌∙◌}
use mathlib.Core.List.{List}
use mathlib.Core.Bool.{true, not}
use lib.Dec.{eqb}
use borrow.Author.Tests.{eqb-false, not-true}
use Rattle.text.specs.Text.{text_ok}
use Rattle.terms.specs.Check.{checked}
use Rattle.terms.specs.declared.Check.{Check}
use Rattle.terms.specs.declared.Check.TheVariants.{Pass, Fail}
use Rattle.terms.specs.declared.Luid.{Luid}
use Rattle.terms.proofs.CheckLaws.{goes_on, stops, passes}
use Rattle.cards.specs.declared.Press.{Press}
use Rattle.cards.specs.Press.{is_open, find_card}
use Rattle.press_edits.specs.Edited.{Edited}
use Rattle.press_edits.specs.Edit.{refusal, done, room_for, add_if_room, press_add, with_edit, edit_if_found, press_edit, delete_if_found, press_delete}

-- what the checks said
abbrev pub Closed : Press → Check → Type 0
Closed p k = checked (not (is_open p.awaits)) ≡ k

abbrev pub Ruled : List ℕ → Check → Type 0
Ruled s k = checked (text_ok s) ≡ k

abbrev pub Left : Press → Check → Type 0
Left p k = checked (not (eqb p.cards.fp 4294967295)) ≡ k

module _ (p : Press) (s : List ℕ) where
  pub add_open : Closed p Fail → press_add p s ≡ refusal 1 p
  unfolding press_add
  add_open e = stops _ _ _ e

  pub add_text : Closed p Pass → Ruled s Fail → press_add p s ≡ refusal 4 p
  unfolding press_add
  add_text e f = goes_on _ _ _ e ∙ stops _ _ _ f

  pub add_at : (r : Option ℕ) → Closed p Pass → Ruled s Pass → room_for p.cards ≡ r → press_add p s ≡ add_if_room p s r
  unfolding press_add
  add_at r e f g = goes_on _ _ _ e ∙ goes_on _ _ _ f ∙ ap (add_if_room p s) g

  -- what holds of each refusal and of the edit that is done holds of the call
  pub add_all : (P : Edited → Type 0) → ((n : ℕ) → P (refusal n p)) → ((i : ℕ) → text_ok s ≡ true → room_for p.cards ≡ Some i → P (add_if_room p s (Some i))) → P (press_add p s)
  add_all P if-refused if-done = go (checked (not (is_open p.awaits))) (checked (text_ok s)) (room_for p.cards) refl refl refl
    where
      go : (k m : Check) (r : Option ℕ) → Closed p k → Ruled s m → room_for p.cards ≡ r → P (press_add p s)
      go Fail m r e f g = rw (add_open e) (if-refused 1)
      go Pass Fail r e f g = rw (add_text e f) (if-refused 4)
      go Pass Pass None e f g = rw (add_at None e f g) (if-refused 2)
      go Pass Pass (Some i) e f g = rw (add_at (Some i) e f g) (if-done i (passes _ f) g)

module _ (p : Press) (l : Luid) (s : List ℕ) where
  pub edit_open : Closed p Fail → press_edit p l s ≡ refusal 1 p
  unfolding press_edit
  edit_open e = stops _ _ _ e

  pub edit_at : (r : Option ℕ) → Closed p Pass → find_card p.cards l ≡ r → press_edit p l s ≡ edit_if_found p l s r
  unfolding press_edit
  edit_at r e f = goes_on _ _ _ e ∙ ap (edit_if_found p l s) f

  pub edit_text : (i : ℕ) → Ruled s Fail → edit_if_found p l s (Some i) ≡ refusal 4 p
  edit_text i e = stops _ _ _ e

  pub edit_spent : (i : ℕ) → Ruled s Pass → Left p Fail → edit_if_found p l s (Some i) ≡ refusal 2 p
  edit_spent i e f = goes_on _ _ _ e ∙ stops _ _ _ f

  pub edit_done : (i : ℕ) → Ruled s Pass → Left p Pass → edit_if_found p l s (Some i) ≡ done p l (with_edit p.cards i s)
  edit_done i e f = goes_on _ _ _ e ∙ goes_on _ _ _ f

  pub edit_all : (P : Edited → Type 0) → ((n : ℕ) → P (refusal n p)) → ((i : ℕ) → find_card p.cards l ≡ Some i → text_ok s ≡ true → (p.cards.fp ≡ 4294967295 → ⊥) → P (done p l (with_edit p.cards i s)))
      → P (press_edit p l s)
  edit_all P if-refused if-done =
      go (checked (not (is_open p.awaits))) (find_card p.cards l) (checked (text_ok s)) (checked (not (eqb p.cards.fp 4294967295))) refl refl refl refl
    where
      go : (k : Check) (r : Option ℕ) (m n : Check) → Closed p k → find_card p.cards l ≡ r → Ruled s m → Left p n → P (press_edit p l s)
      go Fail r m n e f g h = rw (edit_open e) (if-refused 1)
      go Pass None m n e f g h = rw (edit_at None e f) (if-refused 3)
      go Pass (Some i) Fail n e f g h = rw (edit_at (Some i) e f, edit_text i g) (if-refused 4)
      go Pass (Some i) Pass Fail e f g h = rw (edit_at (Some i) e f, edit_spent i g h) (if-refused 2)
      go Pass (Some i) Pass Pass e f g h = rw (edit_at (Some i) e f, edit_done i g h) (if-done i f (passes _ g) (eqb-false p.cards.fp 4294967295 (not-true (eqb p.cards.fp 4294967295) (passes _ h))))

module _ (p : Press) (l : Luid) where
  pub delete_open : Closed p Fail → press_delete p l ≡ refusal 1 p
  unfolding press_delete
  delete_open e = stops _ _ _ e

  pub delete_at_lem : (r : Option ℕ) → Closed p Pass → find_card p.cards l ≡ r → press_delete p l ≡ delete_if_found p l r
  unfolding press_delete
  delete_at_lem r e f = goes_on _ _ _ e ∙ ap (delete_if_found p l) f

  pub delete_all : (P : Edited → Type 0) → ((n : ℕ) → P (refusal n p)) → ((i : ℕ) → find_card p.cards l ≡ Some i → P (delete_if_found p l (Some i))) → P (press_delete p l)
  delete_all P if-refused if-done = go (checked (not (is_open p.awaits))) (find_card p.cards l) refl refl
    where
      go : (k : Check) (r : Option ℕ) → Closed p k → find_card p.cards l ≡ r → P (press_delete p l)
      go Fail r e f = rw (delete_open e) (if-refused 1)
      go Pass None e f = rw (delete_at_lem None e f) (if-refused 3)
      go Pass (Some i) e f = rw (delete_at_lem (Some i) e f) (if-done i f)
