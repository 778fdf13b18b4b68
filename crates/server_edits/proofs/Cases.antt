-- The cases of each edit, by what its checks and its search said; and what holds in all of them. Assumes nothing.
use Rattle.std.proofs.Common.{Option, Some, None}
use Prim.Native.Nat.{ℕ}
use mathlib.Core.Path.{◌≡◌, refl, ap, ◌∙◌}
use mathlib.Core.List.{List}
use mathlib.Core.Bool.{true, not}
use Rattle.text.specs.Text.{text_ok}
use Rattle.terms.specs.Check.{checked}
use Rattle.terms.specs.declared.Check.{Check}
use Rattle.terms.specs.declared.Check.TheVariants.{Pass, Fail}
use Rattle.terms.specs.declared.Guid.{Guid}
use Rattle.terms.proofs.CheckLaws.{goes_on, stops, passes}
use Rattle.records.specs.declared.Server.{Server}
use Rattle.records.specs.Server.{is_open, find_record}
use Rattle.server_edits.specs.Edited.{Edited}
use Rattle.server_edits.specs.Edit.{refusal, done, room_for, add_if_room, server_add, with_edit, edit_if_found, server_edit, delete_if_found, server_delete}

-- what the checks said
abbrev pub Closed : Server → Check → Type 0
Closed p k = checked (not (is_open p.link.awaits)) ≡ k

abbrev pub Ruled : List ℕ → Check → Type 0
Ruled s k = checked (text_ok s) ≡ k

module _ (p : Server) (s : List ℕ) where
  pub add_open : Closed p Fail → server_add p s ≡ refusal 1 p
  unfolding server_add
  add_open e = stops _ _ _ e

  pub add_text : Closed p Pass → Ruled s Fail → server_add p s ≡ refusal 4 p
  unfolding server_add
  add_text e f = goes_on _ _ _ e ∙ stops _ _ _ f

  pub add_at : (r : Option ℕ) → Closed p Pass → Ruled s Pass → room_for p.records ≡ r → server_add p s ≡ add_if_room p s r
  unfolding server_add
  add_at r e f g = goes_on _ _ _ e ∙ goes_on _ _ _ f ∙ ap (add_if_room p s) g

  -- what holds of each refusal and of the edit that is done holds of the call
  pub add_all : (P : Edited → Type 0) → ((n : ℕ) → P (refusal n p)) → ((i : ℕ) → text_ok s ≡ true → room_for p.records ≡ Some i → P (add_if_room p s (Some i))) → P (server_add p s)
  add_all P if-refused if-done = go (checked (not (is_open p.link.awaits))) (checked (text_ok s)) (room_for p.records) refl refl refl
    where
      go : (k m : Check) (r : Option ℕ) → Closed p k → Ruled s m → room_for p.records ≡ r → P (server_add p s)
      go Fail m r e f h = rw (add_open e) (if-refused 1)
      go Pass Fail r e f h = rw (add_text e f) (if-refused 4)
      go Pass Pass None e f h = rw (add_at None e f h) (if-refused 2)
      go Pass Pass (Some i) e f h = rw (add_at (Some i) e f h) (if-done i (passes _ f) h)

module _ (p : Server) (g : Guid) (s : List ℕ) where
  pub edit_open : Closed p Fail → server_edit p g s ≡ refusal 1 p
  unfolding server_edit
  edit_open e = stops _ _ _ e

  pub edit_at : (r : Option ℕ) → Closed p Pass → find_record p.records g ≡ r → server_edit p g s ≡ edit_if_found p g s r
  unfolding server_edit
  edit_at r e f = goes_on _ _ _ e ∙ ap (edit_if_found p g s) f

  pub edit_text : (i : ℕ) → Ruled s Fail → edit_if_found p g s (Some i) ≡ refusal 4 p
  edit_text i e = stops _ _ _ e

  pub edit_done : (i : ℕ) → Ruled s Pass → edit_if_found p g s (Some i) ≡ done p g (with_edit p.records i s)
  edit_done i e = goes_on _ _ _ e

  pub edit_all : (P : Edited → Type 0) → ((n : ℕ) → P (refusal n p)) → ((i : ℕ) → find_record p.records g ≡ Some i → text_ok s ≡ true → P (done p g (with_edit p.records i s)))
      → P (server_edit p g s)
  edit_all P if-refused if-done = go (checked (not (is_open p.link.awaits))) (find_record p.records g) (checked (text_ok s)) refl refl refl
    where
      go : (k : Check) (r : Option ℕ) (m : Check) → Closed p k → find_record p.records g ≡ r → Ruled s m → P (server_edit p g s)
      go Fail r m e f h = rw (edit_open e) (if-refused 1)
      go Pass None m e f h = rw (edit_at None e f) (if-refused 3)
      go Pass (Some i) Fail e f h = rw (edit_at (Some i) e f, edit_text i h) (if-refused 4)
      go Pass (Some i) Pass e f h = rw (edit_at (Some i) e f, edit_done i h) (if-done i f (passes _ h))

module _ (p : Server) (g : Guid) where
  pub delete_open : Closed p Fail → server_delete p g ≡ refusal 1 p
  unfolding server_delete
  delete_open e = stops _ _ _ e

  pub delete_at_lem : (r : Option ℕ) → Closed p Pass → find_record p.records g ≡ r → server_delete p g ≡ delete_if_found p g r
  unfolding server_delete
  delete_at_lem r e f = goes_on _ _ _ e ∙ ap (delete_if_found p g) f

  pub delete_all : (P : Edited → Type 0) → ((n : ℕ) → P (refusal n p)) → ((i : ℕ) → find_record p.records g ≡ Some i → P (delete_if_found p g (Some i))) → P (server_delete p g)
  delete_all P if-refused if-done = go (checked (not (is_open p.link.awaits))) (find_record p.records g) refl refl
    where
      go : (k : Check) (r : Option ℕ) → Closed p k → find_record p.records g ≡ r → P (server_delete p g)
      go Fail r e f = rw (delete_open e) (if-refused 1)
      go Pass None e f = rw (delete_at_lem None e f) (if-refused 3)
      go Pass (Some i) e f = rw (delete_at_lem (Some i) e f) (if-done i f)
