use Prim.Native.Nat.{ℕ}
use mathlib.Core.Path.{◌≡◌, refl, sym, ap, subst, ◌∙◌}
use mathlib.Core.List.{List}
use borrow.Author.Rules.{rules}
use Rattle.std.proofs.Common.{Result, Ok, Err}
use Rattle.terms.specs.declared.Luid.{Luid}
use Rattle.terms.specs.Number.{luid}
use Rattle.terms.specs.declared.Refusal.{Refusal}
use Rattle.cards.specs.declared.Press.{Press}
use Rattle.press_edits.specs.Edited.{Edited, edited_as, edited_at}
use Rattle.press_edits.specs.Edit.{press_add, press_edit, press_delete}
use Rattle.press_sends.specs.InRange.{PressInRange}
use Rattle.press_sends.proofs.EditLaws.{add_in_range, edit_in_range, delete_in_range}
use Rattle.press_image.specs.Kept as kept
use Rattle.image.specs.OnImage.{untold}
use Rattle.image.specs.Call.{result_as, told_in}
use Rattle.lilmorask_press.proofs.lil_press_edit.Goals as goal

told : (l : Luid) (r : Result Unit Refusal) (q : Press) → result_as (λ u. 0) r q ≡ untold (kept.edited (edited_at l r q))
told l (Ok u) q = refl
told l (Err e) q = refl

left : (l : Luid) (r : Result Unit Refusal) (q : Press) → (edited_at l r q).press ≡ q
left l (Ok u) q = refl
left l (Err e) q = refl

does : (n : ℕ) (text : List ℕ) (p : Press) (r : Result Unit Refusal) (q : Press) → edited_at (luid n) r q ≡ press_edit p (luid n) text → (result_as (λ u. 0) r q ≡ untold (kept.edited (press_edit p (luid n) text))) × (PressInRange p → PressInRange q)
does n text p r q e = (told (luid n) r q ∙ ap (λ (x : Edited). untold (kept.edited x)) e, λ h. subst PressInRange (sym (ap (λ (x : Edited). x.press) e) ∙ left (luid n) r q) (edit_in_range p h (luid n) text))

nothing : (d : Result Unit ℕ) → told_in (λ u. 0) d 0 ≡ 0
nothing (Ok u) = refl
nothing (Err k) = refl

pub returns : goal.returns
returns c = let n = c.args.number in let text = c.args.text.now in let w = c.call-edited.ensures (λ u. 0) (λ p. untold (kept.edited (press_edit p (luid n) text))) (λ p r q ran. does n text p r q (search rules)) 0 in rw c.number_of.ensures (rw (nothing c.call-edited.result) at w)
