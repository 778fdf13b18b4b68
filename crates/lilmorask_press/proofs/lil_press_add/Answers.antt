use Prim.Native.Nat.{ℕ}
use mathlib.Core.Path.{◌≡◌, refl, sym, ap, subst, ◌∙◌}
use mathlib.Core.List.{List}
use borrow.Author.Rules.{rules}
use Rattle.std.proofs.Common.{Result, Ok, Err}
use Rattle.terms.specs.declared.Luid.{Luid}
use Rattle.terms.specs.Number.{luid}
use Rattle.terms.specs.declared.Refusal.{Refusal}
use Rattle.cards.specs.declared.Press.{Press}
use Rattle.press_edits.specs.Edited.{Edited, edited_as, edited_at}
use Rattle.press_edits.specs.Edit.{press_add, press_edit, press_delete}
use Rattle.press_sends.specs.InRange.{PressInRange}
use Rattle.press_sends.proofs.EditLaws.{add_in_range, edit_in_range, delete_in_range}
use Rattle.press_image.specs.Kept as kept
use Rattle.image.specs.OnImage.{untold}
use Rattle.image.specs.Call.{result_as}
use Rattle.lilmorask_press.proofs.lil_press_add.Goals as goal

told : (r : Result Luid Refusal) (q : Press) → result_as (λ l. l.0) r q ≡ kept.edited (edited_as r q)
told (Ok l) q = refl
told (Err e) q = refl

left : (r : Result Luid Refusal) (q : Press) → (edited_as r q).press ≡ q
left (Ok l) q = refl
left (Err e) q = refl

does : (text : List ℕ) (p : Press) (r : Result Luid Refusal) (q : Press) → edited_as r q ≡ press_add p text → (result_as (λ l. l.0) r q ≡ kept.edited (press_add p text)) × (PressInRange p → PressInRange q)
does text p r q e = (told r q ∙ ap kept.edited e, λ h. subst PressInRange (sym (ap (λ (x : Edited). x.press) e) ∙ left r q) (add_in_range p h text))

pub returns-in-Ok : goal.returns-in-Ok
returns-in-Ok c = c.in-Ok.ensures (λ l. l.0) (λ p. kept.edited (press_add p c.args.text.now)) (λ p r q ran. does c.args.text.now p r q (search rules)) c.args.number.now

pub returns-in-Err : goal.returns-in-Err
returns-in-Err c = c.in-Err.ensures (λ l. l.0) (λ p. kept.edited (press_add p c.args.text.now)) (λ p r q ran. does c.args.text.now p r q (search rules)) c.args.number.now
