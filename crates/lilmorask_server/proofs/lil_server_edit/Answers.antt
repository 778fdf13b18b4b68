use Prim.Native.Nat.{ℕ}
use mathlib.Core.Path.{◌≡◌, refl, sym, ap, subst, ◌∙◌}
use mathlib.Core.List.{List}
use borrow.Author.Rules.{rules}
use Rattle.std.proofs.Common.{Result, Ok, Err}
use Rattle.terms.specs.declared.Guid.{Guid}
use Rattle.terms.specs.Number.{guid}
use Rattle.terms.specs.declared.Refusal.{Refusal}
use Rattle.records.specs.declared.Server.{Server}
use Rattle.server_edits.specs.Edited.{Edited, edited_as, edited_at}
use Rattle.server_edits.specs.Edit.{server_add, server_edit, server_delete}
use Rattle.server_sends.specs.InRange.{ServerInRange}
use Rattle.server_sends.proofs.EditLaws.{add_in_range, edit_in_range, delete_in_range}
use Rattle.server_image.specs.Kept as kept
use Rattle.image.specs.OnImage.{untold}
use Rattle.image.specs.Call.{result_as, told_in}
use Rattle.lilmorask_server.proofs.lil_server_edit.Goals as goal

told : (l : Guid) (r : Result Unit Refusal) (q : Server) → result_as (λ u. 0) r q ≡ untold (kept.edited (edited_at l r q))
told l (Ok u) q = refl
told l (Err e) q = refl

left : (l : Guid) (r : Result Unit Refusal) (q : Server) → (edited_at l r q).server ≡ q
left l (Ok u) q = refl
left l (Err e) q = refl

does : (n : ℕ) (text : List ℕ) (p : Server) (r : Result Unit Refusal) (q : Server) → edited_at (guid n) r q ≡ server_edit p (guid n) text → (result_as (λ u. 0) r q ≡ untold (kept.edited (server_edit p (guid n) text))) × (ServerInRange p → ServerInRange q)
does n text p r q e = (told (guid n) r q ∙ ap (λ (x : Edited). untold (kept.edited x)) e, λ h. subst ServerInRange (sym (ap (λ (x : Edited). x.server) e) ∙ left (guid n) r q) (edit_in_range p h (guid n) text))

nothing : (d : Result Unit ℕ) → told_in (λ u. 0) d 0 ≡ 0
nothing (Ok u) = refl
nothing (Err k) = refl

pub returns : goal.returns
returns c = let n = c.args.number in let text = c.args.text.now in let w = c.call-edited.ensures (λ u. 0) (λ p. untold (kept.edited (server_edit p (guid n) text))) (λ p r q ran. does n text p r q (search rules)) 0 in rw c.number_of.ensures (rw (nothing c.call-edited.result) at w)
