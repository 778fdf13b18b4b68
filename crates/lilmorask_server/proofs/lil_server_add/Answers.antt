use Prim.Native.Nat.{ℕ}
use mathlib.Core.Path.{◌≡◌, refl, sym, ap, subst, ◌∙◌}
use mathlib.Core.List.{List}
use borrow.Author.Rules.{rules}
use Rattle.std.proofs.Common.{Result, Ok, Err}
use Rattle.terms.specs.declared.Guid.{Guid}
use Rattle.terms.specs.Number.{guid}
use Rattle.terms.specs.declared.Refusal.{Refusal}
use Rattle.records.specs.declared.Server.{Server}
use Rattle.server_edits.specs.Edited.{Edited, edited_as, edited_at}
use Rattle.server_edits.specs.Edit.{server_add, server_edit, server_delete}
use Rattle.server_sends.specs.InRange.{ServerInRange}
use Rattle.server_sends.proofs.EditLaws.{add_in_range, edit_in_range, delete_in_range}
use Rattle.server_image.specs.Kept as kept
use Rattle.image.specs.OnImage.{untold}
use Rattle.image.specs.Call.{result_as}
use Rattle.lilmorask_server.proofs.lil_server_add.Goals as goal

told : (r : Result Guid Refusal) (q : Server) → result_as (λ l. l.0) r q ≡ kept.edited (edited_as r q)
told (Ok l) q = refl
told (Err e) q = refl

left : (r : Result Guid Refusal) (q : Server) → (edited_as r q).server ≡ q
left (Ok l) q = refl
left (Err e) q = refl

does : (text : List ℕ) (p : Server) (r : Result Guid Refusal) (q : Server) → edited_as r q ≡ server_add p text → (result_as (λ l. l.0) r q ≡ kept.edited (server_add p text)) × (ServerInRange p → ServerInRange q)
does text p r q e = (told r q ∙ ap kept.edited e, λ h. subst ServerInRange (sym (ap (λ (x : Edited). x.server) e) ∙ left r q) (add_in_range p h text))

pub returns-in-Ok : goal.returns-in-Ok
returns-in-Ok c = c.in-Ok.ensures (λ l. l.0) (λ p. kept.edited (server_add p c.args.text.now)) (λ p r q ran. does c.args.text.now p r q (search rules)) c.args.number.now

pub returns-in-Err : goal.returns-in-Err
returns-in-Err c = c.in-Err.ensures (λ l. l.0) (λ p. kept.edited (server_add p c.args.text.now)) (λ p r q ran. does c.args.text.now p r q (search rules)) c.args.number.now
