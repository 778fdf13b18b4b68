use Rattle.std.proofs.Common.{rules, ℕ, List, Result, Ok, Err, ◌≡◌, refl, sym, ap, subst, ◌∙◌}
use Rattle.terms.specs.declared.Refusal.{Refusal}
use Rattle.records.specs.declared.Server.{Server}
use Rattle.calls.specs.Reply.{written_as}
use Rattle.calls.specs.After.{After, after}
use Rattle.server_calls.specs.Call.{server_takes}
use Rattle.server_sends.specs.InRange.{ServerInRange}
use Rattle.course.proofs.AnyLaws.{server_takes_in_range}
use Rattle.image.specs.OnImage.{replied}
use Rattle.image.specs.Call.{result_as, Replies}
use Rattle.lilmorask_server.proofs.lil_server_takes.Goals as goal

told : (r : Result ℕ Refusal) (q : Server) → result_as (λ n. n) r q ≡ replied (written_as r) q
told (Ok n) q = refl
told (Err e) q = refl

does : (m out : List ℕ) (p : Server) (r : Result ℕ Refusal) (q : Server) (o : List ℕ) → after (written_as r) q o ≡ server_takes p m out → Replies (λ n. n) r q o (server_takes p m out) × (ServerInRange p → ServerInRange q)
does m out p r q o e =
    ((told r q ∙ ap (λ (a : After Server). replied a.reply a.side) e, ap (λ (a : After Server). a.output) e), λ h. subst ServerInRange (sym (ap (λ (a : After Server). a.side) e)) (server_takes_in_range out p h m))

pub returns-in-Ok : goal.returns-in-Ok
returns-in-Ok c = c.in-Ok.ensures (λ n. n) (λ p. server_takes p c.args.message.now c.args.out.now) (λ p r q o ran. does c.args.message.now c.args.out.now p r q o (search rules)) c.args.written.now

pub returns-in-Err : goal.returns-in-Err
returns-in-Err c = c.in-Err.ensures (λ n. n) (λ p. server_takes p c.args.message.now c.args.out.now) (λ p r q o ran. does c.args.message.now c.args.out.now p r q o (search rules)) c.args.written.now
