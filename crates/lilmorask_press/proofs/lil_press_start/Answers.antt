use Rattle.std.proofs.Common.{rules, ℕ, List, Result, Ok, Err, ◌≡◌, refl, sym, ap, subst, ◌∙◌}
use Rattle.terms.specs.declared.Refusal.{Refusal}
use Rattle.cards.specs.declared.Press.{Press}
use Rattle.calls.specs.Reply.{written_as}
use Rattle.calls.specs.After.{After, after}
use Rattle.press_calls.specs.Call.{press_start}
use Rattle.press_sends.specs.InRange.{PressInRange}
use Rattle.course.proofs.AnyLaws.{start_in_range}
use Rattle.image.specs.OnImage.{replied}
use Rattle.image.specs.Call.{result_as, Replies}
use Rattle.lilmorask_press.proofs.lil_press_start.Goals as goal

told : (r : Result ℕ Refusal) (q : Press) → result_as (λ n. n) r q ≡ replied (written_as r) q
told (Ok n) q = refl
told (Err e) q = refl

does : (out : List ℕ) (p : Press) (r : Result ℕ Refusal) (q : Press) (o : List ℕ) → after (written_as r) q o ≡ press_start p out → Replies (λ n. n) r q o (press_start p out) × (PressInRange p → PressInRange q)
does out p r q o e =
    ((told r q ∙ ap (λ (a : After Press). replied a.reply a.side) e, ap (λ (a : After Press). a.output) e), λ h. subst PressInRange (sym (ap (λ (a : After Press). a.side) e)) (start_in_range out p h))

pub returns-in-Ok : goal.returns-in-Ok
returns-in-Ok c = c.in-Ok.ensures (λ n. n) (λ p. press_start p c.args.out.now) (λ p r q o ran. does c.args.out.now p r q o (search rules)) c.args.written.now

pub returns-in-Err : goal.returns-in-Err
returns-in-Err c = c.in-Err.ensures (λ n. n) (λ p. press_start p c.args.out.now) (λ p r q o ran. does c.args.out.now p r q o (search rules)) c.args.written.now
