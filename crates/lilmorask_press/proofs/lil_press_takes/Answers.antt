use Rattle.std.proofs.Common.{rules, ℕ, List, Option, Some, None, Result, Ok, Err, ◌≡◌, refl, sym, ap, subst, ◌∙◌}
use Rattle.std.specs.Prelude.{unwrap_or}
use Rattle.terms.specs.declared.Refusal.{Refusal}
use Rattle.cards.specs.declared.Press.{Press}
use Rattle.calls.specs.Reply.{taken_as}
use Rattle.calls.specs.After.{After, after}
use Rattle.press_calls.specs.Call.{press_takes}
use Rattle.press_sends.specs.InRange.{PressInRange}
use Rattle.course.proofs.AnyLaws.{press_takes_in_range}
use Rattle.image.specs.OnImage.{replied}
use Rattle.image.specs.Call.{result_as, Replies}
use Rattle.lilmorask_press.proofs.lil_press_takes.Goals as goal

abbrev length_of : Option ℕ → ℕ
length_of o = unwrap_or o 0

told : (r : Result (Option ℕ) Refusal) (q : Press) → result_as length_of r q ≡ replied (taken_as r) q
told (Ok (Some n)) q = refl
told (Ok None) q = refl
told (Err e) q = refl

does : (m out : List ℕ) (p : Press) (r : Result (Option ℕ) Refusal) (q : Press) (o : List ℕ) → after (taken_as r) q o ≡ press_takes p m out
    → Replies length_of r q o (press_takes p m out) × (PressInRange p → PressInRange q)
does m out p r q o e =
    ((told r q ∙ ap (λ (a : After Press). replied a.reply a.side) e, ap (λ (a : After Press). a.output) e), λ h. subst PressInRange (sym (ap (λ (a : After Press). a.side) e)) (press_takes_in_range out p h m))

pub returns-in-Ok : goal.returns-in-Ok
returns-in-Ok c = let a = c.args in rw c.unwrap_or.ensures (c.in-Ok.ensures length_of (λ p. press_takes p a.message.now a.out.now) (λ p r q o ran. does a.message.now a.out.now p r q o (search rules)) a.written.now)

pub returns-in-Err : goal.returns-in-Err
returns-in-Err c = let a = c.args in c.in-Err.ensures length_of (λ p. press_takes p a.message.now a.out.now) (λ p r q o ran. does a.message.now a.out.now p r q o (search rules)) a.written.now
