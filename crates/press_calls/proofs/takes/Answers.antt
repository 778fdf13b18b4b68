use mathlib.Core.Path.{◌≡◌, sym, ap, ◌∙◌}
use Rattle.std.proofs.Common.{Option, Result, Ok, Some, None}
use Rattle.std.proofs.lemmas.Result.{err_from_is_err_and}
use Rattle.terms.specs.declared.Refusal.{Refusal}
use Rattle.message.specs.declared.Content.{Content}
use Rattle.message.specs.Message.{read_message}
use Rattle.message.specs.Answer.{taken_as}
use Rattle.calls.specs.Says.{called_as}
use Rattle.calls.proofs.ReplyLaws.{says_sent, says_not_sent, says_refused, says_done}
use Rattle.press_awaits.specs.OnContent.{press_judges}
use Rattle.press_awaits.proofs.JudgeLaws.{judged_keeps}
use Rattle.press_calls.proofs.Cases.{takes_not, takes_is}
use Rattle.press_calls.proofs.takes.Goals as goal
use Rattle.press_calls.proofs.takes.Goals.{In_ok-x, In_ok-answer}

-- what was read, and what was made of it
read : (c : In_ok-x) → taken_as (read_message c.args.s.now) ≡ Ok c.in_ok-x.x
read c = sym c.read.ensures ∙ c.in_ok-x.was

made : (c : In_ok-answer) (a : Option Content) → c.in_ok-answer.field-0 ≡ a → called_as (Ok a) c.does.new.press ≡ press_judges c.args.press.now c.in_ok-x.x
made c a is = ap (λ (r : Result (Option Content) Refusal). called_as r c.does.new.press) (sym (c.in_ok-answer.was ∙ ap Ok is)) ∙ c.does.ensures

pub returns-in_err-x : goal.returns-in_err-x
returns-in_err-x c =
    let a = c.args in
    let p = err_from_is_err_and c.from_residual.result c.from_residual.ensures.1 in
    rw (p.1, p.2) (takes_not a.press.now a.s.now a.out.now (sym c.read.ensures ∙ c.in_err-x.was))

pub returns-in_err-answer : goal.returns-in_err-answer
returns-in_err-answer c =
    let a = c.args in
    let p = err_from_is_err_and c.from_residual-in_err-answer.result c.from_residual-in_err-answer.ensures.1 in
    rw (p.1, p.2)
    (says_refused a.press.now a.out.now c.in_err-answer.ensures (judged_keeps a.press.now c.in_ok-x.x c.in_err-answer.ensures)
    ∙ takes_is a.press.now a.s.now a.out.now (read (goal.at.returns-in_err-answer c).In_ok-x))

pub returns-in_err-write-in-Some : goal.returns-in_err-write-in-Some
returns-in_err-write-in-Some c =
    let a = c.args in
    let p = err_from_is_err_and c.from_residual-in_err-write-in-Some.result c.from_residual-in_err-write-in-Some.ensures.1 in
    let at = goal.at.returns-in_err-write-in-Some c in
    rw (p.1, p.2)
    (says_not_sent a.press.now a.out.now (made at.In_ok-answer (Some c.in-Some.answer) c.in-Some.is) c.write.ensures.1 c.in_err-write-in-Some.ensures.0
    ∙ takes_is a.press.now a.s.now a.out.now (read at.In_ok-x))

pub returns-in_ok-write-in-Some : goal.returns-in_ok-write-in-Some
returns-in_ok-write-in-Some c =
    let a = c.args in
    let at = goal.at.returns-in_ok-write-in-Some c in
    says_sent a.press.now a.out.now (made at.In_ok-answer (Some c.in-Some.answer) c.in-Some.is) c.write.ensures.1 c.in_ok-write-in-Some.ensures.0
    ∙ takes_is a.press.now a.s.now a.out.now (read at.In_ok-x)

pub returns-in-None : goal.returns-in-None
returns-in-None c =
    let a = c.args in
    let at = goal.at.returns-in-None c in
    says_done a.press.now a.out.now (made at.In_ok-answer None c.in-None.is) ∙ takes_is a.press.now a.s.now a.out.now (read at.In_ok-x)
