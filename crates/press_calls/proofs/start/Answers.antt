use mathlib.Core.Path.{refl, ◌∙◌}
use Rattle.std.proofs.lemmas.Result.{err_from_is_err_and}
use Rattle.calls.proofs.ReplyLaws.{says_sent, says_not_sent, says_refused}
use Rattle.press_calls.proofs.Cases.{begins_not, begins_sent, start_is}
use Rattle.press_calls.proofs.start.Goals as goal

pub returns-in_err-answer : goal.returns-in_err-answer
returns-in_err-answer c =
    let a = c.args in
    let p = err_from_is_err_and c.from_residual.result c.from_residual.ensures.1 in
    rw (p.1, p.2) (says_refused a.press.now a.out.now (begins_not a.press.now c.in_err-answer.ensures) refl ∙ start_is a.press.now a.out.now)

pub returns-in_err-n : goal.returns-in_err-n
returns-in_err-n c =
    let a = c.args in
    let p = err_from_is_err_and c.from_residual-in_err-n.result c.from_residual-in_err-n.ensures.1 in
    rw (p.1, p.2)
    (says_not_sent a.press.now a.out.now (begins_sent a.press.now c.in_ok-answer.ensures) c.write.ensures.1 c.in_err-n.ensures.0 ∙ start_is a.press.now a.out.now)

pub returns : goal.returns
returns c =
    let a = c.args in
    says_sent a.press.now a.out.now (begins_sent a.press.now c.in_ok-answer.ensures) c.write.ensures.1 c.in_ok-n.ensures.0 ∙ start_is a.press.now a.out.now
