use mathlib.Core.Path.{◌≡◌, sym, ◌∙◌}
use Rattle.std.proofs.Common.{Ok}
use Rattle.std.proofs.lemmas.Result.{err_from_is_err_and}
use Rattle.message.specs.Message.{read_message}
use Rattle.message.specs.Answer.{taken_as}
use Rattle.calls.proofs.ReplyLaws.{says_sent, says_not_sent, says_refused}
use Rattle.server_awaits.proofs.JudgeLaws.{judged_keeps}
use Rattle.server_calls.proofs.Cases.{takes_not, takes_is}
use Rattle.server_calls.proofs.takes.Goals as goal
use Rattle.server_calls.proofs.takes.Goals.{In_ok-x}

-- what was read
read : (c : In_ok-x) → taken_as (read_message c.args.s.now) ≡ Ok c.in_ok-x.x
read c = sym c.read.ensures ∙ c.in_ok-x.was

pub returns-in_err-x : goal.returns-in_err-x
returns-in_err-x c =
    let a = c.args in
    let p = err_from_is_err_and c.from_residual.result c.from_residual.ensures.1 in
    rw (p.1, p.2) (takes_not a.server.now a.s.now a.out.now (sym c.read.ensures ∙ c.in_err-x.was))

pub returns-in_err-answer : goal.returns-in_err-answer
returns-in_err-answer c =
    let a = c.args in
    let p = err_from_is_err_and c.from_residual-in_err-answer.result c.from_residual-in_err-answer.ensures.1 in
    rw (p.1, p.2)
    (says_refused a.server.now a.out.now c.in_err-answer.ensures (judged_keeps a.server.now c.in_ok-x.x c.in_err-answer.ensures)
    ∙ takes_is a.server.now a.s.now a.out.now (read (goal.at.returns-in_err-answer c).In_ok-x))

pub returns-in_err-n : goal.returns-in_err-n
returns-in_err-n c =
    let a = c.args in
    let p = err_from_is_err_and c.from_residual-in_err-n.result c.from_residual-in_err-n.ensures.1 in
    rw (p.1, p.2)
    (says_not_sent a.server.now a.out.now c.in_ok-answer.ensures c.write.ensures.1 c.in_err-n.ensures.0
    ∙ takes_is a.server.now a.s.now a.out.now (read (goal.at.returns-in_err-n c).In_ok-x))

pub returns : goal.returns
returns c =
    let a = c.args in
    says_sent a.server.now a.out.now c.in_ok-answer.ensures c.write.ensures.1 c.in_ok-n.ensures.0
    ∙ takes_is a.server.now a.s.now a.out.now (read (goal.at.returns c).In_ok-x)
