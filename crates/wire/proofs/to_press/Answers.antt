use Rattle.std.proofs.Common.{take, ap, ◌∙◌, rules, Ok}
use Rattle.terms.specs.Refusal.{number_of}
use Rattle.calls.specs.Reply.{taken_as}
use Rattle.press_calls.specs.Call.{press_takes}
use Rattle.desk.specs.declared.Wire.{Wire}
use Rattle.desk.specs.Desk.{with_press}
use Rattle.wire.specs.Wire.{from_press}
use Rattle.wire.proofs.WireLaws.{called_as, sent_as, done_as, refused_as}
use Rattle.wire.proofs.to_press.Goals as goal

pub returns-in_err-sent : goal.returns-in_err-sent
returns-in_err-sent c =
    let a = c.args in
    let d = a.desk.now in
    called_as (from_press d a.wire.now) (press_takes d.press (take a.n a.wire.now)) d a.wire.now a.out.now c.lent-lent.ensures (rw c.front.ensures at c.takes.ensures)
    (refused_as (with_press d _) (λ n. Wire.ToServer n) d.wire a.wire.now _ (number_of c.in_err-sent.field-0.0) (ap taken_as c.in_err-sent.was) (search rules))

pub returns-in_default : goal.returns-in_default
returns-in_default c =
    let a = c.args in
    let d = a.desk.now in
    called_as (from_press d a.wire.now) (press_takes d.press (take a.n a.wire.now)) d a.wire.now a.out.now c.lent-lent.ensures (rw c.front.ensures at c.takes.ensures)
    (done_as (with_press d _) (λ n. Wire.ToServer n) d.wire a.wire.now _ (ap taken_as (c.in_ok-sent.was ∙ ap Ok c.in_default.is)))

pub returns : goal.returns
returns c =
    let a = c.args in
    let d = a.desk.now in
    rw c.sends.ensures.0
    (called_as (from_press d a.wire.now) (press_takes d.press (take a.n a.wire.now)) d a.wire.now a.out.now c.lent-lent.ensures (rw c.front.ensures at c.takes.ensures)
    (sent_as (with_press d _) (λ n. Wire.ToServer n) d.wire a.wire.now _ (ap taken_as (c.in_ok-sent.was ∙ ap Ok c.in-Some.is)) c.sends.ensures.1))
