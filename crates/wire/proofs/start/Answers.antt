use Rattle.std.proofs.Common.{ap, ◌∙◌, rules}
use Rattle.terms.specs.Refusal.{number_of}
use Rattle.calls.specs.Reply.{written_as}
use Rattle.press_calls.specs.Call.{press_start}
use Rattle.desk.specs.declared.Wire.{Wire}
use Rattle.desk.specs.Desk.{with_press}
use Rattle.wire.specs.Wire.{from_press}
use Rattle.wire.proofs.WireLaws.{called_as, sent_as, refused_as}
use Rattle.wire.proofs.TurnLaws.{start_law}
use Rattle.wire.proofs.start.Goals as goal

pub returns-in_err-n : goal.returns-in_err-n
returns-in_err-n c =
    let a = c.args in
    let d = a.desk.now in
    called_as (from_press d a.wire.now) (press_start d.press) d a.wire.now a.out.now c.lent-lent.ensures c.start.ensures
    (refused_as (with_press d _) (λ n. Wire.ToServer n) d.wire a.wire.now _ (number_of c.in_err-n.field-0.0) (ap written_as c.in_err-n.was) (search rules))
    ∙ start_law d a.wire.now a.out.now

pub returns : goal.returns
returns c =
    let a = c.args in
    let d = a.desk.now in
    rw c.sends.ensures.0
    (called_as (from_press d a.wire.now) (press_start d.press) d a.wire.now a.out.now c.lent-lent.ensures c.start.ensures
    (sent_as (with_press d _) (λ n. Wire.ToServer n) d.wire a.wire.now _ (ap written_as c.in_ok-n.was) c.sends.ensures.1)
    ∙ start_law d a.wire.now a.out.now)
