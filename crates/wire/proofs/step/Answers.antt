use Rattle.std.proofs.Common.{sym, ap, ◌∙◌}
use Rattle.desk.specs.declared.Wire.{Wire}
use Rattle.wire.proofs.TurnLaws.{step_by, step_law}
use Rattle.wire.proofs.step.Goals as goal

pub returns-in-Empty : goal.returns-in-Empty
returns-in-Empty c =
    let a = c.args in
    sym (ap (λ (x : Wire). step_by x a.desk.now a.wire.now a.out.now) c.in-Empty.is) ∙ step_law a.desk.now a.wire.now a.out.now

pub returns-in-ToPress : goal.returns-in-ToPress
returns-in-ToPress c =
    let a = c.args in
    c.to_press.ensures ∙ sym (ap (λ (x : Wire). step_by x a.desk.now a.wire.now a.out.now) c.in-ToPress.is) ∙ step_law a.desk.now a.wire.now a.out.now

pub returns-in-ToServer : goal.returns-in-ToServer
returns-in-ToServer c =
    let a = c.args in
    c.to_server.ensures ∙ sym (ap (λ (x : Wire). step_by x a.desk.now a.wire.now a.out.now) c.in-ToServer.is) ∙ step_law a.desk.now a.wire.now a.out.now
