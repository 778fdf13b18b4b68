use Rattle.std.proofs.Common.{take, ap, rules}
use Rattle.terms.specs.Refusal.{number_of}
use Rattle.calls.specs.Reply.{written_as}
use Rattle.server_calls.specs.Call.{server_takes}
use Rattle.desk.specs.declared.Wire.{Wire}
use Rattle.desk.specs.Desk.{with_server}
use Rattle.wire.specs.Wire.{from_server}
use Rattle.wire.proofs.WireLaws.{called_as, sent_as, refused_as}
use Rattle.wire.proofs.to_server.Goals as goal

pub returns-in_err-n : goal.returns-in_err-n
returns-in_err-n c =
    let a = c.args in
    let d = a.desk.now in
    called_as (from_server d a.wire.now) (server_takes d.server (take a.n a.wire.now)) d a.wire.now a.out.now c.lent-lent.ensures (rw c.front.ensures at c.takes.ensures)
    (refused_as (with_server d _) (λ n. Wire.ToPress n) d.wire a.wire.now _ (number_of c.in_err-n.field-0.0) (ap written_as c.in_err-n.was) (search rules))

pub returns : goal.returns
returns c =
    let a = c.args in
    let d = a.desk.now in
    rw c.sends.ensures.0
    (called_as (from_server d a.wire.now) (server_takes d.server (take a.n a.wire.now)) d a.wire.now a.out.now c.lent-lent.ensures (rw c.front.ensures at c.takes.ensures)
    (sent_as (with_server d _) (λ n. Wire.ToPress n) d.wire a.wire.now _ (ap written_as c.in_ok-n.was) c.sends.ensures.1))
