use Rattle.std.proofs.Common.{rules}
use Rattle.acts.proofs.ActsLaws.{hears_as}
use Rattle.acts.proofs.hears.Goals as goal

pub returns-in_err-sent : goal.returns-in_err-sent
returns-in_err-sent g c = λ d h l. hears_as g.S.Commanded.side d c.args.out.now h l c.min-lent.ensures c.takes.ensures (search rules)

pub returns : goal.returns
returns g c = λ d h l. hears_as g.S.Commanded.side d c.args.out.now h l c.min-lent.ensures c.takes.ensures (search rules)
