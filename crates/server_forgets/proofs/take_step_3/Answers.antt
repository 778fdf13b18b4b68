use borrow.Author.Rules.{rules}
use Rattle.std.proofs.Common.{None}
use mathlib.Core.Path.{ap}
use Rattle.records.specs.Server.{no_record}
use Rattle.record_moves.specs.Named.{with_table}
use Rattle.server_forgets.specs.Step3.{is_forgotten, step3}
use Rattle.server_forgets.proofs.take_step_3.Goals as goal

pub returns : goal.returns
unfolding step3
returns c = ap (with_table c.args.s.now) (c.act_on_each.ensures no_record is_forgotten (λ x. None) (search rules) (search rules))
