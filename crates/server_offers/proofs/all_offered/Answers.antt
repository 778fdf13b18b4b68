use mathlib.Core.Path.{ap}
use borrow.Author.Rules.{rules}
use Rattle.std.proofs.Common.{Some}
use Rattle.records.specs.Server.{no_record}
use Rattle.record_moves.specs.Named.{with_table}
use Rattle.server_offers.specs.Offer.{dirty_here, offered_now, offered}
use Rattle.server_offers.proofs.all_offered.Goals as goal

pub returns : goal.returns
unfolding offered
returns c = ap (with_table c.args.s.now) (c.act_on_each.ensures no_record dirty_here (λ x. Some (offered_now x)) (search rules) (search rules))
