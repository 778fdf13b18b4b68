use borrow.Author.Rules.{rules}
use Rattle.std.proofs.Common.{Some}
use mathlib.Core.Path.{ap}
use Rattle.cards.specs.Press.{no_card}
use Rattle.card_moves.specs.Moves.{with_table, any_entry, bare, without_reports}
use Rattle.card_moves.proofs.without_reports.Goals as goal

pub returns : goal.returns
unfolding without_reports
returns c = ap (with_table c.args.c.now) (c.act_on_each.ensures no_card any_entry (λ x. Some (bare x)) (search rules) (search rules))
