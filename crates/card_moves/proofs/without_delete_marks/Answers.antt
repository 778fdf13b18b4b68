use borrow.Author.Rules.{rules}
use Rattle.std.proofs.Common.{None}
use mathlib.Core.Path.{ap}
use Rattle.cards.specs.Press.{no_card}
use Rattle.card_moves.specs.Moves.{with_table, is_delete_mark, without_delete_marks}
use Rattle.card_moves.proofs.without_delete_marks.Goals as goal

pub returns : goal.returns
unfolding without_delete_marks
returns c = ap (with_table c.args.c.now) (c.act_on_each.ensures no_card is_delete_mark (λ x. None) (search rules) (search rules))
