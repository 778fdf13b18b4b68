use borrow.Author.Rules.{rules}
use Rattle.std.proofs.Common.{tests}
use Rattle.std.proofs.lemmas.Fn.{always_returns_same}
use Rattle.ranks.specs.Rank.{before}
use Rattle.ranks.proofs.OrderLaws.{ranked_answer}
use Rattle.ranks.proofs.ranked.Goals as goal

pub returns : goal.returns
returns c =
    ranked_answer c.args.row c.args.items.now c.is_sorted_by.result
    (c.is_sorted_by.ensures.cases (before c.args.row) (always_returns_same _ _ _ (λ a r f h. (search (rules, tests), search (rules, tests)))))
