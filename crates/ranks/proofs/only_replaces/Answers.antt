use mathlib.Core.Path.{◌∙◌}
use borrow.Author.Rules.{rules}
use Rattle.std.proofs.Common.{tests}
use Rattle.std.proofs.lemmas.Iterator.{YieldsList-from_slice}
use Rattle.std.proofs.lemmas.Iterator.Search.{all_from_yields_List}
use Rattle.ranks.specs.Rank.{name_in, is_replace}
use Rattle.ranks.proofs.NumberLaws.{all_replaces}
use Rattle.ranks.proofs.only_replaces.Goals as goal

pub returns : goal.returns
returns c =
    all_from_yields_List (λ x. is_replace (name_in x)) _ _ c.all.result c.all.ensures.ran (YieldsList-from_slice c.args.items.now cc) (λ x b q k. search (rules, tests))
    ∙ all_replaces c.args.items.now
