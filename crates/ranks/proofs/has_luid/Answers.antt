use mathlib.Core.Path.{◌∙◌}
use lib.Dec.{eqb}
use borrow.Author.Rules.{rules}
use Rattle.std.proofs.Common.{tests}
use Rattle.std.proofs.lemmas.Iterator.{YieldsList-from_slice}
use Rattle.std.proofs.lemmas.Iterator.Search.{any_from_yields_List}
use Rattle.ranks.specs.Numbers.{luid_in}
use Rattle.ranks.proofs.NumberLaws.{any_luid}
use Rattle.ranks.proofs.has_luid.Goals as goal

pub returns : goal.returns
returns c =
    let luid = c.args.luid.0 in
    any_from_yields_List (λ x. eqb (luid_in x) luid) _ _ c.any.result c.any.ensures.ran (YieldsList-from_slice c.args.items.now cc) (λ x b q k. search (rules, tests))
    ∙ any_luid luid c.args.items.now
