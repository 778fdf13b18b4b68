use Rattle.std.proofs.Common.{◌+◌, eqb, ap, rules, tests}
use Rattle.std.proofs.lemmas.Iterator.{YieldsList-from_slice}
use Rattle.std.proofs.lemmas.Iterator.Search.{position_from_yields_List}
use Rattle.script.proofs.LineLaws.{line_len_found}
use Rattle.script.proofs.line_end.Goals as goal

pub returns : goal.returns
returns c =
    let a = c.args in
    let l = c.rest-left.result.now in
    let found = position_from_yields_List (λ b. eqb b 10) _ _ c.position.result c.position.ensures.ran (YieldsList-from_slice l cc) (λ x b q k. search (rules, tests)) in
    rw (← c.rest-left.ensures) (ap (λ n. a.from + n) (line_len_found l found c.unwrap_or.ensures))
