use Rattle.std.proofs.Common.{◌≡◌, ◌∙◌, rules}
use Rattle.token.specs.Ans.{got}
use Rattle.token.specs.Number.{number_at}
use Rattle.script.proofs.PlainLaws.{goes_on, plain_yes}
use Rattle.script.proofs.plain.Goals as goal

pub overflow_sub-e : goal.overflow_sub-e
overflow_sub-e c =
    let a = c.args in
    let read : number_at a.s.now a.c.at a.lo a.hi ≡ got c.in_ok-n.n c.in_ok-n.e.at = search rules in
    goes_on _ _ _ _ _ _ read

pub returns-then-e-c : goal.returns-then-e-c
returns-then-e-c c =
    let a = c.args in
    let read : number_at a.s.now a.c.at a.lo a.hi ≡ got c.in_ok-n.n c.in_ok-n.e.at = search rules in
    plain_yes _ _ _ _ _ _ read (c.if-e-c.true ∙ c.number_len.ensures.0)
