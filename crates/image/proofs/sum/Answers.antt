use mathlib.Core.Path.{◌∙◌}
use native.Mathlib.Omega.{arith}
use borrow.Author.Rules.{rules}
use Rattle.image.proofs.SumLaws.{sum_begins, sum_next, sum_ends}
use Rattle.image.proofs.sum.Goals as goal

pub loop-x-init : goal.loop-x-init
loop-x-init c = (search rules, search rules, sum_begins _)

pub loop-x-preserved : goal.loop-x-preserved
loop-x-preserved c =
    let l = c.loop-x in
    (omega (arith, c.from-a.ensures), omega (arith, c.from-a.ensures), sum_next c.args.s.now l.x-index l.a l.b c.from-a.result c.loop-x-test.true (search rules) ∙ l.invariant.2)

pub returns : goal.returns
returns c = sum_ends c.args.s.now c.loop-x.x-index c.loop-x.a c.loop-x.b c.loop-x-test.false ∙ c.loop-x.invariant.2
