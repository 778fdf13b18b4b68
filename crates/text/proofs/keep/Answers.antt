use mathlib.Core.Path.{◌≡◌, refl, ap, ◌∙◌}
use mathlib.Core.List.{List}
use native.Mathlib.Omega.{arith}
use lib.ListN.{get_or, set}
use Rattle.text.proofs.KeptLaws.{filled, filled_step, filled_all}
use Rattle.text.proofs.keep.Goals as goal

pub loop-i-init : goal.loop-i-init
loop-i-init c = (omega arith, omega (arith, c.clipped-n.ensures), omega (arith, c.clipped-n.ensures), refl)

pub loop-i-preserved : goal.loop-i-preserved
loop-i-preserved c =
    let s = c.args.s.now in
    let l = c.loop-i in
    (omega (arith, c.loop-i-test.true), l.invariant.1, l.invariant.2, ap (λ (b : List _). set b l.i (get_or s l.i 0)) l.invariant.3 ∙ filled_step s l.i (omega (arith, c.loop-i-test.true)) (omega (arith, c.loop-i-test.true)))

pub returns : goal.returns
returns c =
    let s = c.args.s.now in
    let l = c.loop-i in
    let n = c.clipped-n.result in
    let k : l.i ≡ n = omega (arith, c.loop-i-test.false, l.invariant.0) in
    ap (λ (b : List _). record { len = n; bytes = b }) (l.invariant.3 ∙ ap (filled s) k) ∙ filled_all s n c.clipped-n.ensures
