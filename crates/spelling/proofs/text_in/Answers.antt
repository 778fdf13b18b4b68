use Rattle.std.proofs.Common.{arith, ◌≡◌}
use Rattle.token.specs.Misread.{found_as}
use Rattle.token.proofs.Told.{told}
use Rattle.spelling.proofs.LoopLaws.{keeping_none, keeping_over, keeping_full, keeping_more}
use Rattle.spelling.proofs.text_in.Goals as goal

pub loop-n-init : goal.loop-n-init
loop-n-init c = (omega (arith, c.clipped-most.ensures), keeping_none _ _ _)

pub returns-in_default : goal.returns-in_default
returns-in_default c = keeping_over _ _ _ _ _ _ c.loop-n.invariant.1 _ _ _ c.clipped-most.ensures (told found_as c.byte_at.ensures c.in_default.is)

pub loop-n-preserved : goal.loop-n-preserved
loop-n-preserved c =
    let l = c.loop-n in
    (l.invariant.0, keeping_more _ _ _ _ _ _ l.invariant.1 _ _ c.loop-n-test.true l.invariant.0 (told found_as c.byte_at.ensures c.in-Ok.is))

pub returns : goal.returns
returns c =
    let e : c.loop-n.n ≡ c.clipped-most.result = omega arith in
    rw e at (keeping_full _ _ _ _ _ _ c.loop-n.invariant.1 _ c.clipped-most.ensures c.loop-n-test.false)
