use Rattle.std.proofs.Common.{arith}
use Rattle.spelling.proofs.LoopLaws.{spelled_none, spelled_length}
use Rattle.spelling.proofs.text_len.Goals as goal

pub loop-b-init : goal.loop-b-init
loop-b-init c = rw spelled_none (omega arith, omega arith)

pub loop-b-preserved : goal.loop-b-preserved
loop-b-preserved c =
    let e = spelled_length c.as_slice-b-items.result.now c.loop-b.b-index c.loop-b-test.true in
    (omega (arith, e, c.spelled_len-len.ensures, c.loop-b.invariant), omega (arith, c.spelled_len-len.ensures, c.loop-b.invariant))
