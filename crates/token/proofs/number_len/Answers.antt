use native.Mathlib.Omega.{arith}
use Rattle.token.proofs.LengthLaws.{length_last, length_more, length_pos, length_10}
use Rattle.token.proofs.number_len.Goals as goal

pub loop-m-init : goal.loop-m-init
loop-m-init c = (omega arith, omega arith)

pub overflow_add-k : goal.overflow_add-k
overflow_add-k c = let p = length_pos c.loop-m.m in let q = length_10 c.args.n (omega arith) in omega arith

pub loop-m-smaller : goal.loop-m-smaller
loop-m-smaller c = omega arith

pub loop-m-preserved : goal.loop-m-preserved
loop-m-preserved c = let p = length_more c.loop-m.m c.loop-m-test.true in (omega arith, omega arith)

pub returns : goal.returns
returns c = let p = length_last c.loop-m.m c.loop-m-test.false in let q = length_10 c.args.n (omega arith) in (omega arith, omega arith)
