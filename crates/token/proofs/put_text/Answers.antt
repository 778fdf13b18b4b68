use Prim.Native.Nat.{◌+◌, ◌<◌}
use mathlib.Core.Path.{◌≡◌}
use lib.ListN.{length}
use lib.Seq.{take-suc}
use native.Mathlib.Numerals.{add-one}
use native.Mathlib.Omega.{arith}
use borrow.Author.Rules.{rules}
use Rattle.token.proofs.PutLaws.{put_seq, put_lost, put_one, put_most}
use Rattle.token.proofs.put_text.Goals as goal

pub returns-then-out-at : goal.returns-then-out-at
returns-then-out-at c = put_lost _ _ _ c.if-out-at.true

pub loop-i-preserved : goal.loop-i-preserved
loop-i-preserved c =
    let l = c.loop-i in
    let w = c.args.w.now in
    let s = c.min-n.ensures in
    let in_w : l.i < length w = omega (arith, s, c.loop-i-test.true) in
    let in_out : c.args.at + l.i < length l.out = omega (arith, s, c.if-out-at.false, c.loop-i-test.true, l.invariant.2) in
    (omega (arith, c.loop-i-test.true), rw (add-one, take-suc w l.i 0 in_w) (put_seq l.invariant.1 (put_one _ _ _ in_out (omega arith))), search rules)

pub returns : goal.returns
returns c =
    let l = c.loop-i in
    let e : l.i ≡ c.min-n.result = omega (arith, c.loop-i-test.false, l.invariant.0) in
    put_most _ _ c.min-n.ensures (rw (e) at l.invariant.1.bytes)
