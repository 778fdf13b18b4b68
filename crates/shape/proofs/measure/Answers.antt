use Rattle.std.proofs.Common.{arith, ap, ◌≡◌, ◌++◌, List, ℕ, length}
use Rattle.std.proofs.Math.ListN.{length-append}
use Rattle.shape.specs.Runs.{runs, as_field, after_run, size_after}
use Rattle.shape.specs.Shape.{said_of, write_one, write_shape}
use Rattle.shape.proofs.LoopLaws.{wrote_run, wrote_mark, wrote_end}
use Rattle.shape.proofs.measure.Goals as goal

pub returns-in_default-mark : goal.returns-in_default-mark
returns-in_default-mark c =
    let v = c.loop-piece.invariant.1 in
    let w : List ℕ = c.in-Some.piece.run.now in
    let a = c.args in
    let r = wrote_run w (after_run c.in-Some.piece.mark) v.2 c.in-Some.ensures.fields in
    let e : length (write_shape a.id (said_of a.row.now) (runs a.t.now)) ≡ length (v.0 ++ w) = ap length (wrote_end r (ap after_run c.in_default-mark.is)) in
    let n = length-append v.0 w in
    (omega (arith, e, v.1), omega (arith, c.loop-piece.invariant.0, c.in-Some.ensures.size))

pub loop-piece-preserved : goal.loop-piece-preserved
loop-piece-preserved c =
    let v = c.loop-piece.invariant.1 in
    let a = c.args in
    let w : List ℕ = c.in-Some.piece.run.now in
    let f : List ℕ = write_one a.id (said_of a.row.now) (as_field c.kind_of.result) in
    let n = length-append v.0 w in
    let m = length-append (v.0 ++ w) f in
    let size = c.in-Some.ensures.size in
    let more = ap size_after c.in-Some-mark.is in
    (omega (arith, c.loop-piece.invariant.0, c.field_len-len.ensures.1), (v.0 ++ w ++ f, omega (arith, v.1, c.field_len-len.ensures.0), wrote_mark _ _ _ (wrote_run _ _ v.2 c.in-Some.ensures.fields) (ap after_run c.in-Some-mark.is) c.kind_of.ensures))
