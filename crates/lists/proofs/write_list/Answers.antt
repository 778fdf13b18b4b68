use native.Mathlib.Omega.{arith}
use Rattle.token.proofs.PutLaws.{put_seq}
use Rattle.lists.proofs.WriteLaws.{put_written, written_whole}
use Rattle.lists.proofs.write_list.Goals as goal

pub loop-x-preserved : goal.loop-x-preserved
loop-x-preserved c =
    let l = c.loop-x in
    let a = c.args in
    record {
      number = omega (arith, l.invariant.number);
      put = put_written a.id a.items.now l.x-index _ (omega (arith, c.loop-x-test.true)) l.invariant.put (rw l.invariant.number at c.write_element-p.ensures);
    }

pub returns : goal.returns
returns c =
    let l = c.loop-x in
    let a = c.args in
    rw (written_whole a.id a.items.now a.end l.x-index a.last (omega (arith, c.loop-x-test.false, l.auto.x-index-end)))
    (put_seq l.invariant.put (rw l.invariant.number at c.write_end.ensures))
