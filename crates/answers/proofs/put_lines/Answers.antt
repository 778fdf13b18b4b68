use Rattle.std.proofs.Common.{◌<◌, length, sym, ◌∙◌}
use Rattle.token.proofs.PutLaws.{put_none}
use Rattle.answers.proofs.BlockLaws.{lines_start, lines_end, put_used, put_free}
use Rattle.answers.proofs.put_lines.Goals as goal
use Rattle.answers.proofs.put_lines.Goals.{then-in_use, else-in_use}

pub loop-i-init : goal.loop-i-init
loop-i-init g c = rw (lines_start g.line c.args.used c.args.places.now) (put_none _ _)

pub loop-i-preserved : goal.loop-i-preserved
loop-i-preserved g c =
    let a = c.args in
    let here : c.loop-i.i < length a.places.now = c.loop-i-test.true in
    elim c.if-in_use.branch [
      | then-in_use w ↦
          let put = c.requires.1.1.1.1 _ _ _ _ _ _ w.put_line-at.ensures in
          rw (w.out-is, w.at-is)
          (put_used g.line a.used a.places.now c.index-places-i.result c.loop-i.i here c.index-places-i.is (sym c.in_use.ensures ∙ w.if-in_use.true) c.loop-i.invariant put)
      | else-in_use w ↦
          rw (w.out-is, w.at-is)
          (put_free g.line a.used a.places.now c.index-places-i.result c.loop-i.i here (sym c.in_use.ensures ∙ w.if-in_use.false) c.loop-i.invariant)
    ]

pub returns : goal.returns
returns g c = rw (lines_end g.line c.args.used c.args.places.now c.loop-i.i c.loop-i-test.false) at c.loop-i.invariant
