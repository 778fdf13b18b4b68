use Rattle.std.proofs.Common.{ap, ◌∙◌}
use Rattle.token.proofs.PutLaws.{put_seq}
use Rattle.shape.specs.Runs.{after_run}
use Rattle.shape.proofs.LoopLaws.{wrote_run, wrote_mark, wrote_end}
use Rattle.shape.proofs.write.Goals as goal

pub returns-in_default-mark : goal.returns-in_default-mark
returns-in_default-mark c =
    let v = c.loop-piece.invariant.1 in
    let r = wrote_run _ _ v.2 c.in-Some.ensures.fields in
    rw (wrote_end r (ap after_run c.in_default-mark.is)) (put_seq v.1 c.put_text-p.ensures)

pub loop-piece-preserved : goal.loop-piece-preserved
loop-piece-preserved c =
    let v = c.loop-piece.invariant.1 in
    let r = wrote_run _ _ v.2 c.in-Some.ensures.fields in
    (c.put_field-p.auto.out ∙ c.put_text-p.auto.out ∙ c.loop-piece.invariant.0, (_, put_seq (put_seq v.1 c.put_text-p.ensures) c.put_field-p.ensures, wrote_mark _ _ _ r (ap after_run c.in-Some-mark.is) c.kind_of.ensures))
