use Rattle.image.specs.Four.{four}
use Rattle.image.proofs.FlatLaws.{put_more}
use Rattle.image.proofs.put_fours.Goals as goal

pub loop-n-preserved : goal.loop-n-preserved
loop-n-preserved c = put_more four c.args.ns.now c.loop-n.n-index 0 c.loop-n-test.true c.loop-n.invariant c.put_four-p.ensures
