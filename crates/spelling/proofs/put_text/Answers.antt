use Rattle.token.proofs.PutLaws.{put_seq, put_none}
use Rattle.spelling.proofs.LoopLaws.{spelled_none, spelled_turn}
use Rattle.spelling.proofs.put_text.Goals as goal

pub loop-b-init : goal.loop-b-init
loop-b-init c = rw spelled_none (put_none _ _)

pub loop-b-preserved : goal.loop-b-preserved
loop-b-preserved c = rw (spelled_turn c.as_slice-b-items.result.now c.loop-b.b-index c.loop-b-test.true) (put_seq c.loop-b.invariant c.put_spelled-p.ensures)
