use Rattle.token.proofs.PutLaws.{put_seq}
use Rattle.press_block.proofs.put_report.Goals as goal

pub returns : goal.returns
returns c =
    put_seq c.put_text-at.ensures c.put_reported.ensures
