use Rattle.token.proofs.PutLaws.{put_seq}
use Rattle.press_block.proofs.put_deleted.Goals as goal

pub returns : goal.returns
returns c =
    put_seq c.put_field-at.ensures c.put_report.ensures
