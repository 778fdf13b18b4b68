use Rattle.token.proofs.PutLaws.{put_seq}
use Rattle.press_block.proofs.put_reported.Goals as goal

pub returns : goal.returns
returns c = rw c.if-not-report.false (put_seq c.put_number_or-at.ensures (put_seq c.put_field-at.ensures c.put_field.ensures))
