use Rattle.token.proofs.PutLaws.{put_seq}
use Rattle.answers.proofs.put_wording.Goals as goal

pub returns : goal.returns
returns c = put_seq c.put_field-at.ensures (put_seq c.put_text-at.ensures (rw c.as_slice.ensures.bytes at c.put_text.ensures))
