use Rattle.token.proofs.PutLaws.{put_seq}
use Rattle.answers.proofs.put_link.Goals as goal

pub returns : goal.returns
returns c = put_seq c.put_text-at.ensures (put_seq c.put_text-at-2.ensures (put_seq c.put_field-at.ensures c.put_field.ensures))
