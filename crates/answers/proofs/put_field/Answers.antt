use Rattle.token.proofs.PutLaws.{put_seq}
use Rattle.answers.proofs.put_field.Goals as goal

pub returns : goal.returns
returns c = put_seq c.put_text-at.ensures c.put_number.ensures
