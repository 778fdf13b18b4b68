use Rattle.token.proofs.PutLaws.{put_seq}
use Rattle.answers.proofs.put_said.Goals as goal

pub returns : goal.returns
returns c = put_seq c.put_words-at.ensures c.put_byte.ensures
