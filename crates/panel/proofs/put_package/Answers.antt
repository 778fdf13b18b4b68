use Rattle.token.proofs.PutLaws.{put_seq}
use Rattle.panel.proofs.put_package.Goals as goal

pub returns : goal.returns
returns c = put_seq c.put_field-at.ensures c.put_text.ensures
