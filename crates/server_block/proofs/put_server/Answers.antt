use Rattle.token.proofs.PutLaws.{put_seq}
use Rattle.server_block.proofs.put_server.Goals as goal

pub returns : goal.returns
returns c = put_seq c.put_side-at.ensures (put_seq c.put_places-at.ensures c.put_text.ensures)
