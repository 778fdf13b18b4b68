use Rattle.token.proofs.PutLaws.{put_seq}
use Rattle.server_block.proofs.put_record.Goals as goal

pub returns : goal.returns
returns c =
    put_seq c.put_field-at.ensures (put_seq c.put_pairing-at.ensures c.put_wording.ensures)
