use Rattle.token.proofs.PutLaws.{put_seq}
use Rattle.press_block.proofs.put_place.Goals as goal

pub returns : goal.returns
returns c =
    put_seq c.put_field-at.ensures (put_seq c.put_held-at.ensures c.put_byte.ensures)
