use Rattle.token.proofs.PutLaws.{put_seq}
use Rattle.server_block.proofs.put_pairing.Goals as goal

pub returns : goal.returns
returns c =
    put_seq c.put_text-at.ensures (put_seq c.put_number_or-at.ensures (put_seq c.put_field-at.ensures (put_seq c.put_text-at-2.ensures (rw c.mark_word.ensures at c.put_text.ensures))))
