use Rattle.token.proofs.PutLaws.{put_seq}
use Rattle.server_block.proofs.put_side.Goals as goal

pub returns : goal.returns
returns c =
    put_seq (rw c.open_word-is.ensures at c.put_link-at.ensures) (put_seq c.put_field-at.ensures (put_seq (rw c.rule_word.ensures at c.put_text-at.ensures) c.put_byte.ensures))
