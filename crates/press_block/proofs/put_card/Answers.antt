use Rattle.token.proofs.PutLaws.{put_seq}
use Rattle.press_block.proofs.put_card.Goals as goal

pub returns : goal.returns
returns c =
    put_seq c.put_field-at.ensures (put_seq c.put_field-at-2.ensures (put_seq c.put_text-at.ensures (put_seq (rw c.mark_word.ensures at c.put_text-at-2.ensures) (put_seq c.put_report-at.ensures c.put_wording.ensures))))
