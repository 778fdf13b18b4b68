use Rattle.token.proofs.DigitLaws.{digits_last, digits_more}
use Rattle.token.proofs.PutLaws.{put_seq}
use Rattle.token.proofs.+put_number.Goals.{then-n-lt10, else-n-lt10}
use Rattle.token.proofs.+put_number.Goals as goal

pub returns : goal.returns
returns t c = elim c.if-n-lt10.branch [
  | then-n-lt10 w ↦ rw (digits_last c.args.n w.if-n-lt10.true) (rw (w.out-is, w.p-is) at c.put_byte.ensures)
  | else-n-lt10 w ↦ rw (digits_more c.args.n w.if-n-lt10.false) (put_seq w.put_number-p.ensures (rw (w.out-is, w.p-is) at c.put_byte.ensures))
]
