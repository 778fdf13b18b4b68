use mathlib.Core.Path.{◌≡◌}
use lib.ListN.{length}
use borrow.Author.Rules.{rules}
use Rattle.text.specs.Text.{longest}
use Rattle.token.proofs.PutLaws.{put_seq}
use Rattle.spelling.proofs.DataLaws.{write_none, write_some}
use Rattle.spelling.proofs.LoopLaws.{no_bytes, some_bytes}
use Rattle.spelling.proofs.put_data.Goals as goal
use Rattle.spelling.proofs.put_data.Goals.{Else-t-eq0}

-- the text has room for 24 bytes
room : (c : Else-t-eq0) → length c.args.t.bytes ≡ longest
room c = search rules

pub returns-then-t-eq0 : goal.returns-then-t-eq0
returns-then-t-eq0 c =
    rw (write_none _ (no_bytes c.args.t c.if-t-eq0.true)) c.put_text.ensures

pub returns : goal.returns
returns c =
    let t = c.args.t in
    rw (write_some _ (some_bytes t (room (goal.at.returns c).Else-t-eq0) c.if-t-eq0.false)) (put_seq c.put_text-p.ensures (put_seq c.put_text-q.ensures c.put_text-2.ensures))
