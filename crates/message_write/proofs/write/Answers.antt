use Rattle.message.specs.Message.{message_c}
use Rattle.message.specs.Answer.{message_of}
use Rattle.message.proofs.WriteLaws.{fits, too_long_for}
use Rattle.message_write.proofs.write.Goals as goal

pub returns-then-out-n : goal.returns-then-out-n
returns-then-out-n c =
    let a = c.args in
    too_long_for a.out.now (message_c.write (message_of a.c.now)) _ c.content_len-n.ensures c.if-out-n.true

pub returns : goal.returns
returns c =
    let a = c.args in
    fits a.out.now _ (message_c.write (message_of a.c.now)) _ _ c.content_len-n.ensures c.if-out-n.false c.put_content.ensures
