use mathlib.Core.Path.{refl}
use Rattle.token.proofs.PutLaws.{put_seq}
use Rattle.message.proofs.WriteLaws.{content_parts}
use Rattle.message_write.proofs.put_content.Goals as goal

pub returns : goal.returns
returns c =
    let f = c.of-form in
    rw (content_parts c.args.c.now f.result _ _ _ f.ensures c.answers-answers.ensures.kept c.commands.ensures.kept refl)
    (put_seq c.write_head-p.ensures (put_seq c.write_list-q.ensures c.write_list.ensures))
