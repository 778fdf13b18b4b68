use mathlib.Core.Path.{refl}
use Rattle.message.proofs.WriteLaws.{content_long}
use Rattle.message_write.proofs.content_len.Goals as goal

pub returns : goal.returns
returns c =
    let f = c.of-form in
    content_long c.args.c.now f.result _ _ _ f.ensures c.answers-answers.ensures.kept c.commands.ensures.kept refl _ _ _ c.head_len.ensures.0 c.list_len.ensures.0 c.list_len-2.ensures.0
