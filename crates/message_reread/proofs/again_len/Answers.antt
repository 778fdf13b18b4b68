use native.Mathlib.Omega.{arith}
use Rattle.message.proofs.ReadLaws.{moves_answers, moves_commands}
use Rattle.message.proofs.AgainLaws.{few_copied, again_long}
use Rattle.message_reread.proofs.again_len.Goals as goal

pub copied_len-a-requires : goal.copied_len-a-requires
copied_len-a-requires c =
    let short = c.requires in
    (short, omega (arith, short), moves_answers c.of-form.result _ c.of-form.ensures)

pub overflow_add-a : goal.overflow_add-a
overflow_add-a c =
    let a = c.args in
    omega (arith, c.requires, few_copied a.s.now a.head a.c.at c.of-form.result c.of-form.ensures c.copied_len-a.result _ c.copied_len-a.ensures.0)

pub copied_len-b-requires : goal.copied_len-b-requires
copied_len-b-requires c =
    let a = c.args in
    let short = c.requires in
    (short, omega (arith, short, few_copied a.s.now a.head a.c.at c.of-form.result c.of-form.ensures c.copied_len-a.result _ c.copied_len-a.ensures.0), moves_commands c.of-form.result _ c.of-form.ensures)

pub returns : goal.returns
returns c =
    let a = c.args in
    again_long a.s.now a.head a.c.at c.of-form.result c.of-form.ensures c.copied_len-a.result c.copied_len-b.result c.copied_len-a.ensures.0 c.copied_len-b.ensures.0 _ c.head_len.ensures.0
