use native.Mathlib.Omega.{arith}
use Rattle.message.proofs.ReadLaws.{moves_answers, moves_commands}
use Rattle.message.proofs.AgainLaws.{few_copied, again_put}
use Rattle.message_reread.proofs.put_again.Goals as goal

pub copy_list-a-requires : goal.copy_list-a-requires
copy_list-a-requires c =
    (omega (arith, c.requires), moves_answers c.of-form.result _ c.of-form.ensures)

pub overflow_add-a : goal.overflow_add-a
overflow_add-a c =
    let a = c.args in
    omega (arith, c.requires, few_copied a.s.now a.head a.c.at c.of-form.result c.of-form.ensures c.copy_list-a.result _ c.copy_list-a.ensures.0)

pub copy_list-b-requires : goal.copy_list-b-requires
copy_list-b-requires c =
    let a = c.args in
    (omega (arith, c.requires, few_copied a.s.now a.head a.c.at c.of-form.result c.of-form.ensures c.copy_list-a.result _ c.copy_list-a.ensures.0), moves_commands c.of-form.result _ c.of-form.ensures)

pub returns : goal.returns
returns c =
    let a = c.args in
    again_put a.s.now a.head a.c.at c.of-form.result c.of-form.ensures _ _ _ _ _ _ c.copy_list-a.result c.write_head-p.ensures c.copy_list-a.ensures.0 c.copy_list-a.ensures.1 c.copy_list-b.ensures.1
