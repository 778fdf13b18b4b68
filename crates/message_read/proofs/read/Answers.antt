use Prim.Native.Nat.{◌≤◌}
use native.Mathlib.Omega.{arith}
use Rattle.std.proofs.lemmas.Result.{err_from_is_err_and}
use Rattle.token.specs.Limit.{limit}
use Rattle.token.specs.Misread.{found_as}
use Rattle.token.proofs.Told.{told}
use Rattle.message.proofs.ReadLaws.{moves_answers, moves_commands, no_room, no_head, no_answers, few, no_commands, left_over, whole_message}
use Rattle.message_read.proofs.read.Goals as goal
use Rattle.message_read.proofs.read.Goals.{In_ok-a}

pub returns-then-s-gt-LIMIT : goal.returns-then-s-gt-LIMIT
returns-then-s-gt-LIMIT c = no_room c.args.s.now c.if-s-gt-LIMIT.true

pub returns-in_err-head : goal.returns-in_err-head
returns-in_err-head c =
    let p = err_from_is_err_and c.from_residual.result c.from_residual.ensures.1 in
    rw (p.1, p.2) (no_head c.args.s.now c.if-s-gt-LIMIT.false (told found_as c.head_of.ensures c.in_err-head.was))

pub read_list-requires : goal.read_list-requires
read_list-requires c = (omega (arith, c.if-s-gt-LIMIT.false), moves_answers c.of-form.result _ c.of-form.ensures)

pub returns-in_err-a : goal.returns-in_err-a
returns-in_err-a c =
    let p = err_from_is_err_and c.from_residual-in_err-a.result c.from_residual-in_err-a.ensures.1 in
    rw (p.1, p.2)
    (no_answers c.args.s.now c.if-s-gt-LIMIT.false _ _ (told found_as c.head_of.ensures c.in_ok-head.was) _ c.of-form.ensures _ c.read_list.ensures _ c.in_err-a.was)

-- no more answers are read than there are bytes
few_read : (c : In_ok-a) → c.in_ok-a.a.n ≤ limit
few_read c = few c.args.s.now c.if-s-gt-LIMIT.false _ _ (told found_as c.head_of.ensures c.in_ok-head.was) _ c.of-form.ensures _ c.read_list.ensures _ _ c.in_ok-a.was

pub overflow_cast-first : goal.overflow_cast-first
overflow_cast-first c = omega (arith, few_read (goal.at.overflow_cast-first c).In_ok-a)

pub overflow_add-first : goal.overflow_add-first
overflow_add-first c = omega (arith, few_read (goal.at.overflow_add-first c).In_ok-a)

pub read_list-requires-2 : goal.read_list-requires-2
read_list-requires-2 c =
    (omega (arith, c.if-s-gt-LIMIT.false, few_read (goal.at.read_list-requires-2 c).In_ok-a), moves_commands c.of-form.result _ c.of-form.ensures)

pub returns-in_err-b : goal.returns-in_err-b
returns-in_err-b c =
    let p = err_from_is_err_and c.from_residual-in_err-b.result c.from_residual-in_err-b.ensures.1 in
    rw (p.1, p.2)
    (no_commands c.args.s.now c.if-s-gt-LIMIT.false _ _ (told found_as c.head_of.ensures c.in_ok-head.was) _ c.of-form.ensures _ c.read_list.ensures _ _ c.in_ok-a.was
    _ c.read_list-2.ensures _ c.in_err-b.was)

pub returns-then-end-s : goal.returns-then-end-s
returns-then-end-s c =
    left_over c.args.s.now c.if-s-gt-LIMIT.false _ _ (told found_as c.head_of.ensures c.in_ok-head.was) _ c.of-form.ensures _ c.read_list.ensures _ _ c.in_ok-a.was
    _ c.read_list-2.ensures _ _ c.in_ok-b.was c.if-end-s.true

pub returns : goal.returns
returns c =
    whole_message c.args.s.now c.if-s-gt-LIMIT.false _ _ (told found_as c.head_of.ensures c.in_ok-head.was) _ c.of-form.ensures _ c.read_list.ensures _ _ c.in_ok-a.was
    _ c.read_list-2.ensures _ _ c.in_ok-b.was c.if-end-s.false
