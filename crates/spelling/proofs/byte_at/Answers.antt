use Rattle.std.proofs.Common.{arith, sym, ◌∙◌}
use Rattle.spelling.proofs.ByteLaws.{plain_yes, plain_no, plain_moves}
use Rattle.spelling.proofs.byte_at.Goals as goal

pub bounds-s-c : goal.bounds-s-c
bounds-s-c c = omega (arith, (plain_moves c.args.s.now c.args.c.at (sym c.is_plain.ensures ∙ c.if-is_plain.true)).inside)

pub overflow_add-result : goal.overflow_add-result
overflow_add-result c = omega (arith, (plain_moves c.args.s.now c.args.c.at (sym c.is_plain.ensures ∙ c.if-is_plain.true)).inside)

pub returns-then-is_plain : goal.returns-then-is_plain
returns-then-is_plain c = sym (plain_yes _ _ (sym c.is_plain.ensures ∙ c.if-is_plain.true))

pub returns-else-is_plain : goal.returns-else-is_plain
returns-else-is_plain c = c.reference.ensures ∙ sym (plain_no _ _ (sym c.is_plain.ensures ∙ c.if-is_plain.false))
