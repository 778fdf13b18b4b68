use Rattle.std.proofs.Common.{sym}
use Rattle.token.specs.Literal.{lit_ans}
use Rattle.token.specs.Misread.{found_as}
use Rattle.token.proofs.Told.{told}
use Rattle.spelling.proofs.PartLaws.{part_empty, part_shut, part_none, part_zero, part_open, part_full}
use Rattle.spelling.proofs.read_data.Goals as goal

pub returns-in-Ok : goal.returns-in-Ok
returns-in-Ok c = sym (part_empty _ _ _ _ (told lit_ans c.literal.ensures c.in-Ok.is))

pub returns-in_default-literal : goal.returns-in_default-literal
returns-in_default-literal c = sym (part_shut _ _ _ _ _ _ (told lit_ans c.literal.ensures c.in_default.is) (told lit_ans c.literal-2.ensures c.in_default-literal.is))

pub returns-in_default-run_at : goal.returns-in_default-run_at
returns-in_default-run_at c = sym (part_none _ _ _ _ _ _ (told lit_ans c.literal.ensures c.in_default.is) (told lit_ans c.literal-2.ensures c.in-Ok-literal.is) _ _ (told found_as c.run_at.ensures c.in_default-run_at.is))

pub returns-then-len-eq0 : goal.returns-then-len-eq0
returns-then-len-eq0 c = sym (part_zero _ _ _ _ _ _ (told lit_ans c.literal.ensures c.in_default.is) (told lit_ans c.literal-2.ensures c.in-Ok-literal.is) _ _ (told found_as c.run_at.ensures c.in-Ok-run_at.is) c.if-len-eq0.true)

pub returns-in_default-literal-2 : goal.returns-in_default-literal-2
returns-in_default-literal-2 c = sym (part_open _ _ _ _ _ _ (told lit_ans c.literal.ensures c.in_default.is) (told lit_ans c.literal-2.ensures c.in-Ok-literal.is) _ _ (told found_as c.run_at.ensures c.in-Ok-run_at.is) c.if-len-eq0.false _ _ (told lit_ans c.literal-3.ensures c.in_default-literal-2.is))

pub returns : goal.returns
returns c = sym (part_full _ _ _ _ _ _ (told lit_ans c.literal.ensures c.in_default.is) (told lit_ans c.literal-2.ensures c.in-Ok-literal.is) _ _ (told found_as c.run_at.ensures c.in-Ok-run_at.is) c.if-len-eq0.false _ _ (told lit_ans c.literal-3.ensures c.in-Ok-literal-2.is))
