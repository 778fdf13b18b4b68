use Rattle.std.proofs.Common.{rules, sym, ap, ◌∙◌}
use mathlib.Core.Bool.{not}
use Rattle.spelling.proofs.PlainLaws.{none_past, is_mark, is_bracket_lem, is_other_lem}
use Rattle.spelling.proofs.is_plain.Goals as goal

pub returns-then-s-at : goal.returns-then-s-at
returns-then-s-at c = sym (none_past _ _ c.if-s-at.true)

pub returns-in-38 : goal.returns-in-38
returns-in-38 c = sym (is_mark _ _ c.if-s-at.false c.in-38.is)

pub returns-in-93 : goal.returns-in-93
returns-in-93 c = ap not c.starts_with.ensures.value ∙ is_bracket_lem _ _ c.if-s-at.false c.in-93.is

pub returns-in_default : goal.returns-in_default
returns-in_default c = c.ok_byte.ensures ∙ sym (is_other_lem _ _ c.if-s-at.false (search rules) (search rules))
