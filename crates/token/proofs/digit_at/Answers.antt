use Rattle.std.proofs.Common.{sym, ◌∙◌}
use Rattle.token.proofs.DigitLaws.{digit_yes, digit_no, digit_end}
use Rattle.token.proofs.digit_at.Goals.{else-at-s-via-then-at-s+else-is_ascii_digit, else-at-s-via-else-at-s}
use Rattle.token.proofs.digit_at.Goals as goal

pub returns-then-is_ascii_digit : goal.returns-then-is_ascii_digit
returns-then-is_ascii_digit c = digit_yes _ _ c.if-at-s.true (sym c.is_ascii_digit.ensures.value ∙ c.if-is_ascii_digit.true)

pub returns-else-at-s : goal.returns-else-at-s
returns-else-at-s c = elim c.else-at-s.branch [
  | else-at-s-via-then-at-s+else-is_ascii_digit w ↦ digit_no _ _ w.if-at-s.true (sym w.is_ascii_digit.ensures.value ∙ w.if-is_ascii_digit.false)
  | else-at-s-via-else-at-s w ↦ digit_end _ _ w.if-at-s.false
]
