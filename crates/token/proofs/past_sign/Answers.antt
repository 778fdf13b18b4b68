use Rattle.token.proofs.SignLaws.{sign_yes, sign_no, sign_past}
use Rattle.token.proofs.past_sign.Goals.{else-at-s-via-then-at-s+else-s-at-eq43, else-at-s-via-else-at-s}
use Rattle.token.proofs.past_sign.Goals as goal

pub returns-then-s-at-eq43 : goal.returns-then-s-at-eq43
returns-then-s-at-eq43 c = sign_yes _ _ c.if-at-s.true c.if-s-at-eq43.true

pub returns-else-at-s : goal.returns-else-at-s
returns-else-at-s c = elim c.else-at-s.branch [
  | else-at-s-via-then-at-s+else-s-at-eq43 w ↦ sign_no _ _ w.if-at-s.true w.if-s-at-eq43.false
  | else-at-s-via-else-at-s w ↦ sign_past _ _ w.if-at-s.false
]
