use Rattle.std.proofs.Common.{arith, sym, ◌∙◌}
use Rattle.token.proofs.LiteralLaws.{begins_at, literal_yes, literal_no, literal_past}
use Rattle.token.proofs.literal.Goals.{else-c-s-via-then-c-s+else-starts_with, else-c-s-via-else-c-s}
use Rattle.token.proofs.literal.Goals as goal

pub returns-then-starts_with : goal.returns-then-starts_with
returns-then-starts_with c =
    let a = c.args in
    sym (literal_yes a.s.now a.c.at a.w.now c.if-c-s.true (sym (begins_at a.s.now a.c.at a.w.now) ∙ sym c.starts_with.ensures.value ∙ c.if-starts_with.true))

pub returns-else-c-s : goal.returns-else-c-s
returns-else-c-s c =
    let a = c.args in
    elim c.else-c-s.branch [
      | else-c-s-via-then-c-s+else-starts_with w ↦ sym (literal_no a.s.now a.c.at a.w.now (sym (begins_at a.s.now a.c.at a.w.now) ∙ sym w.starts_with.ensures.value ∙ w.if-starts_with.false))
      | else-c-s-via-else-c-s w ↦ sym (literal_past a.s.now a.c.at a.w.now (omega (arith, w.if-c-s.false)))
    ]
