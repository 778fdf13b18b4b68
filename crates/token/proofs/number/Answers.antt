use Rattle.std.proofs.Common.{arith, sym, ◌∙◌, ◌+◌, ◌*◌, ◌<◌, ◌≡◌, length, drop, Some}
use Rattle.token.specs.Digit.{digit_of}
use Rattle.token.proofs.DigitLaws.{value_grows, turn_value, turn_within}
use Rattle.token.proofs.SignLaws.{first}
use Rattle.token.proofs.NumberLaws.{Scanned, Ended, scan_none, scan_turn, scan_end, refuse_high, refuse_low, refuse_none, refuse_long, accept}
use Rattle.token.proofs.number.Goals.{then-end-from-via-then-end-from, then-end-from-via-else-end-from+then-end-c-gt-LONGEST, then-end-from-via-else-end-from+else-end-c-gt-LONGEST+then-v-from}
use Rattle.token.proofs.number.Goals.{In-Some, In_default}
use Rattle.token.proofs.number.Goals as goal

pub loop-d-init : goal.loop-d-init
loop-d-init c = (omega arith, scan_none _ _ _ c.past_sign-from.ensures)

digit : (c : In-Some) → digit_of (drop c.loop-d.end c.args.s.now) ≡ Some c.in-Some.d
digit c = sym c.digit_at.ensures ∙ c.in-Some.is

turned : (c : In-Some) → Scanned c.args.s.now (first c.args.s.now c.args.c.at) (c.loop-d.end + 1) (c.loop-d.v * 10 + c.in-Some.d)
turned c = scan_turn _ _ _ _ _ c.loop-d.invariant.1 (digit c)

within : (c : In-Some) → c.loop-d.end < length c.args.s.now
within c = turn_within _ _ _ (digit c)

pub overflow_add-v : goal.overflow_add-v
overflow_add-v c = let d = (turn_value _ _ c.loop-d.v (digit c)).0 in omega arith

pub returns-then-from-v : goal.returns-then-from-v
returns-then-from-v c =
    let s = c.args.s.now in
    let l = c.loop-d in
    let r = (turned (goal.at.returns-then-from-v c).In-Some).val in
    sym (refuse_high s c.args.c.at c.args.lo c.args.hi (omega (arith, r, c.from.ensures, c.if-from-v.true, value_grows (drop (l.end + 1) s) (l.v * 10 + c.in-Some.d))))

pub overflow_add-end : goal.overflow_add-end
overflow_add-end c = omega (arith, within (goal.at.overflow_add-end c).In-Some)

pub loop-d-smaller : goal.loop-d-smaller
loop-d-smaller c = omega (arith, within (goal.at.loop-d-smaller c).In-Some)

pub loop-d-preserved : goal.loop-d-preserved
loop-d-preserved c = (omega (arith, c.if-from-v.false, c.from.ensures), turned (goal.at.loop-d-preserved c).In-Some)

ended : (c : In_default) → Ended c.args.s.now c.args.c.at c.loop-d.end c.loop-d.v
ended c = scan_end _ _ _ _ c.loop-d.invariant.1 (sym c.digit_at.ensures ∙ c.in_default.is)

pub returns-then-end-from : goal.returns-then-end-from
returns-then-end-from c =
    let a = c.args in
    let s = a.s.now in
    let r = ended (goal.at.returns-then-end-from c).In_default in
    elim c.then-end-from.branch [
      | then-end-from-via-then-end-from w ↦ sym (refuse_none s a.c.at a.lo a.hi (omega (arith, r.cnt, w.if-end-from.true, c.past_sign-from.ensures)))
      | then-end-from-via-else-end-from+then-end-c-gt-LONGEST w ↦ sym (refuse_long s a.c.at a.lo a.hi _ _ r (omega (arith, w.if-end-c-gt-LONGEST.true)))
      | then-end-from-via-else-end-from+else-end-c-gt-LONGEST+then-v-from w ↦ sym (refuse_low s a.c.at a.lo a.hi (omega (arith, r.val, w.if-v-from.true, w.from-else-end-c-gt-LONGEST.ensures)))
    ]

pub returns : goal.returns
returns c =
    let a = c.args in
    let s = a.s.now in
    let l = c.loop-d in
    let on : first s a.c.at < l.end = omega (arith, l.invariant.1.on, c.if-end-from.false, c.past_sign-from.ensures) in
    sym (accept s a.c.at a.lo a.hi _ _ (ended (goal.at.returns c).In_default) on c.if-end-c-gt-LONGEST.false (omega (arith, c.if-v-from.false, c.from-else-end-c-gt-LONGEST.ensures)) l.invariant.0)
