use Prim.Native.Nat.{ℕ, ◌+◌, ◌-◌}
use mathlib.Core.Path.{◌≡◌, sym, ap, ◌∙◌}
use mathlib.Core.List.{List}
use lib.ListN.{length, take, drop, get_or}
use borrow.Author.Tests.{eq-eqb, ne_eqb}
use Rattle.ranges.specs.Range.{has}
use Rattle.ranges.proofs.WalkLaws.{to_end, once_end, once_again, once_zero, once_turn}
use Rattle.ranges.proofs.stand_once.Goals as goal
use Rattle.ranges.proofs.stand_once.Goals.{else-n-ne0-via-else-n-ne0, else-n-ne0-via-then-n-ne0+else-contains}

-- what stands from a place on, as it is lent
rest : (n : ℕ) (s : List ℕ) (i : ℕ) → has n (drop i s) ≡ has n (take (length s - i) (drop i s))
rest n s i = ap (has n) (sym (to_end s i))

pub returns-then-contains : goal.returns-then-contains
returns-then-contains c =
    let l = c.loop-i in
    let row = c.args.row.now in
    sym (l.invariant ∙ once_again _ l.i c.loop-i-test.true (ne_eqb _ _ c.if-n-ne0.true) (rest (get_or row l.i 0) row (l.i + 1) ∙ sym c.contains.ensures.value ∙ c.if-contains.true))

pub loop-i-preserved : goal.loop-i-preserved
loop-i-preserved c =
    let l = c.loop-i in
    let row = c.args.row.now in
    l.invariant
    ∙ (elim c.else-n-ne0.branch [
      | else-n-ne0-via-then-n-ne0+else-contains w ↦ once_turn _ l.i c.loop-i-test.true (ne_eqb _ _ w.if-n-ne0.true) (rest (get_or row l.i 0) row (l.i + 1) ∙ sym w.contains.ensures.value ∙ w.if-contains.false)
      | else-n-ne0-via-else-n-ne0 w ↦ once_zero _ l.i c.loop-i-test.true (eq-eqb _ _ w.if-n-ne0.false)
    ])

pub returns : goal.returns
returns c = sym (c.loop-i.invariant ∙ once_end _ c.loop-i.i c.loop-i-test.false)
