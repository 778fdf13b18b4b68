use mathlib.Core.Path.{sym, ap, ◌∙◌}
use Rattle.ranges.proofs.UsedLaws.{each_end, each_bad, each_turn, each_free}
use Rattle.ranges.proofs.each_used.Goals as goal
use Rattle.ranges.proofs.each_used.Goals.{else-in_use-via-then-in_use+else-not-passes, else-in_use-via-else-in_use}

pub returns-then-not-passes : goal.returns-then-not-passes
returns-then-not-passes g c q h =
    let a = c.args in
    let x = c.index-entries-i in
    sym (c.loop-i.invariant q h ∙ each_bad q a.used a.entries.now x.result c.loop-i.i c.loop-i-test.true (sym c.in_use.ensures ∙ c.if-in_use.true) (ap q (sym x.is) ∙ sym (h x.result c.passes.result c.passes.ensures) ∙ c.if-not-passes.true))

pub loop-i-preserved : goal.loop-i-preserved
loop-i-preserved g c q h =
    let a = c.args in
    let x = c.index-entries-i in
    c.loop-i.invariant q h
    ∙ (elim c.else-in_use.branch [
      | else-in_use-via-then-in_use+else-not-passes w ↦ each_turn q a.used a.entries.now x.result c.loop-i.i c.loop-i-test.true (sym c.in_use.ensures ∙ w.if-in_use.true) (ap q (sym x.is) ∙ sym (h x.result w.passes.result w.passes.ensures) ∙ w.if-not-passes.false)
      | else-in_use-via-else-in_use w ↦ each_free q a.used a.entries.now x.result c.loop-i.i c.loop-i-test.true (sym c.in_use.ensures ∙ w.if-in_use.false)
    ])

pub returns : goal.returns
returns g c q h = sym (c.loop-i.invariant q h ∙ each_end q c.args.used c.args.entries.now c.loop-i.i c.loop-i-test.false)
