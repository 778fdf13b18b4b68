use Rattle.std.proofs.Common.{◌≡◌, Bool, drop}
use Rattle.ranges.specs.Range.{each_used}
use Rattle.ranges.proofs.each_used.Given as goal

abbrev pub invariant-loop-i : goal.invariant-loop-i
invariant-loop-i g l =
    (q : g.row.T.Denot → Bool) → ((x : g.row.T.Denot) (r : Bool) → goal.F-post g l.passes x r → r ≡ q x) → each_used q l.used 0 l.entries ≡ each_used q l.used l.i (drop l.i l.entries)
