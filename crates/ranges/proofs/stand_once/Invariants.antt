use Rattle.std.proofs.Common.{◌≡◌, drop}
use Rattle.ranges.specs.Range.{once}
use Rattle.ranges.proofs.stand_once.Given as goal

abbrev pub invariant-loop-i : goal.invariant-loop-i
invariant-loop-i l = once l.row ≡ once (drop l.i l.row)
