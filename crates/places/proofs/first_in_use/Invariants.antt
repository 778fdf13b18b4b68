use Rattle.std.proofs.Common.{◌≡◌, ◌≤◌, Bool, length, drop}
use Rattle.places.specs.First.{first_from}
use Rattle.places.specs.Act.{hit}
use Rattle.places.specs.Tells.{Tells}
use Rattle.places.proofs.first_in_use.Given as goal

abbrev pub invariant-loop-i : goal.invariant-loop-i
invariant-loop-i g l =
    (l.i ≤ length l.entries)
    × ((q : g.row.T.Denot → Bool) → Tells g.F.Fn l.passes q → first_from (hit l.used q) l.i (drop l.i l.entries) ≡ first_from (hit l.used q) 0 l.entries)
