use Rattle.std.proofs.Common.{◌≡◌, ℕ, length, take}
use Rattle.places.specs.Set.{all_places}
use Rattle.ranges.specs.Range.{row_of}
use Rattle.ranges.proofs.apart.Given as goal

abbrev pub invariant-loop-i : goal.invariant-loop-i
invariant-loop-i g l =
    (length l.row ≡ all_places)
    × ((num : g.row.T.Denot → ℕ) → ((x : g.row.T.Denot) (n : ℕ) → goal.F-post g l.number x n → n ≡ num x) → take l.i l.row ≡ take l.i (row_of num l.used 0 l.entries))
