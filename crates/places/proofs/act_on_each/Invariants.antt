use Rattle.std.proofs.Common.{◌≡◌, ◌≤◌, ◌-◌, Bool, Option, length}
use Rattle.places.specs.Set.{all_places}
use Rattle.places.specs.Act.{each_from, slot, table}
use Rattle.places.specs.Tells.{Tells, Makes}
use Rattle.places.proofs.act_on_each.Given as goal

-- what the turns from here on make of the table is what all turns make of the first
abbrev pub invariant-loop-i : goal.invariant-loop-i
invariant-loop-i g l =
    (l.i ≤ all_places)
    × (length l.entries ≡ all_places)
    × ((d : g.row.T.Denot) (q : g.row.T.Denot → Bool) (f : g.row.T.Denot → Option g.row.T.Denot) → Tells g.P.Fn l.passes q → Makes g.F.Fn l.becomes f
    → each_from d q (λ x. slot (f x)) l.i (all_places - l.i) (table l.used l.entries) ≡ each_from d q (λ x. slot (f x)) 0 all_places (table l.fn.used l.fn.entries))
