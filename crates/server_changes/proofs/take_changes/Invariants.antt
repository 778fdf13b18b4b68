use Prim.Native.Nat.{◌≤◌, ◌+◌}
use mathlib.Core.Path.{◌≡◌}
use mathlib.Core.List.{◌++◌}
use lib.ListN.{length, drop}
use Rattle.places.specs.Act.{in_order, replies}
use Rattle.listing.specs.Listing.{items_of}
use Rattle.listing.proofs.Answering.{Answering}
use Rattle.server_changes.specs.Step4.{change, change_status}
use Rattle.server_changes.proofs.take_changes.Given as goal

abbrev pub invariant-loop-i : goal.invariant-loop-i
invariant-loop-i l =
    (l.i ≤ length l.commands)
    × (in_order (change l.rule) (drop l.i l.commands) l.s ≡ in_order (change l.rule) l.commands l.fn.s)
    × Answering (change_status l.rule) (change l.rule) l.fn.told (items_of l.fn.told ++ replies (change_status l.rule) (change l.rule) l.first l.commands l.fn.s) (l.fn.told.n + l.i) (l.first + l.i) (drop l.i l.commands) l.s l.statuses
