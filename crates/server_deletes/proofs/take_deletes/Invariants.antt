use Prim.Native.Nat.{◌+◌}
use mathlib.Core.Path.{◌≡◌}
use mathlib.Core.List.{[]}
use lib.ListN.{drop}
use Rattle.places.specs.Act.{in_order, replies}
use Rattle.listing.specs.Listing.{listing}
use Rattle.listing.proofs.Answering.{Answering}
use Rattle.server_deletes.specs.Step2.{delete, delete_status}
use Rattle.server_deletes.proofs.take_deletes.Given as goal

abbrev pub invariant-loop-i : goal.invariant-loop-i
invariant-loop-i l =
    (in_order delete (drop l.i l.deletes) l.s ≡ in_order delete l.deletes l.initial.s)
    × Answering delete_status delete (listing []) (replies delete_status delete l.first l.deletes l.initial.s) l.i (l.first + l.i) (drop l.i l.deletes) l.s l.told
