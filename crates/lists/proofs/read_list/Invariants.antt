use Prim.Native.Nat.{◌-◌}
use lib.ListN.{length}
use Rattle.lists.proofs.EntryLaws.{Reading}
use Rattle.lists.proofs.read_list.Given as goal

abbrev pub invariant-loop-last : goal.invariant-loop-last
invariant-loop-last l = Reading l.kinds l.end l.s l.id l.initial.at l.items l.n l.at

abbrev pub decreases-loop-last : goal.decreases-loop-last
decreases-loop-last l = length l.s - l.at
