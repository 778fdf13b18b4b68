use Prim.Native.Nat.{◌-◌}
use lib.ListN.{length}
use Rattle.lists.proofs.EntryLaws.{Copying}
use Rattle.lists.proofs.copy_list.Given as goal

abbrev pub invariant-loop-last : goal.invariant-loop-last
invariant-loop-last l = Copying l.kinds l.end l.s l.id l.initial.place l.initial.out l.out l.at l.next l.due l.place

abbrev pub decreases-loop-last : goal.decreases-loop-last
decreases-loop-last l = length l.s - l.place
