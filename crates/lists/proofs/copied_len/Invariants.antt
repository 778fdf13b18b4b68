use Prim.Native.Nat.{◌-◌}
use lib.ListN.{length}
use Rattle.lists.proofs.EntryLaws.{Measuring}
use Rattle.lists.proofs.copied_len.Given as goal

abbrev pub invariant-loop-last : goal.invariant-loop-last
invariant-loop-last l = Measuring l.kinds l.end l.s l.id l.initial.place l.next l.due l.place

abbrev pub decreases-loop-last : goal.decreases-loop-last
decreases-loop-last l = length l.s - l.place
