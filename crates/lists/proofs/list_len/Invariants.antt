use Prim.Native.Nat.{◌+◌, ◌*◌, ◌≤◌}
use mathlib.Core.Path.{◌≡◌}
use lib.ListN.{length}
use Rattle.lists.proofs.WriteLaws.{written}
use Rattle.lists.proofs.list_len.Given as goal

abbrev pub invariant-loop-x : goal.invariant-loop-x
invariant-loop-x l =
    record {
      number : l.due ≡ l.id + l.x-index;
      long : l.len ≡ length (written l.id l.items l.x-index);
      small : l.len ≤ 1000000 * l.x-index;
    }
