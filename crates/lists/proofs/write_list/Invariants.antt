use Prim.Native.Nat.{◌+◌}
use mathlib.Core.Path.{◌≡◌}
use Rattle.token.specs.Put.{Put}
use Rattle.lists.proofs.WriteLaws.{written}
use Rattle.lists.proofs.write_list.Given as goal

abbrev pub invariant-loop-x : goal.invariant-loop-x
invariant-loop-x l =
    record {
      number : l.due ≡ l.id + l.x-index;
      put : Put l.initial.out l.out l.at l.p (written l.id l.items l.x-index);
    }
