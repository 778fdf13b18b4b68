use Prim.Native.Nat.{◌+◌, ◌-◌}
use mathlib.Core.Path.{◌≡◌}
use Rattle.page.specs.Kind.{kind_row_at}
use Rattle.page.proofs.first_kind.Given as goal

abbrev pub invariant-loop-k : goal.invariant-loop-k
invariant-loop-k l =
    let n = l.fn.kinds in
    kind_row_at n.count n.from l.id l.s l.c.at ≡ kind_row_at (n.from + n.count - l.k) l.k l.id l.s l.c.at
