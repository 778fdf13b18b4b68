use Prim.Native.Nat.{◌+◌, ◌≤◌}
use mathlib.Core.Path.{◌≡◌}
use lib.ListN.{length, take}
use Rattle.token.specs.Put.{Put}
use Rattle.token.proofs.put_text.Given as goal

abbrev pub invariant-loop-i : goal.invariant-loop-i
invariant-loop-i l = (l.i ≤ l.n) × Put l.initial.out l.out l.at (l.at + l.i) (take l.i l.w) × (length l.out ≡ length l.initial.out)
