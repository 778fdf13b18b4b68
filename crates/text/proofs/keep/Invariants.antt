use Prim.Native.Nat.{◌≤◌}
use mathlib.Core.Path.{◌≡◌}
use lib.ListN.{length}
use Rattle.text.specs.Text.{longest}
use Rattle.text.proofs.KeptLaws.{filled}
use Rattle.text.proofs.keep.Given as goal

abbrev pub invariant-loop-i : goal.invariant-loop-i
invariant-loop-i l = (l.i ≤ l.n) × (l.n ≤ longest) × (l.n ≤ length l.s) × (l.bytes ≡ filled l.s l.i)
