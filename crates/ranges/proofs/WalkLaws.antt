-- A loop that walks along a row and looks for a number that stands again.
-- Assumes nothing.
use Prim.Native.Nat.{ℕ, ◌+◌, ◌-◌, ◌<◌, ◌≤◌}
use mathlib.Core.Path.{◌≡◌}
use mathlib.Core.Bool.{true, false}
use mathlib.Core.List.{List}
use native.Mathlib.Numerals.{add-one}
use lib.Dec.{eqb}
use lib.ListN.{length, take, drop, get_or, length-drop, drop_of_length-le}
use lib.Seq.{take_all, drop-cons}
use native.Mathlib.Omega.{arith}
use Rattle.ranges.specs.Range.{has, once}

-- all that stands from a place on
pub to_end : (s : List ℕ) (i : ℕ) → take (length s - i) (drop i s) ≡ drop i s
to_end s i = take_all (length s - i) (drop i s) (omega (arith, length-drop i s))

-- ---- a number that stands again
pub once_end : (s : List ℕ) (i : ℕ) → length s ≤ i → once (drop i s) ≡ true
unfolding once
once_end s i h = rw (drop_of_length-le s h)

module _ (s : List ℕ) (i : ℕ) (h : i < length s) where
  pub once_again : eqb (get_or s i 0) 0 ≡ false → has (get_or s i 0) (drop (i + 1) s) ≡ true → once (drop i s) ≡ false
  unfolding once
  once_again z e = let k = rw (add-one i) at e in rw (drop-cons s i 0, z, k)

  pub once_zero : eqb (get_or s i 0) 0 ≡ true → once (drop i s) ≡ once (drop (i + 1) s)
  unfolding once
  once_zero z = rw (drop-cons s i 0, z, add-one i)

  pub once_turn : eqb (get_or s i 0) 0 ≡ false → has (get_or s i 0) (drop (i + 1) s) ≡ false → once (drop i s) ≡ once (drop (i + 1) s)
  unfolding once
  once_turn z e = let k = rw (add-one i) at e in rw (drop-cons s i 0, z, k, add-one i)
