-- The test of a number tells exactly those in their range.
-- Assumes nothing.
use Prim.Native.Nat.{ℕ, ◌≤◌}
use mathlib.Core.Path.{◌≡◌}
use mathlib.Core.Bool.{true}
use lib.Dec.{leb}
use borrow.Author.Tests.{leb-true, le-leb}
use Rattle.places.proofs.Choice.{and_first, and_second, and_both}
use Rattle.ranges.specs.Range.{is_number}

pub tested_number : (n : ℕ) → is_number n ≡ true → (1 ≤ n) × (n ≤ 4294967295)
tested_number n e = (leb-true 1 n (and_first (leb 1 n) (leb n 4294967295) e), leb-true n 4294967295 (and_second (leb 1 n) (leb n 4294967295) e))

pub number_tested : (n : ℕ) → (1 ≤ n) × (n ≤ 4294967295) → is_number n ≡ true
number_tested n h = and_both (leb 1 n) (leb n 4294967295) (le-leb 1 n h.0) (le-leb n 4294967295 h.1)
