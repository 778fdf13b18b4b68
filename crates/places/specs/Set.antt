-- A set of places, as a number: place i is in it where the binary digit i is 1.
use Rattle.std.specs.Prelude.{Option, Some, None}
use Rattle.std.specs.Prelude.{ℕ, zero, suc, ◌+◌, ◌-◌, ◌/◌, ◌%◌, ◌^◌, Bool, cond, eqb}
use Rattle.std.specs.Int.Count.{ones}

-- 01, "The two tables": each side has 32 places
abbrev pub all_places : ℕ
all_places = 32

abbrev pub in_use : ℕ → ℕ → Bool
in_use used i = eqb (used / 2 ^ i % 2) 1

-- the number in use is the count of the set's ones
abbrev pub number_in_use : ℕ → ℕ
number_in_use used = ones used

-- the least of the n places from i on that is not in the set
unfoldable pub free_from : ℕ → ℕ → ℕ → Option ℕ
free_from used i zero = None
free_from used i (suc n) = cond (in_use used i) (free_from used (suc i) n) (Some i)

unfoldable pub lowest_free : ℕ → Option ℕ
lowest_free used = free_from used 0 all_places

unfoldable pub with_place : ℕ → ℕ → ℕ
with_place used i = cond (in_use used i) used (used + 2 ^ i)

unfoldable pub without_place : ℕ → ℕ → ℕ
without_place used i = cond (in_use used i) (used - 2 ^ i) used
