use Prim.Native.Nat.{◌<◌}
use mathlib.Core.Path.{◌≡◌, sym, ◌∙◌}
use mathlib.Core.Bool.{true}
use native.Mathlib.Omega.{arith}
use Rattle.places.specs.Set.{all_places, in_use, without_place}
use Rattle.places.proofs.Bits.{shift_one, holds_place, one_of_32}
use borrow.Author.Rules.{rules}
use Rattle.places.proofs.freed.Goals as goal
use Rattle.places.proofs.freed.Goals.{Then-in_use}

-- the test has passed: the place is in the set, and so one of the 32
there : (c : Then-in_use) → in_use c.args.used c.args.i ≡ true
there c = sym c.in_use.ensures ∙ c.if-in_use.true

inside : (c : Then-in_use) → c.args.i < all_places
inside c = one_of_32 c.args.used c.args.i (search rules) (there c)

pub overflow_cast-result : goal.overflow_cast-result
overflow_cast-result c = omega (arith, inside (goal.at.overflow_cast-result c).Then-in_use)

pub overflow_shl-result : goal.overflow_shl-result
overflow_shl-result c = omega (arith, inside (goal.at.overflow_shl-result c).Then-in_use)

pub overflow_sub-result : goal.overflow_sub-result
overflow_sub-result c = rw (shift_one c.args.i (inside (goal.at.overflow_sub-result c).Then-in_use)) (holds_place c.args.used c.args.i (there (goal.at.overflow_sub-result c).Then-in_use))

pub returns-then-in_use : goal.returns-then-in_use
unfolding without_place
returns-then-in_use c = rw (shift_one c.args.i (inside (goal.at.returns-then-in_use c).Then-in_use), ← c.in_use.ensures, c.if-in_use.true)

pub returns-else-in_use : goal.returns-else-in_use
unfolding without_place
returns-else-in_use c = rw (← c.in_use.ensures, c.if-in_use.false)
