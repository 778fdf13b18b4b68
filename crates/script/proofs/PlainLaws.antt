-- A number of a script is plain if it is as long as what the writer writes of it.
-- Assumes nothing.
use Prim.Native.Nat.{ℕ, ◌+◌, ◌-◌, ◌≤◌}
use mathlib.Core.Path.{◌≡◌, refl, subst}
use mathlib.Core.Bool.{Bool, true, false, cond}
use mathlib.Core.List.{List}
use native.Mathlib.Omega.{arith}
use lib.ListN.{length}
use lib.Dec.{eqb}
use borrow.Author.Tests.{eq-eqb, ne_eqb}
use Rattle.token.specs.Ans.{Ans, got, bad}
use Rattle.token.specs.Number.{digits, number_at}
use Rattle.token.proofs.NumberLaws.{number_moves}
use Rattle.script.specs.Script.{Last, plain_in, plain_at, last_in, last_number}

module _ (s : List ℕ) (at lo hi n p : ℕ) (e : number_at s at lo hi ≡ got n p) where
  pub goes_on : at ≤ p
  goes_on = omega (arith, (number_moves s at n lo hi p e).forward)

  pub plain_yes : p - at ≡ length (digits n) → got n p ≡ plain_at s at lo hi
  unfolding plain_at
  plain_yes h = rw (e, eq-eqb p (at + length (digits n)) (omega (arith, goes_on)))

  pub plain_no : (p - at ≡ length (digits n) → ⊥) → bad 7 at ≡ plain_at s at lo hi
  unfolding plain_at
  plain_no h = rw (e, ne_eqb p (at + length (digits n)) (λ q. h (omega (arith, q))))

-- ---- a number that ends its line has its range
abbrev Within : ℕ → Last → Type 0
Within hi (Last.Number n) = n ≤ hi
Within hi Last.Nothing = Unit {0}

module _ (s : List ℕ) (at hi n p : ℕ) (h : n ≤ hi) where
  ends_within : (t : Bool) → Within hi (cond t (Last.Number n) Last.Nothing)
  ends_within true = h
  ends_within false = tt

  plain_within : (t : Bool) → Within hi (last_in s (cond t (got n p) (bad 7 at)))
  plain_within true = ends_within (eqb p (length s))
  plain_within false = tt

read_within : (s : List ℕ) (at lo hi : ℕ) (x : Ans ℕ) → number_at s at lo hi ≡ x → Within hi (last_in s (plain_in at x))
read_within s at lo hi (got n p) e = plain_within s at hi n p (number_moves s at n lo hi p e).high (eqb p (at + length (digits n)))
read_within s at lo hi (bad k p) e = tt

pub last_high : (s : List ℕ) (at lo hi n : ℕ) → last_number s at lo hi ≡ Last.Number n → n ≤ hi
unfolding plain_at
last_high s at lo hi n e = subst (Within hi) e (read_within s at lo hi (number_at s at lo hi) refl)
