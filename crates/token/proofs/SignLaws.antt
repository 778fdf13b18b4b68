-- The sign of a number, and its first digit.
-- Assumes nothing.
use Prim.Native.Nat.{ℕ, ◌+◌, ◌≤◌, ◌<◌}
use mathlib.Core.Path.{◌≡◌, sym, ap, ◌∙◌}
use mathlib.Core.Bool.{cond}
use mathlib.Core.List.{List}
use native.Mathlib.Omega.{arith}
use lib.ListN.{length, drop, get_or, drop_of_length-le}
use lib.Seq.{drop-cons, drop-drop}
use lib.Dec.{eqb}
use borrow.Author.Tests.{eq-eqb, ne_eqb}
use Rattle.token.specs.Number.{sign, unsigned}

-- where the digits of a number at `at` begin
abbrev pub first : List ℕ → ℕ → ℕ
first s at = at + sign (drop at s)

pub unsigned_at : (s : List ℕ) (at : ℕ) → unsigned (drop at s) ≡ drop (first s at) s
unsigned_at s at = drop-drop (sign (drop at s)) at s

-- ---- what the code finds by looking at the byte there
module _ (s : List ℕ) (at : ℕ) where
  sign_here : at < length s → sign (drop at s) ≡ cond (eqb (get_or s at 0) 43) 1 0
  unfolding sign
  sign_here h = rw (drop-cons s at 0)

  pub sign_yes : at < length s → get_or s at 0 ≡ 43 → at + 1 ≡ first s at
  sign_yes h e = ap (λ (n : ℕ). at + n) (sym (sign_here h ∙ simp (eq-eqb (get_or s at 0) 43 e)))

  pub sign_no : at < length s → (get_or s at 0 ≡ 43 → ⊥) → at ≡ first s at
  sign_no h n = let z : sign (drop at s) ≡ 0 = sign_here h ∙ simp (ne_eqb (get_or s at 0) 43 n) in omega arith

  pub sign_past : length s ≤ at → at ≡ first s at
  unfolding sign
  sign_past h = let z : sign (drop at s) ≡ 0 = rw (drop_of_length-le s h) in omega arith
