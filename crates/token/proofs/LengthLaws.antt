-- How long a decimal is.
-- Assumes nothing.
use Prim.Native.Nat.{ℕ, zero, suc, ◌+◌, ◌-◌, ◌*◌, ◌/◌, ◌%◌, ◌^◌, ◌≤◌, ◌<◌}
use mathlib.Core.Path.{◌≡◌, refl, ap, ◌∙◌}
use mathlib.Core.Bool.{Bool, true, false}
use mathlib.Core.List.{List, [], ◌∷◌}
use native.Mathlib.Omega.{arith}
use native.Mathlib.Nat.{pow-succ'}
use lib.ListN.{length, length-append}
use lib.Dec.{leb}
use borrow.Author.Tests.{leb-true, leb-false}
use Rattle.token.specs.Number.{digits, is_digit, count, value, Spellable}
use Rattle.token.proofs.DigitLaws.{digit_true, digits_last, digits_more}

pub length_last : (n : ℕ) → n < 10 → length (digits n) ≡ 1
length_last n h = ap length (digits_last n h)

pub length_more : (n : ℕ) → 10 ≤ n → length (digits n) ≡ length (digits (n / 10)) + 1
length_more n h = ap length (digits_more n h) ∙ length-append (digits (n / 10)) ((48 + n % 10) ∷ [])

pub length_pos : (n : ℕ) → 1 ≤ length (digits n)
length_pos n = go (leb 10 n) refl
  where
    go : (x : Bool) → leb 10 n ≡ x → 1 ≤ length (digits n)
    go true e = let h = length_more n (leb-true 10 n e) in omega arith
    go false e = let h = length_last n (leb-false 10 n e) in omega arith

pub length_within : (k n : ℕ) → n < 10 ^ suc k → length (digits n) ≤ suc k
length_within zero n h = let e = length_last n (omega (arith, h)) in omega arith
length_within (suc k) n h = go (leb 10 n) refl (λ q. length_within k (n / 10) q)
  where
    go : (x : Bool) → leb 10 n ≡ x → (n / 10 < 10 ^ suc k → length (digits (n / 10)) ≤ suc k) → length (digits n) ≤ suc (suc k)
    go true e ih =
        let g = leb-true 10 n e in
        let m = length_more n g in
        let p = pow-succ' 10 (suc k) in
        let r = ih (omega arith) in
        omega arith
    go false e ih = let m = length_last n (leb-false 10 n e) in omega arith

-- a number of 32 bits has at most 10 digits, so it is never too long to be read
pub length_10 : (n : ℕ) → n < 4294967296 → length (digits n) ≤ 10
length_10 n h = length_within 9 n (omega arith)

pub spellable : (n : ℕ) → n ≤ 4294967295 → Spellable n
spellable n h = omega (arith, length_10 n (omega arith))

-- ---- what is written of a number is no longer than the digits that were read
length_digit : (v d : ℕ) → d < 10 → length (digits (v * 10 + d)) ≤ length (digits v) + 1
length_digit v d h = go (leb 10 (v * 10 + d)) refl
  where
    go : (x : Bool) → leb 10 (v * 10 + d) ≡ x → length (digits (v * 10 + d)) ≤ length (digits v) + 1
    go true e =
        let q : (v * 10 + d) / 10 ≡ v = omega arith in
        let m : length (digits (v * 10 + d)) ≡ length (digits v) + 1 = length_more (v * 10 + d) (leb-true 10 (v * 10 + d) e) ∙ ap (λ (n : ℕ). length (digits n) + 1) q in
        omega arith
    go false e = let m = length_last (v * 10 + d) (leb-false 10 (v * 10 + d) e) in omega (arith, length_pos v)

length_value : (l : List ℕ) (v : ℕ) → length (digits (value l v)) ≤ length (digits v) + count l
unfolding value count
length_value [] v = omega arith
length_value (b ∷ l) v = go (length_value l (v * 10 + (b - 48))) (is_digit b) refl
  where
    go : length (digits (value l (v * 10 + (b - 48)))) ≤ length (digits (v * 10 + (b - 48))) + count l → (x : Bool) → is_digit b ≡ x → length (digits (value (b ∷ l) v)) ≤ length (digits v) + count (b ∷ l)
    go ih true e = let r = digit_true b e in simp e (omega (arith, ih, length_digit v (b - 48) (omega arith)))
    go ih false e = simp e (omega arith)

pub length_read : (l : List ℕ) → 0 < count l → length (digits (value l 0)) ≤ count l
unfolding value count
length_read [] h = absurd (omega arith)
length_read (b ∷ l) h = go (is_digit b) refl
  where
    go : (x : Bool) → is_digit b ≡ x → length (digits (value (b ∷ l) 0)) ≤ count (b ∷ l)
    go true e =
        let r = digit_true b e in
        let u : 0 * 10 + (b - 48) ≡ b - 48 = omega arith in
        simp (e, u) (omega (arith, length_value l (b - 48), length_last (b - 48) (omega arith)))
    go false e = let n : 0 < 0 = simp e at h in absurd (omega arith)
