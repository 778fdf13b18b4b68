-- The lowest free place is what trailing zeros of the inverted set and the count of ones give; and the digits of a set after a place is taken or freed.
-- Assumes nothing.
use Rattle.std.proofs.Common.{Some, None}
use Prim.Native.Nat.{ℕ, zero, suc, ◌+◌, ◌-◌, ◌*◌, ◌/◌, ◌%◌, ◌^◌, ◌<◌, ◌≤◌}
use mathlib.Core.Path.{◌≡◌, refl, sym, ap, ◌∙◌}
use mathlib.Core.Logic.{◌⊎◌, inl, inr, ⊎_elim}
use mathlib.Core.Bool.{Bool, true, false, cond, not, ◌||◌, ◌&&◌, false≢true}
use native.Mathlib.Nat.{pow-suc, mod-lt, lt_of_lt_of_le, zero-lt-suc, one-mul, mul-le-mul_right, div-eq_of_lt, suc-mul}
use native.Mathlib.Numerals.{add-one, one-add}
use native.Mathlib.Omega.{arith}
use lib.Dec.{lit<, eqb, leb, eqb-suc-suc, eqb-zero-suc, eqb-suc-zero}
use lib.Count.{count_trailing_zeros, ones, ones_step, ones-le, under}
use lib.Pow.{shr-shr, shl_exact, split, pow_mono, pow-lt, high, pow_pos}
use lib.Bits.{bit_and, bit_or, and_high, or_disjoint, or_add_and, or_shr, or_mod}
use borrow.Author.Tests.{ne_eqb, eqb-true, leb-true, leb-false}
use Rattle.places.specs.Set.{all_places, number_in_use, in_use, free_from, lowest_free, with_place, without_place}

two : (r : ℕ) → r < 2 → (r ≡ 0) ⊎ (r ≡ 1)
two zero h = inl refl
two (suc zero) h = inr refl
two (suc (suc r)) h = absurd (omega arith)

digit : (v : ℕ) → (v % 2 ≡ 0) ⊎ (v % 2 ≡ 1)
digit v = two (v % 2) (mod-lt v (zero-lt-suc 1))

-- the inverse of a number of n + 1 digits: its lowest digit, and the rest
flip_low : (n v : ℕ) → v < 2 ^ suc n → (2 ^ suc n - 1 - v) % 2 ≡ 1 - v % 2
flip_low n v h = omega (arith, pow-suc 2 n)

flip_rest : (n v : ℕ) → v < 2 ^ suc n → (2 ^ suc n - 1 - v) / 2 ≡ 2 ^ n - 1 - v / 2
flip_rest n v h = omega (arith, pow-suc 2 n)

half_below : (n v : ℕ) → v < 2 ^ suc n → v / 2 < 2 ^ n
half_below n v h = omega (arith, pow-suc 2 n)

-- how many ones of n digits stand below the lowest zero
abbrev low : ℕ → ℕ → ℕ
low n v = count_trailing_zeros n (2 ^ n - 1 - v)

low_set : (n v : ℕ) → v < 2 ^ suc n → v % 2 ≡ 1 → low (suc n) v ≡ suc (low n (v / 2))
unfolding count_trailing_zeros
low_set n v h e =
    let f : (2 ^ suc n - 1 - v) % 2 ≡ 0 = omega (arith, flip_low n v h) in
    ap (λ (d : ℕ). under d (count_trailing_zeros n ((2 ^ suc n - 1 - v) / 2))) f ∙ ap (λ (m : ℕ). suc (count_trailing_zeros n m)) (flip_rest n v h)

low_clear : (n v : ℕ) → v < 2 ^ suc n → v % 2 ≡ 0 → low (suc n) v ≡ 0
unfolding count_trailing_zeros
low_clear n v h e =
    let f : (2 ^ suc n - 1 - v) % 2 ≡ 1 = omega (arith, flip_low n v h) in
    ap (λ (d : ℕ). under d (count_trailing_zeros n ((2 ^ suc n - 1 - v) / 2))) f

low_none : (v : ℕ) → low 0 v ≡ 0
unfolding count_trailing_zeros
low_none v = refl

-- all n digits are ones exactly where there are n ones
full : (n v : ℕ) → v < 2 ^ n → eqb (ones v) n ≡ eqb (low n v) n
full zero v h = let e : ones v ≡ 0 = omega (arith, ones-le 0 v h) in rw (e, low_none v)
full (suc n) v h =
    ⊎_elim
    (λ (e : v % 2 ≡ 0).
    let few : eqb (ones v) (suc n) ≡ false = ne_eqb (ones v) (suc n) (λ q. omega (arith, ones_step v, ones-le n (v / 2) (half_below n v h))) in
    rw (few, low_clear n v h e, eqb-zero-suc))
    (λ (e : v % 2 ≡ 1).
    let s : ones v ≡ suc (ones (v / 2)) = omega (arith, ones_step v) in
    rw (s, low_set n v h e, eqb-suc-suc, eqb-suc-suc) (full n (v / 2) (half_below n v h)))
    (digit v)

next : (used i : ℕ) → used / 2 ^ i / 2 ≡ used / 2 ^ suc i
next used i = shr-shr used i 1 ∙ ap (λ (k : ℕ). used / 2 ^ k) (add-one i)

-- the place of the lowest zero
place : (n used i : ℕ) → used / 2 ^ i < 2 ^ n
    → free_from used i n ≡ cond (eqb (low n (used / 2 ^ i)) n) None (Some (i + low n (used / 2 ^ i)))
unfolding free_from
place zero used i h = rw low_none
place (suc n) used i h =
    ⊎_elim
    (λ (e : used / 2 ^ i % 2 ≡ 0). rw (e, low_clear n (used / 2 ^ i) h e, eqb-zero-suc) (ap Some (omega arith)))
    (λ (e : used / 2 ^ i % 2 ≡ 1).
    rw (e, low_set n (used / 2 ^ i) h e, eqb-suc-suc, next used i)
    (place n used (suc i) (rw (← next used i) (half_below n (used / 2 ^ i) h)) ∙ ap (λ (k : ℕ). cond (eqb (low n (used / 2 ^ suc i)) n) None (Some k)) (omega arith)))
    (digit (used / 2 ^ i))

pub lowest : (used : ℕ) → used < 2 ^ 32 → lowest_free used ≡ cond (eqb (number_in_use used) all_places) None (Some (count_trailing_zeros 32 (2 ^ 32 - 1 - used)))
unfolding lowest_free
lowest used h =
    let z : used / 2 ^ 0 ≡ used = omega arith in
    place 32 used 0 (rw z h) ∙ rw (z, ← full 32 used h) (ap (λ (k : ℕ). cond (eqb (ones used) 32) None (Some k)) (omega arith))

-- ---- a place taken, and a place freed

pub shift_one : (i : ℕ) → i < 32 → 1 * 2 ^ i % 2 ^ 32 ≡ 2 ^ i
shift_one i h = shl_exact 1 i 32 (lit< tt) (omega arith) ∙ one-mul (2 ^ i)

and_place : (used i : ℕ) → bit_and used (2 ^ i) ≡ (used / 2 ^ i % 2) * 2 ^ i
and_place used i =
    let p : 2 ^ (1 + i) - 2 ^ i ≡ 2 ^ i = rw (one-add i, pow-suc 2 i) (omega arith) in
    rw p at (and_high used 1 i)

pub or_place : (used i : ℕ) → bit_or used (2 ^ i) ≡ with_place used i
unfolding with_place
or_place used i =
    ⊎_elim
    (λ (e : used / 2 ^ i % 2 ≡ 0).
    let a : bit_and used (2 ^ i) ≡ 0 * 2 ^ i = rw e at (and_place used i) in
    rw e (or_disjoint used (2 ^ i) (omega arith)))
    (λ (e : used / 2 ^ i % 2 ≡ 1).
    let a : bit_and used (2 ^ i) ≡ 1 * 2 ^ i = rw e at (and_place used i) in
    rw e (omega (arith, or_add_and used (2 ^ i))))
    (digit (used / 2 ^ i))

-- a place in use is part of the number
pub holds_place : (used i : ℕ) → in_use used i ≡ true → 2 ^ i ≤ used
holds_place used i e =
    let one : 1 ≤ used / 2 ^ i = omega (arith, eqb-true (used / 2 ^ i % 2) 1 e) in
    omega (arith, split used i, mul-le-mul_right (2 ^ i) one)

-- a set of 32 digits has no other place
pub none_past : (used i : ℕ) → used < 2 ^ 32 → 32 ≤ i → in_use used i ≡ false
none_past used i h p = ap (λ (q : ℕ). eqb (q % 2) 1) (div-eq_of_lt (lt_of_lt_of_le h (pow_mono p)))

pub one_of_32 : (used i : ℕ) → used < 2 ^ 32 → in_use used i ≡ true → i < 32
one_of_32 used i h e = go (leb 32 i) refl
  where
    go : (t : Bool) → leb 32 i ≡ t → i < 32
    go true q = absurd (false≢true (sym (none_past used i h (leb-true 32 i q)) ∙ e))
    go false q = leb-false 32 i q

-- ---- which places are in use then

-- digit j of 2 ^ i
place_digit : (i j : ℕ) → 2 ^ i / 2 ^ j % 2 ≡ cond (eqb i j) 1 0
place_digit zero zero = refl
place_digit zero (suc j) = rw (div-eq_of_lt (pow-lt {i = 0} {j = suc j} (zero-lt-suc j)), eqb-zero-suc)
place_digit (suc i) zero = rw (pow-suc 2 i, eqb-suc-zero) (omega arith)
place_digit (suc i) (suc j) =
    let half : 2 ^ suc i / 2 ≡ 2 ^ i = rw (pow-suc 2 i) (omega arith) in
    let down : 2 ^ suc i / 2 ^ suc j ≡ 2 ^ i / 2 ^ j = sym (rw (half, one-add) at (shr-shr (2 ^ suc i) 1 j)) in
    rw (down, eqb-suc-suc) (place_digit i j)

pub taken_in : (used i j : ℕ) → in_use (with_place used i) j ≡ (eqb i j || in_use used j)
taken_in used i j =
    rw (← or_place used i, or_shr used (2 ^ i) j, or_mod (used / 2 ^ j) (2 ^ i / 2 ^ j) 1, place_digit i j)
    (⊎_elim (λ (e : used / 2 ^ j % 2 ≡ 0). rw e (either (eqb i j))) (λ (e : used / 2 ^ j % 2 ≡ 1). rw e (both (eqb i j))) (digit (used / 2 ^ j)))
  where
    either : (b : Bool) → eqb (bit_or 0 (cond b 1 0)) 1 ≡ (b || false)
    either true = refl
    either false = refl

    both : (b : Bool) → eqb (bit_or 1 (cond b 1 0)) 1 ≡ (b || true)
    both true = refl
    both false = refl

-- ---- what the lowest free place is

free_at : (n used i k : ℕ) → free_from used i n ≡ Some k → (i ≤ k) × (k < i + n) × (in_use used k ≡ false)
unfolding free_from
free_at zero used i k e = let z : ◌≡◌ {A = ℕ} 0 1 = cc in absurd (omega arith)
free_at (suc n) used i k e = go (in_use used i) refl (free_at n used (suc i) k) e
  where
    go : (b : Bool) → in_use used i ≡ b → (free_from used (suc i) n ≡ Some k → (suc i ≤ k) × (k < suc i + n) × (in_use used k ≡ false))
        → cond b (free_from used (suc i) n) (Some i) ≡ Some k → (i ≤ k) × (k < i + suc n) × (in_use used k ≡ false)
    go true h rest q = let r = rest q in (omega (arith, r.0), omega (arith, r.1), r.2)
    go false h rest q = let same : i ≡ k = cc in (omega arith, omega arith, rw (← same) h)

-- it is one of the 32, and not in the set
pub lowest_at : (used k : ℕ) → lowest_free used ≡ Some k → (k < all_places) × (in_use used k ≡ false)
unfolding lowest_free
lowest_at used k e = let r = free_at 32 used 0 k e in (omega (arith, r.1), r.2)

-- a set with the place, without it: its digit is 0
less : (used i : ℕ) → in_use used i ≡ true → in_use (used - 2 ^ i) i ≡ false
less used i e =
    let q : used / 2 ^ i % 2 ≡ 1 = eqb-true (used / 2 ^ i % 2) 1 e in
    let one : used / 2 ^ i ≡ suc (used / 2 ^ i - 1) = omega arith in
    let parts : suc (used / 2 ^ i - 1) * 2 ^ i + used % 2 ^ i ≡ used = rw one at (split used i) in
    let rest : used - 2 ^ i ≡ (used / 2 ^ i - 1) * 2 ^ i + used % 2 ^ i = omega (arith, parts, suc-mul (used / 2 ^ i - 1) (2 ^ i)) in
    let up : (used - 2 ^ i) / 2 ^ i ≡ used / 2 ^ i - 1 = rw rest (high (used / 2 ^ i - 1) i (mod-lt used (pow_pos i))) in
    rw up (ne_eqb ((used / 2 ^ i - 1) % 2) 1 (λ (z : (used / 2 ^ i - 1) % 2 ≡ 1). omega arith))

-- a freed place is out of the set, and the others are as they were
pub freed_in : (used i j : ℕ) → in_use (without_place used i) j ≡ (not (eqb i j) && in_use used j)
unfolding without_place with_place
freed_in used i j = go (in_use used i) refl (eqb i j) refl
  where
    go : (b : Bool) → in_use used i ≡ b → (t : Bool) → eqb i j ≡ t → in_use (cond b (used - 2 ^ i) used) j ≡ (not t && in_use used j)
    go false e true q = rw (← eqb-true i j q) e
    go false e false q = refl
    go true e true q = rw (← eqb-true i j q) (less used i e)
    go true e false q =
        let back : with_place (used - 2 ^ i) i ≡ used = rw (less used i e) (omega (arith, holds_place used i e)) in
        sym (rw (back, q) at (taken_in (used - 2 ^ i) i j))
