-- A number of four bytes reads back, and stands at a place.
-- Assumes nothing.
use Prim.Native.Nat.{ℕ, ◌+◌, ◌*◌, ◌/◌, ◌%◌}
use mathlib.Core.Path.{◌≡◌, ap, ◌∙◌}
use mathlib.Core.List.{List, ◌++◌}
use lib.ListN.{length, get_or}
use lib.Seq.{get_or-append-add}
use native.Mathlib.Omega.{arith}
use Rattle.image.specs.Four.{four, four_in, Fits}

-- the bytes of a number that fits give it back
four_is : (n : ℕ) → Fits n → n % 256 + 256 * (n / 256 % 256 + 256 * (n / 256 / 256 % 256 + 256 * (n / 256 / 256 / 256 % 256))) ≡ n
four_is n h = omega arith

pub four_back : (n : ℕ) (rest : List ℕ) → Fits n → four_in (four n ++ rest) 0 ≡ n
unfolding four_in
four_back n rest h = four_is n h

-- a byte, and a number, that stands after others
pub byte_after : (pre l : List ℕ) (k n : ℕ) → n ≡ length pre + k → get_or (pre ++ l) n 0 ≡ get_or l k 0
byte_after pre l k n e = ap (λ (m : ℕ). get_or (pre ++ l) m 0) e ∙ get_or-append-add pre l k 0

pub four_after : (pre l : List ℕ) (k n : ℕ) → n ≡ length pre + k → four_in (pre ++ l) n ≡ four_in l k
unfolding four_in
four_after pre l k n e =
    rw (byte_after pre l k n e, byte_after pre l (k + 1) (n + 1) (omega (arith, e)), byte_after pre l (k + 2) (n + 2) (omega (arith, e)), byte_after pre l (k + 3) (n + 3) (omega (arith, e)))
