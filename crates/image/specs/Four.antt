-- A number as four bytes, the lowest first.
use Rattle.std.specs.Prelude.{ℕ, zero, suc, ◌+◌, ◌*◌, ◌/◌, ◌%◌, ◌<◌, List, [], ◌∷◌, ◌++◌, get_or}

abbrev pub four : ℕ → List ℕ
four n = n % 256 ∷ n / 256 % 256 ∷ n / 256 / 256 % 256 ∷ n / 256 / 256 / 256 % 256 ∷ []

-- the bytes of some things, one after the other
abbrev pub flat : {A : Type 0} → (A → List ℕ) → List A → List ℕ
flat f [] = []
flat f (x ∷ xs) = f x ++ flat f xs

-- so many things read one after the other, each of so many bytes
unfoldable pub each_at : {A : Type 0} → (List ℕ → ℕ → A) → ℕ → List ℕ → ℕ → ℕ → List A
each_at g size s at zero = []
each_at g size s at (suc n) = g s at ∷ each_at g size s (at + size) n

-- numbers one after the other
abbrev pub fours : List ℕ → List ℕ
fours ns = flat four ns

-- the number that stands at a place
unfoldable pub four_in : List ℕ → ℕ → ℕ
four_in s at = get_or s at 0 + 256 * (get_or s (at + 1) 0 + 256 * (get_or s (at + 2) 0 + 256 * get_or s (at + 3) 0))

-- a number of 32 bits; numbers of 32 bits
abbrev pub Fits : ℕ → Type 0
Fits n = n < 4294967296

abbrev pub AllFit : List ℕ → Type 0
AllFit ns = (i : ℕ) → Fits (get_or ns i 0)
