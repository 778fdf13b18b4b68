-- Which form an image has: three letters that say whose it is, and a digit, 1 to 9.
use Rattle.std.specs.Prelude.{ℕ, ◌-◌, ◌/◌, ◌%◌, Bool, cond, ◌&&◌, List, eqb, leb, ltb, length}
use Rattle.image.specs.Four.{four_in}

-- a byte that is a digit but 0 (49 to 57), after the right letters
abbrev pub digit_of : ℕ → Bool → ℕ
digit_of byte right = cond (right && (leb 49 byte && leb byte 57)) (byte - 48) 0

-- 0 for bytes that begin with other letters, or with no digit after them
abbrev pub form_in : ℕ → List ℕ → ℕ
form_in letters s = cond (ltb (length s) 4) 0 (digit_of (four_in s 0 / 16777216) (eqb (four_in s 0 % 16777216) letters))
