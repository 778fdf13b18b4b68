-- What the code sees of a number, digit by digit.
use Rattle.std.specs.Prelude.{ℕ, ◌-◌, cond, List, [], ◌∷◌, Option, Some, None}
use Rattle.token.specs.Number.{is_digit}

-- the digit at the front of l, if there is one
unfoldable pub digit_of : List ℕ → Option ℕ
digit_of [] = None
digit_of (b ∷ l) = cond (is_digit b) (Some (b - 48)) None
