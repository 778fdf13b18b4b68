-- The codes that a status may have (01, "Refusal numbers", row 8: a code not named for its place).
use Rattle.std.specs.Prelude.{ℕ, Bool, false, ◌||◌, List, [], ◌∷◌, eqb}
use Rattle.statuses.specs.declared.Name.{Name}
use Rattle.statuses.specs.declared.Name.TheVariants.{Delete, Replace, Add}
use Rattle.statuses.specs.declared.Side.{Side}

-- by the side whose command it is, and the command's name
abbrev pub codes_for : Side → Name → List ℕ
codes_for Side.Press Delete = 200 ∷ 211 ∷ 419 ∷ []
codes_for Side.Press Replace = 200 ∷ 208 ∷ 419 ∷ 420 ∷ []
codes_for Side.Press Add = 200 ∷ 208 ∷ 419 ∷ 420 ∷ []
codes_for Side.Server Delete = 200 ∷ 211 ∷ []
codes_for Side.Server Replace = 200 ∷ 404 ∷ 420 ∷ []
codes_for Side.Server Add = 200 ∷ 420 ∷ []

unfoldable pub is_one_of : List ℕ → ℕ → Bool
is_one_of [] n = false
is_one_of (k ∷ ks) n = eqb k n || is_one_of ks n
