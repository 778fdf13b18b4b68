-- A row of texts, by number.
use Rattle.std.specs.Prelude.{ℕ, zero, suc, List, [], ◌∷◌}

-- the k-th text, or none
abbrev pub pick : List (List ℕ) → ℕ → List ℕ
pick [] k = []
pick (w ∷ l) zero = w
pick (w ∷ l) (suc k) = pick l k
