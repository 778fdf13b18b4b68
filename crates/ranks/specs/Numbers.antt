-- A LUID as the code looks for it: a number among numbers.
use Rattle.std.specs.Prelude.{ℕ, Bool, false, ◌||◌, List, [], ◌∷◌, eqb}
use Rattle.lists.specs.declared.Entry.{Entry}

abbrev pub luid_in : Entry → ℕ
luid_in x = x.fields.luid.0

unfoldable pub has_number : ℕ → List ℕ → Bool
has_number k [] = false
has_number k (x ∷ xs) = eqb x k || has_number k xs
