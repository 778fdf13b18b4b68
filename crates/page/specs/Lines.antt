-- The lines of the page as the code has them.
use Rattle.std.specs.Prelude.{ℕ, ◌+◌, Bool, ◌&&◌, not, List, [], ◌∷◌, length, get_or, leb, eqb}
use Rattle.shape.specs.Runs.{coded}
use Rattle.page.specs.Page.{page}

abbrev pub coded_lines : List (List ℕ) → List (List ℕ)
coded_lines [] = []
coded_lines (w ∷ l) = coded w ∷ coded_lines l

abbrev pub lines : List (List ℕ)
lines = coded_lines page

-- another byte stands at a place of s than the fourth of an element of the line w, before which stands the length of its run
unfoldable pub is_other : List ℕ → ℕ → List ℕ → Bool
is_other s at w = leb 5 (length w) && leb (at + 4) (length s) && not (eqb (get_or s (at + 3) 0) (get_or w 4 0))
