-- What tables in range are told by, as tests: numbers that stand once, wordings as they are kept, and each entry in use.
use Rattle.std.specs.Prelude.{ℕ, suc, Bool, true, cond, not, ◌&&◌, ◌||◌, List, [], ◌∷◌, eqb, leb, length, take, drop}
use Rattle.std.specs.List.{list_any, list_all}
use Rattle.places.specs.Set.{in_use}
use Rattle.text.specs.declared.Text.{Text}
use Rattle.text.specs.declared.Wording.{Wording}
use Rattle.text.specs.Text.{longest, text_ok}
use Rattle.text.specs.Wording.{last_station}

-- a fingerprint, an anchor or a session number (01, "Written form": 1 to 4294967295)
abbrev pub is_number : ℕ → Bool
is_number n = leb 1 n && leb n 4294967295

-- a number stands in a row; zeros alone
abbrev pub has : ℕ → List ℕ → Bool
has n l = list_any (λ x. eqb x n) l

abbrev pub zeros : List ℕ → Bool
zeros l = list_all (λ x. eqb x 0) l

-- no number but 0 stands twice
unfoldable pub once : List ℕ → Bool
once [] = true
once (n ∷ l) = (eqb n 0 || not (has n l)) && once l

-- ---- a text as it is kept (01, "The two tables"), and a wording with a station
abbrev pub bytes_kept : ℕ → List ℕ → Bool
bytes_kept n s = leb n (length s) && (text_ok (take n s) && zeros (drop n s))

abbrev pub is_kept : Text → Bool
is_kept t = eqb (length t.bytes) longest && bytes_kept t.len t.bytes

abbrev pub is_wording : Wording → Bool
is_wording w = leb w.station last_station && is_kept w.text

-- ---- each entry in use passes a test; a row of the numbers in use, with 0 for a free place; both of the places from i on
unfoldable pub each_used : {A : Type 0} → (A → Bool) → ℕ → ℕ → List A → Bool
each_used q used i [] = true
each_used q used i (x ∷ xs) = (not (in_use used i) || q x) && each_used q used (suc i) xs

unfoldable pub row_of : {A : Type 0} → (A → ℕ) → ℕ → ℕ → List A → List ℕ
row_of num used i [] = []
row_of num used i (x ∷ xs) = cond (in_use used i) (num x) 0 ∷ row_of num used (suc i) xs
