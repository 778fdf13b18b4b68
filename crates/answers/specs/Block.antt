-- What the blocks of both sides are made of: names with numbers, and a line for each place in use (docs/BENCH.md).
use Rattle.std.specs.Prelude.{ℕ, suc, cond, List, [], ◌∷◌, ◌++◌}
use Prim.Native.String.{String}
use Rattle.token.specs.Text.{bytes}
use Rattle.token.specs.Number.{digits}
use Rattle.places.specs.Set.{in_use}
use Rattle.text.specs.declared.Wording.{Wording}
use Rattle.text.specs.Text.{bytes_of}

abbrev pub field : String → ℕ → List ℕ
field name n = bytes name ++ digits n

-- how the line of a side begins: its name, what is open, its anchor and its session number
abbrev pub link_text : List ℕ → List ℕ → ℕ → ℕ → List ℕ
link_text name is anchor session = name ++ (is ++ (field " anchor=" anchor ++ field " session=" session))

-- how the line of a card or record ends: the station that edited it last, and its text, which may hold anything
abbrev pub wording_text : Wording → List ℕ
wording_text w = field " station=" w.station ++ (bytes " text=" ++ bytes_of w.text)

-- a place that is in use has the line that `line` says, a free one none
abbrev pub line_at : {A : Type 0} → (ℕ → A → List ℕ) → ℕ → ℕ → A → List ℕ
line_at line used i x = cond (in_use used i) (line i x) []

-- the lines of the places from number i on
unfoldable pub lines_from : {A : Type 0} → (ℕ → A → List ℕ) → ℕ → ℕ → List A → List ℕ
lines_from line used i [] = []
lines_from line used i (x ∷ xs) = line_at line used i x ++ lines_from line used (suc i) xs
