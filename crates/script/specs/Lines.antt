-- The lines of an input: each goes up to a line feed.
use Rattle.std.specs.Prelude.{ℕ, suc, ◌+◌, cond, List, [], ◌∷◌, drop, eqb}

-- how many bytes come before the first line feed
unfoldable pub line_len : List ℕ → ℕ
line_len [] = 0
line_len (b ∷ l) = let more = suc (line_len l) in cond (eqb b 10) 0 more

-- the place of the first line feed from a place on, or the end
abbrev pub line_end : List ℕ → ℕ → ℕ
line_end s from = from + line_len (drop from s)
