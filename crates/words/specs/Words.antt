-- The words of the written form, by number: the truth values, and the commands that a status names.
use Rattle.std.specs.Prelude.{ℕ, zero, suc, List, [], ◌∷◌}
use Rattle.token.specs.Ans.{Ans, bad, pick_first}
use Rattle.token.specs.Text.{bytes}
use Rattle.token.specs.Texts.{pick}
use Rattle.token.specs.Literal.{literal_at}

-- 0 and 1 are truth values, 2 to 4 name commands
abbrev pub dictionary : List (List ℕ)
dictionary = bytes "false" ∷ bytes "true" ∷ bytes "Add" ∷ bytes "Replace" ∷ bytes "Delete" ∷ []

unfoldable pub word_of : ℕ → List ℕ
word_of = pick dictionary

-- the first of the n words from k on that stands at a place
unfoldable pub word_at : ℕ → ℕ → List ℕ → ℕ → Ans ℕ
word_at zero k s at = bad 7 at
word_at (suc n) k s at = pick_first (literal_at s at (word_of k)) k (word_at n (suc k) s at)
