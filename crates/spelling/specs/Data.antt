-- The Data element of a card's text: <Data/> for the empty text, and else <Data>, what spells its 1 to 24 bytes, </Data>.
use Rattle.std.specs.Prelude.{ℕ, List, [], ◌∷◌, ◌++◌}
use Rattle.token.specs.Ans.{Ans, got, bad, and_then, pick_first}
use Rattle.token.specs.Text.{bytes}
use Rattle.token.specs.Literal.{literal_at}
use Rattle.text.specs.Text.{longest, GoodText}
use Rattle.grammar.specs.Codec.{Codec}
use Rattle.spelling.specs.Spelling.{spelled, text_at}

abbrev pub open_tag : List ℕ
open_tag = bytes "<Data>"

abbrev pub close_tag : List ℕ
close_tag = bytes "</Data>"

abbrev pub empty_tag : List ℕ
empty_tag = bytes "<Data/>"

-- ---- written
unfoldable pub write_data : List ℕ → List ℕ
write_data [] = empty_tag
write_data (b ∷ l) = open_tag ++ (spelled (b ∷ l) ++ close_tag)

-- ---- read: a text that is spelled up to q, if it is not empty, is closed there
abbrev pub closed_at : List ℕ → ℕ → List ℕ → ℕ → Ans (List ℕ)
closed_at s at [] q = bad 7 at
closed_at s at (b ∷ l) q = and_then at (literal_at s q close_tag) (λ _ p. got (b ∷ l) p)

abbrev pub full_at : List ℕ → ℕ → Ans (List ℕ)
full_at s at = and_then at (literal_at s at open_tag) (λ _ p. and_then at (text_at longest s p) (closed_at s at))

-- the text of the Data element at a place
unfoldable pub data_at : List ℕ → ℕ → Ans (List ℕ)
data_at s at = pick_first (literal_at s at empty_tag) [] (full_at s at)

-- ---- the written form of a text, for the texts that keep the text rule
abbrev pub data_c : Codec (List ℕ)
data_c = record { write = write_data; good = GoodText; read = data_at }
