-- A text as the code has it while it reads: where its spelling begins in the message, and how many bytes the text has.
use Rattle.std.specs.Prelude.{ℕ, zero, suc, ◌+◌, List, [], ◌∷◌, length}
use Rattle.token.specs.Ans.{Ans, got, bad, keep}
use Rattle.spelling.specs.Spelling.{byte_at, text_at}
use Rattle.spelling.specs.Data.{open_tag, data_at}
use Rattle.spelling.specs.declared.Part.{Part}

-- how many bytes the text has that is spelled at a place, at most n
unfoldable pub count_at : ℕ → List ℕ → ℕ → Ans ℕ
count_at n s at = keep (text_at n s at) (λ l p. got (length l) p)

-- where the text of the Data element at a place is spelled
abbrev pub part_of : ℕ → List ℕ → Part
part_of at [] = record { start = at; len = 0 }
part_of at (b ∷ l) = record { start = at + length open_tag; len = length (b ∷ l) }

unfoldable pub part_at : List ℕ → ℕ → Ans Part
part_at s at = keep (data_at s at) (λ l p. got (part_of at l) p)

-- ---- the text that is spelled there
abbrev pub followed : Ans ℕ → (ℕ → List ℕ) → List ℕ
followed (got b p) rest = b ∷ rest p
followed (bad k p) rest = []

-- n bytes of a text, as far as they are spelled
unfoldable pub bytes_at : ℕ → List ℕ → ℕ → List ℕ
bytes_at zero s p = []
bytes_at (suc n) s p = followed (byte_at s p) (bytes_at n s)

abbrev pub text_in : List ℕ → Part → List ℕ
text_in s x = bytes_at x.len s x.start
