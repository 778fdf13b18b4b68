-- A card's text: at most 24 bytes, each 32 to 126 (01, "The two tables"; & < > too by 02, 4). How a message spells it is crates/spelling's.
use Rattle.std.specs.Prelude.{ℕ, ◌-◌, ◌≡◌, Bool, true, ◌&&◌, List, [], ◌∷◌, ◌++◌, length, take, replicate, leb}
use Rattle.text.specs.declared.Text.{Text}

-- the most bytes that a text has
abbrev pub longest : ℕ
longest = 24

-- a byte that a text may hold
abbrev pub ok_byte : ℕ → Bool
ok_byte b = leb 32 b && leb b 126

-- ---- the text rule (01, "The two tables"): at most 24 bytes, and every byte is one that a text may hold
unfoldable pub all_ok : List ℕ → Bool
all_ok [] = true
all_ok (b ∷ l) = ok_byte b && all_ok l

unfoldable pub text_ok : List ℕ → Bool
text_ok l = leb (length l) longest && all_ok l

abbrev pub GoodText : List ℕ → Type 0
GoodText l = text_ok l ≡ true

-- ---- a text as it is kept: at most 24 bytes, and zeros after them
abbrev pub kept : List ℕ → Text
kept l = record { len = length (take longest l); bytes = take longest l ++ replicate (longest - length (take longest l)) 0 }

-- the bytes of a text that is kept
abbrev pub bytes_of : Text → List ℕ
bytes_of t = take t.len t.bytes

-- a text as it is kept, of bytes that keep the text rule
abbrev pub IsText : Text → Type 0
IsText t = (l : List ℕ) × GoodText l × (t ≡ kept l)
