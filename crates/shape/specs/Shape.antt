-- A shape: an element's written form as a list of fields; what is written of a row by it, and what reading by it finds.
use Rattle.std.specs.Prelude.{ℕ, ◌≤◌, ◌<◌, ◌+◌, ◌≡◌, cond, List, [], ◌∷◌, ◌++◌, length, drop, Result, Ok, Err}
use Rattle.token.specs.declared.Cursor.{Cursor}
use Rattle.token.specs.declared.Misread.{Misread}
use Rattle.token.specs.Ans.{Ans, got, bad, and_then, keep}
use Rattle.token.specs.Number.{digits, number_at, Spellable}
use Rattle.token.specs.Literal.{begins, literal_at}
use Rattle.words.specs.Words.{word_of, word_at}
use Rattle.text.specs.declared.Text.{Text}
use Rattle.text.specs.Text.{GoodText}
use Rattle.spelling.specs.declared.Part.{Part}
use Rattle.spelling.specs.Data.{write_data, data_at}
use Rattle.spelling.specs.Part.{part_at}
use Rattle.grammar.specs.Codec.{Codec}
use Rattle.shape.specs.Row.{RowOf, Row, PartRow, blank_of, blank, no_part, row_with, num_of, with_num, with_text}
use Rattle.shape.specs.Marks.{Fixed, due, exactly, Field, byte, fixed, num, word, text}
use Rattle.shape.specs.declared.Value.{Value as CodeValue}
use Rattle.shape.specs.declared.Row.{Row as CodeRow}

-- the one number that it can be, with id the CmdID that is due
abbrev pub fixed_at : ℕ → Fixed → ℕ
fixed_at id due = id
fixed_at id (exactly n) = n

-- ---- one field: written
abbrev pub write_one : ℕ → Row → Field → List ℕ
write_one id r (byte b) = b ∷ []
write_one id r (fixed w) = digits (fixed_at id w)
write_one id r (num k lo hi) = digits (num_of r k)
write_one id r (word k n from) = word_of (num_of r k)
write_one id r text = write_data r.text

-- its value has a written form: a number has its range, a CmdID is not too long to be read
abbrev pub GoodOne : ℕ → Row → Field → Type 0
GoodOne id r (byte b) = Unit {0}
GoodOne id r (fixed due) = Spellable id
GoodOne id r (fixed (exactly n)) = Unit {0}
GoodOne id r (num k lo hi) = (lo ≤ num_of r k) × (num_of r k ≤ hi)
GoodOne id r (word k n from) = (from ≤ num_of r k) × (num_of r k < from + n)
GoodOne id r text = GoodText r.text

-- what one field says: nothing, the number of a slot, or what is had of the text
pub data Value (T : Type 0) : Type 0 where
  nothing : Value T
  slot : ℕ → ℕ → Value T
  body : T → Value T

-- exactly the number n, however it is spelled
abbrev pub exactly_at : {T : Type 0} → List ℕ → ℕ → ℕ → Ans (Value T)
exactly_at s at n = keep (number_at s at n n) (λ _ p. got nothing p)

-- read at a place, where D reads a Data element: its text (data_at), or where it is spelled (part_at)
unfoldable pub one_at : {T : Type 0} → (List ℕ → ℕ → Ans T) → ℕ → Field → List ℕ → ℕ → Ans (Value T)
one_at D id (byte b) s at = keep (literal_at s at (b ∷ [])) (λ _ p. got nothing p)
one_at D id (fixed w) s at = exactly_at s at (fixed_at id w)
one_at D id (num k lo hi) s at = keep (number_at s at lo hi) (λ n p. got (slot k n) p)
one_at D id (word k n from) s at = keep (word_at n from s at) (λ w p. got (slot k w) p)
one_at D id text s at = keep (D s at) (λ t p. got (body t) p)

-- the row with it
abbrev pub with_value : {T : Type 0} → Value T → RowOf T → RowOf T
with_value nothing r = r
with_value (slot k n) r = with_num r k n
with_value (body t) r = with_text r t

abbrev pub read_one : {T : Type 0} → (List ℕ → ℕ → Ans T) → ℕ → Field → List ℕ → ℕ → RowOf T → Ans (RowOf T)
read_one D id f s at r = keep (one_at D id f s at) (λ v p. got (with_value v r) p)

-- copied from the row r into another
abbrev pub copy_one : Row → Field → Row → Row
copy_one r (byte b) x = x
copy_one r (fixed w) x = x
copy_one r (num k lo hi) x = with_num x k (num_of r k)
copy_one r (word k n from) x = with_num x k (num_of r k)
copy_one r text x = with_text x r.text

-- ---- a shape: its fields one after the other
abbrev pub write_shape : ℕ → Row → List Field → List ℕ
write_shape id r [] = []
write_shape id r (f ∷ l) = write_one id r f ++ write_shape id r l

abbrev pub GoodShape : ℕ → Row → List Field → Type 0
GoodShape id r [] = Unit {0}
GoodShape id r (f ∷ l) = GoodOne id r f × GoodShape id r l

abbrev pub read_shape : {T : Type 0} → (List ℕ → ℕ → Ans T) → ℕ → List Field → List ℕ → ℕ → RowOf T → Ans (RowOf T)
read_shape D id [] s at r = got r at
read_shape D id (f ∷ l) s at r = keep (read_one D id f s at r) (λ x p. read_shape D id l s p x)

-- from a blank row on; a refusal stands at the element's own place
abbrev pub read_from : {T : Type 0} → (List ℕ → ℕ → Ans T) → T → List Field → ℕ → List ℕ → ℕ → Ans (RowOf T)
read_from D none l id s at = and_then at (read_shape D id l s at (blank_of none)) (λ r p. got r p)

abbrev pub copy_shape : Row → List Field → Row → Row
copy_shape r [] x = x
copy_shape r (f ∷ l) x = copy_shape r l (copy_one r f x)

-- rows of a shape have what its fields have and nothing else
abbrev pub shape_c : List Field → ℕ → Codec Row
shape_c l id =
    record {
      write = λ r. write_shape id r l;
      good = λ r. GoodShape id r l × (copy_shape r l blank ≡ r);
      read = λ s at. read_from data_at [] l id s at;
    }

-- the same reading, as the code has it: of the text it has where s spells it
unfoldable pub row_at : List Field → ℕ → List ℕ → ℕ → Ans PartRow
row_at l id s at = read_from part_at no_part l id s at

-- past the bytes w of a run, where they stand at p
unfoldable pub run_at : List ℕ → ℕ → List ℕ → Ans (Unit {0})
run_at s p w = cond (begins w (drop p s)) (got tt (p + length w)) (bad 7 p)

-- ---- the code's answers
abbrev pub value_of : CodeValue → Value Part
value_of CodeValue.Nothing = nothing
value_of (CodeValue.Number k n) = slot k n
value_of (CodeValue.Text x) = body x

abbrev pub field_ans : Result (CodeValue × Cursor) Misread → Ans (Value Part)
field_ans (Ok x) = got (value_of x.0) x.1.at
field_ans (Err e) = bad 7 e.place

abbrev pub row_of : CodeRow Part → PartRow
row_of r = record { nums = r.nums; text = r.text }

abbrev pub row_ans : Result (CodeRow Part × Cursor) Misread → Ans PartRow
row_ans (Ok x) = got (row_of x.0) x.1.at
row_ans (Err e) = bad 7 e.place

-- the code's row with a text by itself
abbrev pub said_of : CodeRow Text → Row
said_of r = row_with r.nums r.text
