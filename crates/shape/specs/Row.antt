-- What an element says: a number for each slot, and a text. What its shape has no mark for stays 0, or empty.
use Rattle.std.specs.Prelude.{ℕ, List, [], ◌∷◌, get_or, set, replicate}
use Rattle.text.specs.declared.Text.{Text}
use Rattle.text.specs.Text.{bytes_of}
use Rattle.spelling.specs.declared.Part.{Part}
use Rattle.spelling.specs.Part.{text_in}

-- T is what is had of the text: its bytes, or where they are spelled in the message
pub record RowOf (T : Type 0) : Type 0 where
  pub nums : List ℕ
  pub text : T

abbrev pub Row : Type 0
Row = RowOf (List ℕ)

abbrev pub PartRow : Type 0
PartRow = RowOf Part

-- how many numbers a row has: the slots of Marks.antt
abbrev pub slots : ℕ
slots = 15

-- the numbers of a row in which these slots have these numbers
abbrev pub nums_with : List (ℕ × ℕ) → List ℕ
nums_with [] = replicate slots 0
nums_with (x ∷ l) = set (nums_with l) x.0 x.1

abbrev pub blank_of : {T : Type 0} → T → RowOf T
blank_of t = record { nums = nums_with []; text = t }

abbrev pub blank : Row
blank = blank_of []

-- no text is spelled nowhere
abbrev pub no_part : Part
no_part = record { start = 0; len = 0 }

abbrev pub blank_part : PartRow
blank_part = blank_of no_part

-- the number in slot k
abbrev pub num_of : {T : Type 0} → RowOf T → ℕ → ℕ
num_of r k = get_or r.nums k 0

abbrev pub with_num : {T : Type 0} → RowOf T → ℕ → ℕ → RowOf T
with_num r k n = record { nums = set r.nums k n; text = r.text }

abbrev pub with_text : {T : Type 0} → RowOf T → T → RowOf T
with_text r t = record { nums = r.nums; text = t }

-- the row whose text is spelled in s
abbrev pub row_of_part : List ℕ → PartRow → Row
row_of_part s x = record { nums = x.nums; text = text_in s x.text }

-- the row of the code's numbers and a text by itself
abbrev pub row_with : List ℕ → Text → Row
row_with nums t = record { nums = nums; text = bytes_of t }
