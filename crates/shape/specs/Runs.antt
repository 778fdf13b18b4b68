-- A shape as the code has it: the length of a run of bytes that stand for themselves, these bytes, a mark, and so on to the end; and the code's kinds of fields.
use Rattle.std.specs.Prelude.{ℕ, zero, suc, ◌+◌, Bool, true, false, List, [], ◌∷◌, length, Option, Some, None}
use Rattle.std.specs.Borrow.{Bor}
use Rattle.shape.specs.declared.Kind.{Kind}
use Rattle.shape.specs.Marks.{Field, byte, due, exactly, fixed, num, word, text, field_of}

-- `left` is 0 where a length comes, and else one more than the bytes that are left of the run
abbrev pub in_run : ℕ → List ℕ → List Field
in_run left [] = []
in_run zero (n ∷ l) = in_run (suc n) l
in_run (suc zero) (t ∷ l) = field_of t ∷ in_run zero l
in_run (suc (suc left)) (b ∷ l) = byte b ∷ in_run (suc left) l

abbrev pub runs : List ℕ → List Field
runs l = in_run 0 l

-- a field that is no byte
abbrev pub marked : Field → Bool
marked (byte b) = false
marked (fixed w) = true
marked (num k lo hi) = true
marked (word k n from) = true
marked text = true

-- the mark t, or the byte t that stands for itself, before a shape that the code has
abbrev pub lengthen : Bool → ℕ → List ℕ → List ℕ
lengthen true t l = 0 ∷ t ∷ l
lengthen false t [] = 1 ∷ t ∷ []
lengthen false t (n ∷ l) = suc n ∷ t ∷ l

-- a text with marks, as the code has it
abbrev pub coded : List ℕ → List ℕ
coded [] = []
coded (t ∷ l) = lengthen (marked (field_of t)) t (coded l)

-- the bytes of a run
abbrev pub plain : List ℕ → List Field
plain [] = []
plain (b ∷ l) = byte b ∷ plain l

-- the fields from a mark on, if the shape does not end before it, and how many bytes they have
abbrev pub after_run : Option (Bor ℕ × Bor (List ℕ)) → List Field
after_run None = []
after_run (Some x) = field_of x.0.now ∷ runs x.1.now

abbrev pub size_after : Option (Bor ℕ × Bor (List ℕ)) → ℕ
size_after None = 0
size_after (Some x) = 1 + length x.1.now

-- the code's kinds
abbrev pub as_field : Kind → Field
as_field (Kind.Byte b) = byte b
as_field Kind.Due = fixed due
as_field (Kind.Exactly n) = fixed (exactly n)
as_field (Kind.Number k lo hi) = num k lo hi
as_field (Kind.Word k n from) = word k n from
as_field Kind.Text = text
