-- One of some kinds of elements: the first that reads, in the order of the page. A kind is written by its first line, and read by either of its lines.
use Rattle.std.specs.Prelude.{ℕ, zero, suc, ◌+◌, ◌≤◌, ◌<◌, List, Option, Some, None, Result, Ok, Err}
use Rattle.token.specs.declared.Cursor.{Cursor}
use Rattle.token.specs.declared.Misread.{Misread}
use Rattle.token.specs.Ans.{Ans, got, bad}
use Rattle.grammar.specs.Codec.{Codec, or_else, also_as}
use Rattle.shape.specs.Row.{Row, PartRow}
use Rattle.shape.specs.Shape.{shape_c, row_at}
use Rattle.page.specs.Page.{shape, second}
use Rattle.page.specs.declared.Kinded.{Kinded}

-- ---- a kind in its two lines
abbrev pub spelled_c : ℕ → ℕ → Codec Row
spelled_c k id = also_as (shape_c (shape k) id) (shape_c (shape (second k)) id)

-- the same reading, as the code has it: of the text it has where s spells it
unfoldable pub spelled_at : ℕ → ℕ → List ℕ → ℕ → Ans PartRow
spelled_at k id s at = or_else (row_at (shape k) id s at) (row_at (shape (second k)) id s at)

-- ---- one of some kinds
abbrev pub first_kind : {X : Type 0} → ℕ → Ans X → Ans (ℕ × X) → Ans (ℕ × X)
first_kind k (got r p) d = got (k, r) p
first_kind k (bad j p) d = d

-- the first of the n kinds from k on that reads, where R k is what is read of kind k at a place
unfoldable pub first_of : {X : Type 0} → (ℕ → Ans X) → ℕ → ℕ → ℕ → Ans (ℕ × X)
first_of R at zero k = bad 7 at
first_of R at (suc n) k = first_kind k (R k) (first_of R at n (suc k))

abbrev pub kind_at : ℕ → ℕ → ℕ → List ℕ → ℕ → Ans (ℕ × Row)
kind_at n k id s at = first_of (λ j. (spelled_c j id).read s at) at n k

abbrev pub kind_c : ℕ → ℕ → ℕ → Codec (ℕ × Row)
kind_c n k id =
    record {
      write = λ x. (spelled_c x.0 id).write x.1;
      good = λ x. ((k ≤ x.0) × (x.0 < k + n)) × (spelled_c x.0 id).good x.1;
      read = λ s at. kind_at n k id s at;
    }

-- the same reading, as the code has it
unfoldable pub kind_row_at : ℕ → ℕ → ℕ → List ℕ → ℕ → Ans (ℕ × PartRow)
kind_row_at n k id s at = first_of (λ j. spelled_at j id s at) at n k

-- ---- the code's answers: the second line of a kind that has one, and one of some kinds
abbrev pub second_as : ℕ → Option ℕ → ℕ
second_as k (Some j) = j
second_as k None = k

abbrev pub kinded_ans : Result (Kinded × Cursor) Misread → Ans (ℕ × PartRow)
kinded_ans (Ok x) = got (x.0.kind, record { nums = x.0.row.nums; text = x.0.row.text }) x.1.at
kinded_ans (Err e) = bad 7 e.place
