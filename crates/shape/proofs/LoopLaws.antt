-- The loops that go by a shape: each turn deals with one more run and the mark after it.
-- Assumes nothing.
use Prim.Native.Nat.{ℕ}
use mathlib.Core.Path.{◌≡◌, sym, ap, ◌∙◌, subst}
use mathlib.Core.List.{List, [], ◌∷◌, ◌++◌, append_assoc, append-nil}
use Rattle.token.specs.Ans.{Ans, got, bad, and_then, keep}
use Rattle.token.specs.Literal.{lit_ans}
use Rattle.token.specs.declared.Cursor.{Cursor}
use Rattle.token.specs.declared.Misread.{Misread}
use Rattle.std.proofs.Common.{Result}
use Rattle.spelling.specs.declared.Part.{Part}
use Rattle.spelling.specs.Part.{part_at}
use Rattle.shape.specs.Row.{Row, PartRow, blank_part}
use Rattle.shape.specs.Marks.{Field}
use Rattle.shape.specs.Runs.{plain, runs}
use Rattle.shape.specs.Shape.{run_at, Value, one_at, with_value, field_ans, read_shape, write_one, write_shape, row_at}
use Rattle.shape.specs.declared.Value.{Value as CodeValue}
use Rattle.shape.proofs.RunLaws.{Ran, ran, write_run}

-- ---- the reader: with the fields k left it is at p, with the row x, and the answer from there is the whole answer
pub record ReadTo (id : ℕ) (t s : List ℕ) (at : ℕ) (k : List Field) (p : ℕ) (x : PartRow) : Type 0 where
  pub here : read_shape part_at id (runs t) s at blank_part ≡ read_shape part_at id k s p x

-- the same where whether a run is there was the last answer, which may be a refusal
abbrev pub RanTo : ℕ → List ℕ → List ℕ → ℕ → List Field → PartRow → Ans (Unit {0}) → Type 0
RanTo id t s at k x (got u q) = ReadTo id t s at k q x
RanTo id t s at k x (bad n q) = bad 7 at ≡ row_at (runs t) id s at

-- the same where a field gave the last answer
abbrev pub AnsTo : ℕ → List ℕ → List ℕ → ℕ → List Field → Ans PartRow → Type 0
AnsTo id t s at k (got x p) = ReadTo id t s at k p x
AnsTo id t s at k (bad n p) = bad 7 at ≡ row_at (runs t) id s at

-- the row x with what a field says, as the specification and as the code has it
abbrev row_with : PartRow → Ans (Value Part) → Ans PartRow
row_with x y = keep y (λ v p. got (with_value v x) p)

abbrev pub field_row : PartRow → Result (CodeValue × Cursor) Misread → Ans PartRow
field_row x q = row_with x (field_ans q)

-- what reading by the shape found is the element's answer
answer : (id : ℕ) (t s : List ℕ) (at : ℕ) (y : Ans PartRow) → read_shape part_at id (runs t) s at blank_part ≡ y → and_then at y (λ r q. got r q) ≡ row_at (runs t) id s at
unfolding row_at
answer id t s at y e = ap (λ z. and_then at z (λ r q. got r q)) (sym e)

module _ {id : ℕ} {t s : List ℕ} {at : ℕ} {x : PartRow} where
  -- r is what the code found of the run w, and q the case that it is
  pub read_run : {k : List Field} {p : ℕ} (w : List ℕ) (l : List Field) → ReadTo id t s at k p x → k ≡ plain w ++ l → (r q : Result Cursor Misread) → lit_ans r ≡ run_at s p w → r ≡ q → RanTo id t s at l x (lit_ans q)
  read_run {k} {p} w l inv e r q a g = go (lit_ans q) (subst (λ y. Ran s p w y) (sym a ∙ ap lit_ans g) (ran s p w))
    where
      here : read_shape part_at id (runs t) s at blank_part ≡ read_shape part_at id (plain w ++ l) s p x
      here = inv.here ∙ ap (λ m. read_shape part_at id m s p x) e

      go : (y : Ans (Unit {0})) → Ran s p w y → RanTo id t s at l x y
      go (got u m) b = record { here = here ∙ b id l x }
      go (bad n m) b = sym (b id l x at) ∙ answer id t s at (read_shape part_at id (plain w ++ l) s p x) here

  -- r is what the code read of the field f, and q the case that it is
  pub read_mark : {k l : List Field} {p : ℕ} (f g : Field) → ReadTo id t s at k p x → k ≡ f ∷ l → g ≡ f → (r q : Result (CodeValue × Cursor) Misread) → field_ans r ≡ one_at part_at id g s p → r ≡ q → AnsTo id t s at l (field_row x q)
  read_mark {k} {l} {p} f g inv e h r q a b =
      go (field_row x q) (inv.here ∙ ap (λ m. read_shape part_at id m s p x) e ∙ ap (λ v. rest (row_with x v)) (sym (ap (λ m. one_at part_at id m s p) h) ∙ sym a ∙ ap field_ans b))
    where
      rest : Ans PartRow → Ans PartRow
      rest y = keep y (λ z n. read_shape part_at id l s n z)

      go : (y : Ans PartRow) → read_shape part_at id (runs t) s at blank_part ≡ rest y → AnsTo id t s at l y
      go (got z n) u = record { here = u }
      go (bad j n) u = answer id t s at (bad j n) u

  pub read_end : {k : List Field} {p : ℕ} → ReadTo id t s at k p x → k ≡ [] → got x p ≡ row_at (runs t) id s at
  read_end {k} {p} inv e = answer id t s at (got x p) (inv.here ∙ ap (λ m. read_shape part_at id m s p x) e)

-- ---- the writer and the measurer: pre is what is written before the fields k
pub record WroteTo (id : ℕ) (r : Row) (t : List ℕ) (k : List Field) (pre : List ℕ) : Type 0 where
  pub here : write_shape id r (runs t) ≡ pre ++ write_shape id r k

module _ {id : ℕ} {r : Row} {t : List ℕ} {pre : List ℕ} where
  pub wrote_run : {k : List Field} (w : List ℕ) (l : List Field) → WroteTo id r t k pre → k ≡ plain w ++ l → WroteTo id r t l (pre ++ w)
  wrote_run w l inv e =
      record {
        here =
            inv.here
            ∙ ap (λ m. pre ++ write_shape id r m) e
            ∙ ap (λ m. pre ++ m) (write_run id r w l)
            ∙ sym (append_assoc pre w (write_shape id r l));
      }

  pub wrote_mark : {k : List Field} (f g : Field) (l : List Field) → WroteTo id r t k pre → k ≡ f ∷ l → g ≡ f → WroteTo id r t l (pre ++ write_one id r g)
  wrote_mark f g l inv e h =
      record {
        here =
            inv.here
            ∙ ap (λ m. pre ++ write_shape id r m) (e ∙ ap (λ (m : Field). m ∷ l) (sym h))
            ∙ sym (append_assoc pre (write_one id r g) (write_shape id r l));
      }

  pub wrote_end : {k : List Field} → WroteTo id r t k pre → k ≡ [] → write_shape id r (runs t) ≡ pre
  wrote_end inv e = inv.here ∙ ap (λ m. pre ++ write_shape id r m) e ∙ append-nil pre
