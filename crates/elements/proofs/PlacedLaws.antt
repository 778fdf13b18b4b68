-- What the code's answers to reading a head, an element or an end say of what stands there.
-- Assumes nothing.
use Prim.Native.Nat.{ℕ}
use mathlib.Core.Path.{◌≡◌, refl, sym, ap, ◌∙◌}
use mathlib.Core.List.{List}
use Rattle.token.specs.Ans.{Ans, got, bad, keep}
use Rattle.shape.specs.Row.{PartRow, row_of_part}
use Rattle.shape.specs.Shape.{row_at}
use Rattle.shape.proofs.PartLaws.{shape_in}
use Rattle.page.specs.Page.{shape}
use Rattle.page.specs.Kind.{kind_row_at}
use Rattle.page.specs.declared.Kinds.{Kinds}
use Rattle.page.proofs.KindLaws.{kind_in}
use Rattle.elements.specs.Element.{head_c, to_head, to_element, element_c, to_placed, placed_at, element_in, to_end, end_c}
use Rattle.elements.specs.declared.Placed.{Placed}

-- one renaming after another
twice : {X Y Z : Type 0} (f : X → Y) (g : Y → Z) (x : Ans X) → keep (keep x (λ a p. got (f a) p)) (λ b p. got (g b) p) ≡ keep x (λ a p. got (g (f a)) p)
twice f g (got a p) = refl
twice f g (bad k p) = refl

pub head_in : (s : List ℕ) (at : ℕ) → head_c.read s at ≡ keep (kind_row_at 6 1 0 s at) (λ x p. got (to_head x) p)
head_in s at =
    ap (λ y. keep y (λ a p. got (to_head a) p)) (kind_in 6 1 0 s at)
    ∙ twice (λ (x : ℕ × PartRow). (x.0, row_of_part s x.1)) to_head (kind_row_at 6 1 0 s at)

module _ (k id : ℕ) (s : List ℕ) (at : ℕ) where
  end_in : (y : Ans PartRow) → row_at (shape k) id s at ≡ y → (end_c k id).read s at ≡ keep y (λ r p. got (to_end r) p)
  end_in y e =
      ap (λ z. keep z (λ r p. got (to_end r) p)) (shape_in (shape k) id s at)
      ∙ twice (row_of_part s) to_end (row_at (shape k) id s at)
      ∙ ap (λ z. keep z (λ r p. got (to_end r) p)) e

  pub end_yes : (r : PartRow) (p : ℕ) → row_at (shape k) id s at ≡ got r p → (end_c k id).read s at ≡ got (to_end r) p
  end_yes r p e = end_in (got r p) e

  pub end_no : (j p : ℕ) → row_at (shape k) id s at ≡ bad j p → (end_c k id).read s at ≡ bad j p
  end_no j p e = end_in (bad j p) e

module _ (k : Kinds) (id : ℕ) (s : List ℕ) (at : ℕ) where
  pub element_in_lem : (element_c k id).read s at ≡ keep (placed_at k id s at) (λ x p. got (element_in s x) p)
  unfolding placed_at
  element_in_lem =
      ap (λ y. keep y (λ a p. got (to_element a) p)) (kind_in k.count k.from id s at)
      ∙ twice (λ (x : ℕ × PartRow). (x.0, row_of_part s x.1)) to_element (kind_row_at k.count k.from id s at)
      ∙ sym (twice to_placed (element_in s) (kind_row_at k.count k.from id s at))

-- what reading an element says of the element in the message
pub placed_got : (k : Kinds) (id : ℕ) (s : List ℕ) (at : ℕ) {x : Placed} {p : ℕ} → placed_at k id s at ≡ got x p → (element_c k id).read s at ≡ got (element_in s x) p
placed_got k id s at e = element_in_lem k id s at ∙ ap (λ y. keep y (λ x p. got (element_in s x) p)) e

pub placed_bad : (k : Kinds) (id : ℕ) (s : List ℕ) (at : ℕ) {j p : ℕ} → placed_at k id s at ≡ bad j p → (element_c k id).read s at ≡ bad j p
placed_bad k id s at e = element_in_lem k id s at ∙ ap (λ y. keep y (λ x p. got (element_in s x) p)) e
