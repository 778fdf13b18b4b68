-- What is read of an element with its text is what is read with where the text is spelled; and what the code's answer says of it.
-- Assumes nothing.
use Prim.Native.Nat.{ℕ}
use mathlib.Core.Path.{◌≡◌, refl, ap, ◌∙◌}
use mathlib.Core.List.{List, [], ◌∷◌}
use Rattle.token.specs.Ans.{Ans, got, bad, and_then, keep}
use Rattle.token.specs.Number.{number_at}
use Rattle.token.specs.Literal.{literal_at}
use Rattle.words.specs.Words.{word_at}
use Rattle.spelling.specs.declared.Part.{Part}
use Rattle.spelling.specs.Data.{data_at}
use Rattle.spelling.specs.Part.{part_at, bytes_at, text_in}
use Rattle.spelling.proofs.PartLaws.{data_in}
use Rattle.shape.specs.Row.{PartRow, blank_part, row_of_part}
use Rattle.shape.specs.Marks.{Field, byte, fixed, num, word, text}
use Rattle.shape.specs.Shape.{fixed_at, Value, nothing, slot, body, one_at, with_value, read_shape, shape_c, row_at}

-- a value with the text that is spelled there
abbrev value_in : List ℕ → Value Part → Value (List ℕ)
value_in s nothing = nothing
value_in s (slot k n) = slot k n
value_in s (body x) = body (text_in s x)

same : {A : Type 0} (s : List ℕ) (f : A → Value Part) (g : A → Value (List ℕ)) → ((a : A) → g a ≡ value_in s (f a)) → (x : Ans A) → keep x (λ a p. got (g a) p) ≡ keep (keep x (λ a p. got (f a) p)) (λ v p. got (value_in s v) p)
same s f g h (got a p) = ap (λ v. got v p) (h a)
same s f g h (bad k p) = refl

again : (s : List ℕ) (x : Ans Part) → keep (keep x (λ y p. got (text_in s y) p)) (λ t p. got (body t) p) ≡ keep (keep x (λ y p. got (body y) p)) (λ v p. got (value_in s v) p)
again s (got y p) = refl
again s (bad k p) = refl

module _ (id : ℕ) (s : List ℕ) where
  one_in : (f : Field) (at : ℕ) → one_at data_at id f s at ≡ keep (one_at part_at id f s at) (λ v p. got (value_in s v) p)
  unfolding one_at
  one_in (byte b) at = same s (λ _. nothing) (λ _. nothing) (λ a. refl) (literal_at s at (b ∷ []))
  one_in (fixed w) at = same s (λ _. nothing) (λ _. nothing) (λ a. refl) (number_at s at (fixed_at id w) (fixed_at id w))
  one_in (num k lo hi) at = same s (slot k) (slot k) (λ a. refl) (number_at s at lo hi)
  one_in (word k n from) at = same s (slot k) (slot k) (λ a. refl) (word_at n from s at)
  one_in text at = ap (λ (y : Ans (List ℕ)). keep y (λ t p. got (body t) p)) (data_in s at) ∙ again s (part_at s at)

  value_in_lem : (v : Value Part) (x : PartRow) → with_value (value_in s v) (row_of_part s x) ≡ row_of_part s (with_value v x)
  value_in_lem nothing x = refl
  value_in_lem (slot k n) x = refl
  value_in_lem (body t) x = refl

  rows_in : (l : List Field) (at : ℕ) (x : PartRow) → read_shape data_at id l s at (row_of_part s x) ≡ keep (read_shape part_at id l s at x) (λ r p. got (row_of_part s r) p)
  rows_in [] at x = refl
  rows_in (f ∷ l) at x = ap (λ y. keep (keep y (λ v p. got (with_value v (row_of_part s x)) p)) (λ z p. read_shape data_at id l s p z)) (one_in f at) ∙ go (λ p z. rows_in l p z) (one_at part_at id f s at)
    where
      go : ((p : ℕ) (z : PartRow) → read_shape data_at id l s p (row_of_part s z) ≡ keep (read_shape part_at id l s p z) (λ r q. got (row_of_part s r) q)) → (y : Ans (Value Part))
          → keep (keep (keep y (λ v p. got (value_in s v) p)) (λ v p. got (with_value v (row_of_part s x)) p)) (λ z p. read_shape data_at id l s p z)
          ≡ keep (keep (keep y (λ v p. got (with_value v x) p)) (λ z p. read_shape part_at id l s p z)) (λ r p. got (row_of_part s r) p)
      go ih (got v p) = ap (λ z. read_shape data_at id l s p z) (value_in_lem v x) ∙ ih p (with_value v x)
      go ih (bad k p) = refl

pub shape_in : (l : List Field) (id : ℕ) (s : List ℕ) (at : ℕ) → (shape_c l id).read s at ≡ keep (row_at l id s at) (λ r p. got (row_of_part s r) p)
unfolding row_at bytes_at
shape_in l id s at = ap (λ y. and_then at y (λ r p. got r p)) (rows_in id s l at blank_part) ∙ go (read_shape part_at id l s at blank_part)
  where
    go : (y : Ans PartRow) → and_then at (keep y (λ r p. got (row_of_part s r) p)) (λ r p. got r p) ≡ keep (and_then at y (λ r p. got r p)) (λ r p. got (row_of_part s r) p)
    go (got r p) = refl
    go (bad k p) = refl
