-- Heads, elements and the ends of lists are rows under other names: the names go there and back.
-- Assumes nothing.
use Prim.Native.Nat.{ℕ, zero, suc, ◌+◌, ◌≤◌, ◌<◌}
use mathlib.Core.Path.{◌≡◌, refl, sym, ap, ap₂, ◌∙◌, subst}
use mathlib.Core.Bool.{Bool, true, false, ◌&&◌}
use mathlib.Core.List.{List, [], ◌∷◌}
use native.Mathlib.Omega.{arith}
use lib.ListN.{length, get_or, drop, drop_of_length-le}
use lib.Seq.{drop-cons}
use lib.Dec.{eqb}
use borrow.Author.Tests.{eqb-true, eqb-false}
use Rattle.token.specs.Ans.{Ans, got, bad, keep}
use Rattle.token.proofs.NumberLaws.{both}
use Rattle.grammar.specs.Codec.{Codec, There, Moves}
use Rattle.grammar.proofs.CodecLaws.{named_there, named_moves}
use Rattle.grammar.proofs.NumberedLaws.{never, Apart}
use Rattle.token.proofs.StandsLaws.{kept}
use Rattle.shape.specs.Row.{Row, slots, blank, num_of}
use Rattle.shape.specs.Marks.{Field}
use Rattle.shape.specs.Shape.{copy_shape, shape_c}
use Rattle.shape.proofs.Sound.{sound, none, fills_num, fills_text}
use Rattle.shape.proofs.ShapeLaws.{shape_there, shape_moves}
use Rattle.shape.proofs.CopyLaws.{zero_at, copy_text, copy_size}
use Rattle.page.specs.Page.{shape}
use Rattle.page.specs.Kind.{spelled_c, kind_c}
use Rattle.page.specs.declared.Kinds.{Kinds}
use Rattle.elements.specs.Element.{to_head, of_head, head_c, to_element, of_element, element_c, to_end, of_end, end_c}
use Rattle.page.proofs.KindLaws.{before, told, kind_there, kind_moves, kind_apart, kind_bad}

-- each of the n kinds from k on passes the test t
abbrev pub each : (List Field → Bool) → ℕ → ℕ → Bool
each t zero k = true
each t (suc n) k = t (shape k) && each t n (suc k)

pub each_at : (t : List Field → Bool) (n k : ℕ) → each t n k ≡ true → (j : ℕ) → k ≤ j → j < k + n → t (shape j) ≡ true
each_at t zero k h j a b = absurd (omega arith)
each_at t (suc n) k h j a b = let x = both (t (shape k)) (each t n (suc k)) h in go x.0 (λ c d. each_at t n (suc k) x.1 j c d) (eqb k j) refl
  where
    go : t (shape k) ≡ true → (suc k ≤ j → j < suc k + n → t (shape j) ≡ true) → (v : Bool) → eqb k j ≡ v → t (shape j) ≡ true
    go h ih true q = subst (λ y. t (shape y) ≡ true) (eqb-true k j q) h
    go h ih false q = let ne = eqb-false k j q in ih (omega (arith, ne)) (omega arith)

-- ---- which of a row's numbers have a name, slot by slot: of a head, of an element, of what ends a list
abbrev head_names : List Bool
head_names = true ∷ true ∷ true ∷ true ∷ true ∷ true ∷ true ∷ true ∷ false ∷ false ∷ false ∷ false ∷ false ∷ false ∷ false ∷ []

abbrev element_names : List Bool
element_names = false ∷ false ∷ false ∷ true ∷ true ∷ false ∷ false ∷ false ∷ true ∷ true ∷ true ∷ true ∷ true ∷ false ∷ true ∷ []

abbrev end_names : List Bool
end_names = false ∷ false ∷ false ∷ false ∷ false ∷ false ∷ false ∷ false ∷ false ∷ false ∷ false ∷ false ∷ false ∷ true ∷ false ∷ []

-- the shape l fills no slot from i on that has no name
abbrev pub unnamed : List Bool → ℕ → List Field → Bool
unnamed [] i l = true
unnamed (true ∷ m) i l = unnamed m (suc i) l
unnamed (false ∷ m) i l = none (fills_num i) l && unnamed m (suc i) l

abbrev pub head_like : List Field → Bool
head_like l = unnamed head_names 0 l && none fills_text l

abbrev pub element_like : List Field → Bool
element_like l = unnamed element_names 0 l

abbrev pub end_like : List Field → Bool
end_like l = unnamed end_names 0 l && none fills_text l

-- the numbers from slot i on that have a name, and 0 for the others
abbrev shown : List Bool → ℕ → List ℕ → List ℕ
shown [] i l = []
shown (true ∷ m) i l = get_or l i 0 ∷ shown m (suc i) l
shown (false ∷ m) i l = 0 ∷ shown m (suc i) l

-- ---- a good row has all its numbers under names: in the slots that have none its shape fills nothing
module _ (l : List Field) (r : Row) (only : copy_shape r l blank ≡ r) where
  size : length r.nums ≡ slots
  size = ap (λ (z : Row). length z.nums) (sym only) ∙ copy_size r l blank

  no_text : none fills_text l ≡ true → [] ≡ r.text
  no_text e = sym (ap (λ (z : Row). z.text) (sym only) ∙ copy_text r l blank e)

  all_shown : (m : List Bool) (i : ℕ) → i + length m ≡ slots → unnamed m i l ≡ true → shown m i r.nums ≡ drop i r.nums
  all_shown [] i n e = let h : length r.nums ≤ i = omega (arith, size) in sym (drop_of_length-le r.nums h)
  all_shown (true ∷ m) i n e =
      ap (λ (x : List ℕ). num_of r i ∷ x) (all_shown m (suc i) (omega arith) e) ∙ sym (drop-cons r.nums i 0 (omega (arith, size)))
  all_shown (false ∷ m) i n e =
      let b = both (none (fills_num i) l) (unnamed m (suc i) l) e in
      ap₂ (λ (k : ℕ) (x : List ℕ). k ∷ x) (sym (zero_at i r l only b.0)) (all_shown m (suc i) (omega arith) b.1) ∙ sym (drop-cons r.nums i 0 (omega (arith, size)))

  row_of_head : head_like l ≡ true → (k : ℕ) → of_head (to_head (k, r)) ≡ (k, r)
  row_of_head e k =
      let b = both (unnamed head_names 0 l) (none fills_text l) e in
      ap₂ (λ (m t : List ℕ). (k, record { nums = m; text = t })) (all_shown head_names 0 refl b.0) (no_text b.1)

  row_of_element : element_like l ≡ true → (k : ℕ) → of_element (to_element (k, r)) ≡ (k, r)
  row_of_element e k = ap (λ (m : List ℕ). (k, record { nums = m; text = r.text })) (all_shown element_names 0 refl e)

  row_of_end : end_like l ≡ true → of_end (to_end r) ≡ r
  row_of_end e =
      let b = both (unnamed end_names 0 l) (none fills_text l) e in
      ap₂ (λ (m t : List ℕ). record { nums = m; text = t }) (all_shown end_names 0 refl b.0) (no_text b.1)

-- ---- the head
module _ (t : told 6 1 ≡ true) (e : each head_like 6 1 ≡ true) where
  back_head : (a : ℕ × Row) → (kind_c 6 1 0).good a → of_head (to_head a) ≡ a
  back_head a g = row_of_head (shape a.0) a.1 g.1.1 (each_at head_like 6 1 e a.0 g.0.0 g.0.1) a.0

  pub head_there : There head_c
  head_there = named_there to_head of_head (kind_c 6 1 0) (λ b g. refl) (kind_there 6 1 0 t)

  pub head_moves : Moves head_c
  head_moves = named_moves to_head of_head (kind_c 6 1 0) back_head (kind_moves 6 1 0 t)

-- ---- an element
module _ (k : Kinds) (id : ℕ) (t : told k.count k.from ≡ true) (e : each element_like k.count k.from ≡ true) where
  abbrev C : Codec (ℕ × Row)
  C = kind_c k.count k.from id

  back_element : (a : ℕ × Row) → C.good a → of_element (to_element a) ≡ a
  back_element a g = row_of_element (shape a.0) a.1 g.1.1 (each_at element_like k.count k.from e a.0 g.0.0 g.0.1) a.0

  pub element_there : There (element_c k id)
  element_there = named_there to_element of_element C (λ b g. refl) (kind_there k.count k.from id t)

  pub element_moves : Moves (element_c k id)
  element_moves = named_moves to_element of_element C back_element (kind_moves k.count k.from id t)

  -- what ends the list is told from its elements
  pub element_apart : (z : ℕ) → before z k.count k.from ≡ true → Apart (element_c k id) (end_c z id)
  element_apart z h s at b p g st u q rd =
      let r = kept ((shape_c (shape z) id).read s at) _ u q rd in
      kind_apart k.count k.from id t z h s at (of_element b) p g st r.0 r.1 r.2

-- ---- what ends a list
module _ (k id : ℕ) (t : sound (shape k) ≡ true) (e : end_like (shape k) ≡ true) where
  back_end : (r : Row) → (shape_c (shape k) id).good r → of_end (to_end r) ≡ r
  back_end r g = row_of_end (shape k) r g.1 e

  pub end_there : There (end_c k id)
  end_there = named_there to_end of_end (shape_c (shape k) id) (λ b g. refl) (shape_there (shape k) id t)

  pub end_moves : Moves (end_c k id)
  end_moves = named_moves to_end of_end (shape_c (shape k) id) back_end (shape_moves (shape k) id t)

-- ---- what reading an element finds, whatever its kinds
-- a refusal stands at the element's own place, whatever its names
named_bad : {A : Type 0} (f : ℕ × Row → A) (n k id : ℕ) (s : List ℕ) (at j q : ℕ) → keep ((kind_c n k id).read s at) (λ a p. got (f a) p) ≡ bad j q → (j ≡ 7) × (q ≡ at)
named_bad {A} f n k id s at j q e = go ((kind_c n k id).read s at) refl e
  where
    go : (x : Ans (ℕ × Row)) → (kind_c n k id).read s at ≡ x → keep x (λ a p. got (f a) p) ≡ bad j q → (j ≡ 7) × (q ≡ at)
    go (got a p) i h = never (sym h)
    go (bad m p) i h = let r = kind_bad (λ z. (spelled_c z id).read s at) at n k m p i in (cc, cc)

pub head_bad : (s : List ℕ) (j q : ℕ) → head_c.read s 0 ≡ bad j q → (j ≡ 7) × (q ≡ 0)
head_bad s j q e = named_bad to_head 6 1 0 s 0 j q e

module _ (k : Kinds) (id : ℕ) (s : List ℕ) (at : ℕ) where
  pub element_bad : (j q : ℕ) → (element_c k id).read s at ≡ bad j q → (j ≡ 7) × (q ≡ at)
  element_bad j q e = named_bad to_element k.count k.from id s at j q e
