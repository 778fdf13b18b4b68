-- Each of a row may stand before the next: the answer of a walk over neighbours. Assumes nothing.
use Prim.Native.Nat.{ℕ, zero, suc, ◌+◌, ◌<◌}
use mathlib.Core.Path.{◌≡◌, refl, sym, ap, ◌∙◌, subst}
use mathlib.Core.Bool.{Bool, true, false, ◌&&◌}
use mathlib.Core.List.{List, [], ◌∷◌}
use native.Mathlib.Omega.{arith}
use lib.ListN.{length, get_or}
use Rattle.std.specs.List.{IsAllAdjacentAnswer, AllAdjacentBelow}
use Rattle.places.proofs.Choice.{and_chosen, and_passed}
use Rattle.lists.specs.declared.Entry.{Entry}
use Rattle.ranks.specs.declared.Row.{Row}
use Rattle.ranks.specs.Rank.{before, ranked}

over : (i : ℕ) → suc i + 1 ≡ suc (i + 1)
over i = omega arith

module _ (k : Row) where
  ordered : (xs : List Entry) → AllAdjacentBelow (λ x y. true ≡ before k x y) xs (length xs) → ranked k xs ≡ true
  unfolding ranked
  ordered [] h = refl
  ordered (x ∷ []) h = refl
  ordered (x ∷ (y ∷ ys)) h =
      let rest : ranked k (y ∷ ys) ≡ true = ordered (y ∷ ys) (λ i d low. subst (λ (j : ℕ). true ≡ before k (get_or (y ∷ ys) i d) (get_or (x ∷ (y ∷ ys)) j d)) (over i) (h (suc i) d (omega arith))) in
      and_chosen (before k x y) (ranked k (y ∷ ys)) (sym (h 0 x (omega arith))) ∙ rest

  misplaced : (xs : List Entry) (i : ℕ) → i + 1 < length xs → ((d : Entry) → false ≡ before k (get_or xs i d) (get_or xs (i + 1) d)) → ranked k xs ≡ false
  unfolding ranked
  misplaced [] i low h = absurd (omega arith)
  misplaced (x ∷ []) i low h = absurd (omega arith)
  misplaced (x ∷ (y ∷ ys)) zero low h = and_passed (before k x y) (ranked k (y ∷ ys)) (sym (h x))
  misplaced (x ∷ (y ∷ ys)) (suc i) low h = ap (λ (b : Bool). before k x y && b) (misplaced (y ∷ ys) i (omega arith) (λ d. subst (λ (j : ℕ). false ≡ before k (get_or (y ∷ ys) i d) (get_or (x ∷ (y ∷ ys)) j d)) (over i) (h d))) ∙ never (before k x y)
    where
      never : (b : Bool) → (b && false) ≡ false
      never true = refl
      never false = refl

  pub ranked_answer : (xs : List Entry) (r : Bool) → IsAllAdjacentAnswer (λ x y b. b ≡ before k x y) xs r → r ≡ ranked k xs
  ranked_answer xs true h = sym (ordered xs h)
  ranked_answer xs false h = sym (misplaced xs h.0 h.1 h.2)
