-- Statuses against commands, as a loop over both compares them. Assumes nothing.
use Prim.Native.Nat.{ℕ, suc, ◌+◌, ◌<◌, ◌≤◌}
use mathlib.Core.Path.{◌≡◌, refl, sym, ap, ap₂, ◌∙◌}
use mathlib.Core.Bool.{Bool, true, false, ◌&&◌, and-false}
use mathlib.Core.List.{List, [], ◌∷◌}
use native.Mathlib.Nat.{add-zero}
use native.Mathlib.Omega.{arith}
use lib.ListN.{length, get_or, drop}
use Rattle.places.proofs.Turns.{next_of_lem, end_of}
use Rattle.places.proofs.Choice.{and_chosen, and_passed, and_second}
use Rattle.lists.specs.declared.Entry.{Entry}
use Rattle.statuses.specs.declared.Side.{Side}
use Rattle.statuses.specs.Status.{fits, all_fit}

-- none is missing and none left over
fit_lengths : (s : Side) (ref : ℕ) (cs xs : List Entry) → (length cs ≡ length xs → ⊥) → all_fit s ref cs xs ≡ false
unfolding all_fit
fit_lengths s ref [] [] ne = absurd (ne refl)
fit_lengths s ref [] (x ∷ xs) ne = refl
fit_lengths s ref (c ∷ cs) [] ne = refl
fit_lengths s ref (c ∷ cs) (x ∷ xs) ne =
    ap (λ (b : Bool). fits s ref c x && b) (fit_lengths s (suc ref) cs xs (λ e. ne (ap suc e))) ∙ and-false (fits s ref c x)

-- as a loop over the commands has it
module _ (s : Side) (first : ℕ) (cs xs : List Entry) where
  pub fit_apart : (length cs ≡ length xs → ⊥) → all_fit s first cs xs ≡ false
  fit_apart ne = fit_lengths s first cs xs ne

  -- from number i on
  abbrev pub fit_from : ℕ → Bool
  fit_from i = all_fit s (first + i) (drop i cs) (drop i xs)

  pub fit_start : fit_from 0 ≡ all_fit s first cs xs
  fit_start = ap (λ (k : ℕ). all_fit s k cs xs) (add-zero first)

  module _ (i : ℕ) (c x : Entry) (h : i < length cs) (k : i < length xs) where
    turn : fit_from i ≡ (fits s (first + i) (get_or cs i c) (get_or xs i x) && fit_from (i + 1))
    unfolding all_fit
    turn =
        let next : suc (first + i) ≡ first + (i + 1) = omega arith in
        ap₂ (all_fit s (first + i)) (next_of_lem cs i c h) (next_of_lem xs i x k)
        ∙ ap (λ (j : ℕ). fits s (first + i) (get_or cs i c) (get_or xs i x) && all_fit s j (drop (i + 1) cs) (drop (i + 1) xs)) next

    -- the status does not fit, or it does
    pub fit_stop : fits s (first + i) (get_or cs i c) (get_or xs i x) ≡ false → fit_from i ≡ false
    fit_stop e = turn ∙ and_passed (fits s (first + i) (get_or cs i c) (get_or xs i x)) (fit_from (i + 1)) e

    pub fit_on : fits s (first + i) (get_or cs i c) (get_or xs i x) ≡ true → fit_from (i + 1) ≡ fit_from i
    fit_on e = sym (turn ∙ and_chosen (fits s (first + i) (get_or cs i c) (get_or xs i x)) (fit_from (i + 1)) e)

  pub fit_end : (i : ℕ) → length cs ≤ i → length xs ≤ i → fit_from i ≡ true
  unfolding all_fit
  fit_end i h k = ap₂ (all_fit s (first + i)) (end_of cs i h) (end_of xs i k)

-- statuses that fit are as many as the commands
pub fit_length : (s : Side) (cs xs : List Entry) (first : ℕ) → all_fit s first cs xs ≡ true → length cs ≡ length xs
unfolding all_fit
fit_length s [] [] first e = refl
fit_length s [] (x ∷ xs) first e = cc
fit_length s (c ∷ cs) [] first e = cc
fit_length s (c ∷ cs) (x ∷ xs) first e = ap suc (fit_length s cs xs (suc first) (and_second (fits s first c x) (all_fit s (suc first) cs xs) e))
