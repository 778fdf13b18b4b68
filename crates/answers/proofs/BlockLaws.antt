-- The lines of a table, place by place. Assumes nothing.
use Prim.Native.Nat.{ℕ, suc, ◌+◌, ◌<◌, ◌≤◌}
use mathlib.Core.Path.{◌≡◌, refl, sym, ap, ◌∙◌}
use mathlib.Core.Bool.{true, false}
use mathlib.Core.List.{List, [], ◌∷◌, ◌++◌, append_assoc, append-nil}
use native.Mathlib.Omega.{arith}
use native.Mathlib.Nat.{add-zero, add-suc, suc-add}
use native.Mathlib.Numerals.{add-one}
use lib.ListN.{length, get_or, take}
use lib.Seq.{take-suc, take_all, length-take-le}
use Rattle.places.specs.Set.{in_use}
use Rattle.token.specs.Put.{Put}
use Rattle.token.proofs.PutLaws.{put_seq}
use Rattle.answers.specs.Block.{line_at, lines_from}

module _ {A : Type 0} (line : ℕ → A → List ℕ) (used : ℕ) where
  snoc : (k : ℕ) (l : List A) (x : A) → lines_from line used k (l ++ (x ∷ [])) ≡ lines_from line used k l ++ line_at line used (k + length l) x
  unfolding lines_from
  snoc k [] x = append-nil (line_at line used k x) ∙ ap (λ (n : ℕ). line_at line used n x) (sym (add-zero k))
  snoc k (y ∷ l) x =
      ap (λ (r : List ℕ). line_at line used k y ++ r) (snoc (suc k) l x)
      ∙ sym (append_assoc (line_at line used k y) (lines_from line used (suc k) l) (line_at line used (suc k + length l) x))
      ∙ ap (λ (n : ℕ). (line_at line used k y ++ lines_from line used (suc k) l) ++ line_at line used n x) (suc-add k (length l) ∙ sym (add-suc k (length l)))

  -- one place more
  lines_step : (xs : List A) (d : A) (i : ℕ) → i < length xs
      → lines_from line used 0 (take (i + 1) xs) ≡ lines_from line used 0 (take i xs) ++ line_at line used i (get_or xs i d)
  lines_step xs d i h =
      let long : 0 + length (take i xs) ≡ i = omega (arith, length-take-le i xs (omega arith)) in
      rw (add-one i, take-suc xs i d h)
      (snoc 0 (take i xs) (get_or xs i d) ∙ ap (λ (n : ℕ). lines_from line used 0 (take i xs) ++ line_at line used n (get_or xs i d)) long)

  -- none yet, and all of them
  pub lines_start : (xs : List A) → lines_from line used 0 (take 0 xs) ≡ []
  unfolding lines_from
  lines_start [] = refl
  lines_start (x ∷ xs) = refl

  pub lines_end : (xs : List A) (i : ℕ) → length xs ≤ i → lines_from line used 0 (take i xs) ≡ lines_from line used 0 xs
  lines_end xs i h = ap (lines_from line used 0) (take_all i xs h)

  -- one place more is written: its line where it is in use, and nothing where it is free
  pub put_used : {a b d : List ℕ} {at p q : ℕ} (xs : List A) (x : A) (i : ℕ) → i < length xs → x ≡ get_or xs i x → in_use used i ≡ true
      → Put a b at p (lines_from line used 0 (take i xs)) → Put b d p q (line i x) → Put a d at q (lines_from line used 0 (take (i + 1) xs))
  put_used xs x i h e t before here = rw (lines_step xs x i h, ← e, t) (put_seq before here)

  pub put_free : {a b : List ℕ} {at p : ℕ} (xs : List A) (x : A) (i : ℕ) → i < length xs → in_use used i ≡ false
      → Put a b at p (lines_from line used 0 (take i xs)) → Put a b at p (lines_from line used 0 (take (i + 1) xs))
  put_free xs x i h t before = rw (lines_step xs x i h, t, append-nil (lines_from line used 0 (take i xs))) before
