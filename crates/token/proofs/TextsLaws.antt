-- A row of texts, by number.
-- Assumes nothing.
use Prim.Native.Nat.{ℕ, zero, suc, ◌≤◌}
use mathlib.Core.Path.{◌≡◌, refl}
use mathlib.Core.Bool.{Bool, true, ◌&&◌}
use mathlib.Core.List.{List, [], ◌∷◌}
use native.Mathlib.Omega.{arith}
use lib.ListN.{length}
use lib.Dec.{leb}
use borrow.Author.Tests.{leb-true}
use Rattle.token.specs.Texts.{pick}
use Rattle.token.proofs.NumberLaws.{both}

-- there is none past the last
pub pick_none : (l : List (List ℕ)) (k : ℕ) → length l ≤ k → pick l k ≡ []
pick_none [] k h = refl
pick_none (w ∷ l) zero h = absurd (omega arith)
pick_none (w ∷ l) (suc k) h = pick_none l k (omega arith)

-- ---- the test that no text is longer than m
abbrev pub short : ℕ → List (List ℕ) → Bool
short m [] = true
short m (w ∷ l) = leb (length w) m && short m l

pub pick_short : (m : ℕ) (l : List (List ℕ)) → short m l ≡ true → (k : ℕ) → length (pick l k) ≤ m
pick_short m [] t k = omega arith
pick_short m (w ∷ l) t zero = leb-true (length w) m (both (leb (length w) m) (short m l) t).0
pick_short m (w ∷ l) t (suc k) = pick_short m l (both (leb (length w) m) (short m l) t).1 k
