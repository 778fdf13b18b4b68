-- The tests that words have to pass to be told apart: each is computed once.
-- Assumes nothing.
use Prim.Native.Nat.{ℕ, zero, suc}
use mathlib.Core.Bool.{Bool, true, false, cond, ◌&&◌, not}
use mathlib.Core.List.{List, [], ◌∷◌, ◌++◌}
use lib.Dec.{eqb}
use Rattle.token.specs.Literal.{begins}
use Rattle.words.specs.Words.{word_of}

-- v is the first of the n words from k on that l begins with
unfoldable pub finds : ℕ → ℕ → ℕ → List ℕ → Bool
finds zero k v l = false
finds (suc n) k v l = cond (begins (word_of k) l) (eqb k v) (finds n (suc k) v l)

-- w has no quote
unfoldable pub plain : List ℕ → Bool
plain [] = true
plain (b ∷ w) = not (eqb b 34) && plain w

-- each of the m words from v on is found among the n words from k on where it stands with a quote after it
unfoldable pub told_apart : ℕ → ℕ → ℕ → ℕ → Bool
told_apart n k zero v = true
told_apart n k (suc m) v = plain (word_of v) && finds n k v (word_of v ++ (34 ∷ [])) && told_apart n k m (suc v)
