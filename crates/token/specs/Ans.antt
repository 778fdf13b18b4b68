-- What a reader finds at a place, for any kind of element; and what it is for a text to stand at a place.
use Rattle.std.specs.Prelude.{ℕ, ◌+◌, ◌≤◌, ◌≡◌, List, ◌++◌, length, drop}

-- an element and the place after it, or a refusal's number and its place (01, "How to write each place")
pub data Ans (A : Type 0) : Type 0 where
  got : A → ℕ → Ans A
  bad : ℕ → ℕ → Ans A

-- one reader after another, as parts of what begins at `at`: where one refuses, the whole is refused there
abbrev pub and_then : {A B : Type 0} → ℕ → Ans A → (A → ℕ → Ans B) → Ans B
and_then at (got a p) f = f a p
and_then at (bad k p) f = bad 7 at

-- the same, where a refusal keeps its own place
abbrev pub keep : {A B : Type 0} → Ans A → (A → ℕ → Ans B) → Ans B
keep (got a p) f = f a p
keep (bad k p) f = bad k p

-- the value a where x stands, and else the answer d
abbrev pub pick_first : {A B : Type 0} → Ans B → A → Ans A → Ans A
pick_first (got u p) a d = got a p
pick_first (bad k p) a d = d

-- in s the text w stands at the place `at`, and p is the place after it
pub record Stands (s : List ℕ) (at : ℕ) (w : List ℕ) (p : ℕ) : Type 0 where
  pub text : drop at s ≡ w ++ drop p s
  pub next : p ≡ at + length w
  pub within : p ≤ length s
