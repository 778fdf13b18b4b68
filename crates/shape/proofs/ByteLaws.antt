-- One byte: where it stands, and what it stands for in a shape when it is none of the marks.
-- Assumes nothing.
use Prim.Native.Nat.{ℕ, ◌+◌, ◌≤◌, ◌<◌}
use mathlib.Core.Path.{◌≡◌}
use mathlib.Core.List.{List, [], ◌∷◌}
use native.Mathlib.Omega.{arith}
use lib.Seq.{drop-cons}
use lib.ListN.{length, get_or, drop_of_length-le}
use borrow.Author.Tests.{eq-eqb, ne_eqb}
use Rattle.token.specs.Ans.{got, bad}
use Rattle.token.specs.Literal.{literal_at, begins}
use Rattle.token.proofs.LiteralLaws.{literal_yes, literal_no}
use Rattle.shape.specs.Marks.{byte, field_of}

module _ (s : List ℕ) (at b : ℕ) where
  pub byte_yes : at < length s → get_or s at 0 ≡ b → literal_at s at (b ∷ []) ≡ got tt (at + 1)
  unfolding begins
  byte_yes h e = literal_yes s at (b ∷ []) (omega arith) (rw (drop-cons s at 0, eq-eqb (get_or s at 0) b e))

  pub byte_no : at < length s → (get_or s at 0 ≡ b → ⊥) → literal_at s at (b ∷ []) ≡ bad 7 at
  unfolding begins
  byte_no h e = literal_no s at (b ∷ []) (rw (drop-cons s at 0, ne_eqb (get_or s at 0) b e))

  pub byte_past : length s ≤ at → literal_at s at (b ∷ []) ≡ bad 7 at
  unfolding begins
  byte_past h = literal_no s at (b ∷ []) (rw (drop_of_length-le s h))

-- ---- the marks, and a byte that is none of them
abbrev pub Unmarked : ℕ → Type 0
Unmarked t = (((((((((((((((((((((Unit {0} × (t ≡ 35 → ⊥)) × (t ≡ 36 → ⊥)) × (t ≡ 58 → ⊥)) × (t ≡ 45 → ⊥)) × (t ≡ 40 → ⊥)) × (t ≡ 41 → ⊥)) × (t ≡ 91 → ⊥)) × (t ≡ 93 → ⊥)) × (t ≡ 63 → ⊥)) × (t ≡ 42 → ⊥)) × (t ≡ 37 → ⊥)) × (t ≡ 64 → ⊥)) × (t ≡ 94 → ⊥)) × (t ≡ 43 → ⊥)) × (t ≡ 33 → ⊥)) × (t ≡ 38 → ⊥)) × (t ≡ 126 → ⊥)) × (t ≡ 95 → ⊥)) × (t ≡ 39 → ⊥)) × (t ≡ 44 → ⊥)) × (t ≡ 123 → ⊥)) × (t ≡ 124 → ⊥)

pub unmarked : (t : ℕ) → Unmarked t → field_of t ≡ byte t
unfolding field_of
unmarked t n =
    simp (
      ne_eqb t 35 n.0.0.0.0.0.0.0.0.0.0.0.0.0.0.0.0.0.0.0.0.0.1,
      ne_eqb t 36 n.0.0.0.0.0.0.0.0.0.0.0.0.0.0.0.0.0.0.0.0.1,
      ne_eqb t 58 n.0.0.0.0.0.0.0.0.0.0.0.0.0.0.0.0.0.0.0.1,
      ne_eqb t 45 n.0.0.0.0.0.0.0.0.0.0.0.0.0.0.0.0.0.0.1,
      ne_eqb t 40 n.0.0.0.0.0.0.0.0.0.0.0.0.0.0.0.0.0.1,
      ne_eqb t 41 n.0.0.0.0.0.0.0.0.0.0.0.0.0.0.0.0.1,
      ne_eqb t 91 n.0.0.0.0.0.0.0.0.0.0.0.0.0.0.0.1,
      ne_eqb t 93 n.0.0.0.0.0.0.0.0.0.0.0.0.0.0.1,
      ne_eqb t 63 n.0.0.0.0.0.0.0.0.0.0.0.0.0.1,
      ne_eqb t 42 n.0.0.0.0.0.0.0.0.0.0.0.0.1,
      ne_eqb t 37 n.0.0.0.0.0.0.0.0.0.0.0.1,
      ne_eqb t 64 n.0.0.0.0.0.0.0.0.0.0.1,
      ne_eqb t 94 n.0.0.0.0.0.0.0.0.0.1,
      ne_eqb t 43 n.0.0.0.0.0.0.0.0.1,
      ne_eqb t 33 n.0.0.0.0.0.0.0.1,
      ne_eqb t 38 n.0.0.0.0.0.0.1,
      ne_eqb t 126 n.0.0.0.0.0.1,
      ne_eqb t 95 n.0.0.0.0.1,
      ne_eqb t 39 n.0.0.0.1,
      ne_eqb t 44 n.0.0.1,
      ne_eqb t 123 n.0.1,
      ne_eqb t 124 n.1,
    )
