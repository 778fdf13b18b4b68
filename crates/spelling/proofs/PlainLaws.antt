-- What tells of a byte of a message whether it stands for itself.
-- Assumes nothing.
use Prim.Native.Nat.{ℕ, ◌-◌, ◌≤◌, ◌<◌}
use mathlib.Core.Path.{◌≡◌, refl, sym, ap, ◌∙◌}
use mathlib.Core.Bool.{Bool, true, false, not, ◌&&◌}
use mathlib.Core.List.{List}
use mathlib.Core.Logic.{◌⊎◌, inl, inr}
use lib.Dec.{eqb}
use lib.ListN.{length, take, drop, get_or, drop_of_length-le}
use lib.Seq.{drop-cons}
use borrow.Author.Tests.{ne_eqb}
use Rattle.std.specs.List.{starts_with}
use Rattle.token.specs.Text.{bytes}
use Rattle.token.specs.Literal.{begins}
use Rattle.token.proofs.LiteralLaws.{begins_at}
use Rattle.text.specs.Text.{ok_byte}
use Rattle.spelling.specs.Spelling.{plain_here}

module _ (s : List ℕ) (at : ℕ) where
  pub none_past : length s ≤ at → plain_here (drop at s) ≡ false
  unfolding plain_here
  none_past h = rw (drop_of_length-le s h)

  module _ (h : at < length s) where
    is_amp : get_or s at 0 ≡ 38 → plain_here (drop at s) ≡ false
    unfolding plain_here
    is_amp e = rw (drop-cons s at 0, e)

    is_lt : get_or s at 0 ≡ 60 → plain_here (drop at s) ≡ false
    unfolding plain_here
    is_lt e = rw (drop-cons s at 0, e)

    pub is_mark : (get_or s at 0 ≡ 38) ⊎ (get_or s at 0 ≡ 60) → plain_here (drop at s) ≡ false
    is_mark (inl e) = is_amp e
    is_mark (inr e) = is_lt e

    is_bracket : get_or s at 0 ≡ 93 → plain_here (drop at s) ≡ not (begins (bytes "]]>") (drop at s))
    unfolding plain_here
    is_bracket e = rw (drop-cons s at 0, e)

    pub is_bracket_lem : get_or s at 0 ≡ 93 → not (starts_with eqb (take (length s - at) (drop at s)) (bytes "]]>")) ≡ plain_here (drop at s)
    is_bracket_lem e = ap not (begins_at s at (bytes "]]>")) ∙ sym (is_bracket e)

    pub is_other_lem : ((get_or s at 0 ≡ 38) ⊎ (get_or s at 0 ≡ 60) → ⊥) → (get_or s at 0 ≡ 93 → ⊥) → plain_here (drop at s) ≡ ok_byte (get_or s at 0)
    unfolding plain_here begins
    is_other_lem i k = rw (drop-cons s at 0) (simp (ne_eqb (get_or s at 0) 38 (λ e. i (inl e)), ne_eqb (get_or s at 0) 60 (λ e. i (inr e)), ne_eqb (get_or s at 0) 93 k) (go (ok_byte (get_or s at 0))))
      where
        go : (x : Bool) → (((x && true) && true) && true) ≡ x
        go true = refl
        go false = refl
