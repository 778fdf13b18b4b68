-- The end of a line: where its first line feed stands. Assumes nothing.
use Rattle.std.proofs.Common.{◌≡◌, refl, sym, ℕ, suc, ◌+◌, ◌≤◌, Bool, true, false, cond, Option, Some, None, List, [], ◌∷◌, length, drop, eqb, ltb, ap, ◌∙◌, arith, length-drop}
use Rattle.std.specs.List.{position_or_len}
use Rattle.std.specs.Option.{unwrap_or}
use Rattle.std.proofs.lemmas.List.Recursion.{is_position_or_len}
use borrow.Author.Tests.{ltb-false}
use Rattle.script.specs.Lines.{line_len, line_end}

len_within : (l : List ℕ) → line_len l ≤ length l
unfolding line_len
len_within [] = omega arith
len_within (b ∷ l) = go (eqb b 10) (len_within l)
  where
    go : (t : Bool) → line_len l ≤ length l → cond t 0 (suc (line_len l)) ≤ suc (length l)
    go true h = omega arith
    go false h = omega arith

pub line_within : (s : List ℕ) (i : ℕ) → i ≤ length s → line_end s i ≤ length s
line_within s i h = let k = len_within (drop i s) in omega (arith, length-drop i s)

abbrev pub feed : ℕ → Bool
feed b = eqb b 10

abbrev pub feed_at : List ℕ → ℕ
feed_at = position_or_len feed

suc_of : (n : ℕ) → suc n ≡ 1 + n
suc_of n = omega arith

first_feed : (l : List ℕ) → line_len l ≡ feed_at l
unfolding line_len
first_feed l = is_position_or_len line_len feed refl (λ x xs. ap (λ n. cond (feed x) 0 n) (suc_of (line_len xs))) l

-- its place, or the length of a line without one
pub line_len_found : (l : List ℕ) {o : Option ℕ} {n : ℕ} → o ≡ cond (ltb (feed_at l) (length l)) (Some (feed_at l)) None → n ≡ unwrap_or o (length l) → n ≡ line_len l
line_len_found l {o} {n} e h = h ∙ ap (λ (x : Option ℕ). unwrap_or x (length l)) e ∙ go (ltb (feed_at l) (length l)) refl ∙ sym (first_feed l)
  where
    go : (t : Bool) → ltb (feed_at l) (length l) ≡ t → unwrap_or (cond t (Some (feed_at l)) None) (length l) ≡ feed_at l
    go true q = refl
    go false q = omega (arith, ltb-false _ _ q, first_feed l, len_within l)
