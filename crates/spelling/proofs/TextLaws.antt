-- A text: what is written of it reads as that text, and what reads keeps the text rule.
-- Assumes nothing.
use Prim.Native.Nat.{ℕ, zero, suc, ◌+◌, ◌*◌, ◌≤◌}
use mathlib.Core.Path.{◌≡◌, refl, sym, ap, ap₂, ◌∙◌, subst}
use mathlib.Core.Bool.{true, ◌&&◌}
use mathlib.Core.List.{List, [], ◌∷◌, ◌++◌}
use native.Mathlib.Omega.{arith}
use lib.ListN.{length, drop, length-append}
use Rattle.token.specs.Ans.{Ans, got, bad, keep, Stands}
use Rattle.token.proofs.NumberLaws.{both}
use Rattle.token.proofs.StandsLaws.{left, right, kept}
use Rattle.text.specs.Text.{ok_byte, all_ok}
use Rattle.spelling.specs.Spelling.{spell, spelled, byte_at, one_more, text_at}
use Rattle.spelling.proofs.ByteLaws.{Way, amp, lt, gt, itself, way, spell_amp, spell_lt, spell_gt, spell_itself, byte_there, byte_none, byte_moves}

-- ---- a turn: the text is over, goes on, or has a byte too many
module _ (s : List ℕ) (at : ℕ) where
  pub text_over : (n k p : ℕ) → byte_at s at ≡ bad k p → text_at n s at ≡ got [] at
  unfolding text_at
  text_over zero k p e = rw e
  text_over (suc n) k p e = rw e

  pub text_more : (n b p : ℕ) → byte_at s at ≡ got b p → text_at (suc n) s at ≡ keep (text_at n s p) (λ l q. got (b ∷ l) q)
  unfolding text_at
  text_more n b p e = rw e

  pub text_long : (b p : ℕ) → byte_at s at ≡ got b p → text_at 0 s at ≡ bad 7 at
  unfolding text_at
  text_long b p e = rw e

-- ---- there
pub text_there : (s : List ℕ) (n : ℕ) (l : List ℕ) (at p : ℕ) (t : List ℕ) → length l ≤ n → all_ok l ≡ true → Stands s at (spelled l) p → drop p s ≡ 60 ∷ t → text_at n s at ≡ got l p
unfolding spelled all_ok
text_there s n [] at p t h g st e =
    let k : p ≡ at = omega (arith, st.next) in
    text_over s at n 7 at (byte_none s at t (ap (λ (i : ℕ). drop i s) (sym k) ∙ e)) ∙ ap (got []) (sym k)
text_there s zero (b ∷ l) at p t h g st e = absurd (omega arith)
text_there s (suc n) (b ∷ l) at p t h g st e =
    let g2 = both (ok_byte b) (all_ok l) g in
    let k = at + length (spell b) in
    let rest = right s at (spell b) (spelled l) p st in
    text_more s at n b k (byte_there s at b k l t g2.0 (left s at (spell b) (spelled l) p st) (rest.text ∙ ap (λ (m : List ℕ). spelled l ++ m) e))
    ∙ ap (λ (x : Ans (List ℕ)). keep x (λ m q. got (b ∷ m) q)) (text_there s n l k p t (omega arith) g2.1 rest e)

-- ---- moves
pub record TextMoves (s : List ℕ) (n at : ℕ) (l : List ℕ) (p : ℕ) : Type 0 where
  pub few : length l ≤ n
  pub good : all_ok l ≡ true
  pub on : at ≤ p
  pub inside : p ≤ length s

-- where the text is over
over_moves : (s : List ℕ) (n at : ℕ) (l : List ℕ) (p : ℕ) → at ≤ length s → got [] at ≡ got l p → TextMoves s n at l p
unfolding all_ok
over_moves s n at l p h e =
    let kl : [] ≡ l = cc in
    let kp : at ≡ p = cc in
    subst (λ (m : List ℕ). TextMoves s n at m p) kl (record { few = omega arith; good = refl; on = omega arith; inside = omega arith })

pub text_moves : (s : List ℕ) (n at : ℕ) (l : List ℕ) (p : ℕ) → at ≤ length s → text_at n s at ≡ got l p → TextMoves s n at l p
unfolding text_at all_ok
text_moves s zero at l p h e = go (byte_at s at) e
  where
    go : (x : Ans ℕ) → one_more x at (λ q. bad 7 at) ≡ got l p → TextMoves s zero at l p
    go (got b q) i = let z : ◌≡◌ {A = ℕ} 0 1 = cc in absurd (omega arith)
    go (bad k q) i = over_moves s zero at l p h i
text_moves s (suc n) at l p h e = go (λ q m. text_moves s n q m p) (byte_at s at) refl e
  where
    go : ((q : ℕ) (m : List ℕ) → q ≤ length s → text_at n s q ≡ got m p → TextMoves s n q m p) → (x : Ans ℕ) → byte_at s at ≡ x → one_more x at (text_at n s) ≡ got l p → TextMoves s (suc n) at l p
    go ih (got b q) i j =
        let v = byte_moves s at b q i in
        let c = kept (text_at n s q) _ l p j in
        let z : got (b ∷ c.0) c.1 ≡ got l p = c.3 in
        let kp : c.1 ≡ p = cc in
        let kl : b ∷ c.0 ≡ l = cc in
        let m = ih q c.0 v.inside (c.2 ∙ ap (got c.0) kp) in
        subst (λ (w : List ℕ). TextMoves s (suc n) at w p) kl
        (record { few = omega (arith, m.few); good = ap₂ ◌&&◌ v.good m.good; on = omega (arith, v.forward, m.on); inside = m.inside })
    go ih (bad k q) i j = over_moves s (suc n) at l p h j

-- ---- what spells a byte has at most 5 bytes, so what spells a text has at most 5 for each
pub spell_most : (b : ℕ) → length (spell b) ≤ 5
spell_most b = go (way b)
  where
    go : Way b → length (spell b) ≤ 5
    go (amp e) = subst (λ (c : ℕ). length (spell c) ≤ 5) e (rw spell_amp (omega arith))
    go (lt e) = subst (λ (c : ℕ). length (spell c) ≤ 5) e (rw spell_lt (omega arith))
    go (gt e) = subst (λ (c : ℕ). length (spell c) ≤ 5) e (rw spell_gt (omega arith))
    go (itself i j k) = rw (spell_itself b i j k) (omega arith)

pub spelled_most : (l : List ℕ) → length (spelled l) ≤ 5 * length l
unfolding spelled
spelled_most [] = omega arith
spelled_most (b ∷ l) = omega (arith, length-append (spell b) (spelled l), spell_most b, spelled_most l)
