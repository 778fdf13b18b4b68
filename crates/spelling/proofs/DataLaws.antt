-- A Data element: what is written of a text reads as that text, and what reads keeps the text rule.
-- Assumes nothing.
use Prim.Native.Nat.{ℕ, ◌+◌, ◌≤◌}
use mathlib.Core.Path.{◌≡◌, refl, sym, ap, ◌∙◌, subst}
use mathlib.Core.List.{List, [], ◌∷◌, ◌++◌}
use native.Mathlib.Omega.{arith}
use lib.ListN.{length, length-append}
use Rattle.token.specs.Ans.{Ans, got, bad, and_then, pick_first}
use Rattle.token.specs.Literal.{literal_at, begins}
use Rattle.token.proofs.LiteralLaws.{literal_there, literal_moves, literal_no}
use Rattle.token.proofs.StandsLaws.{left, right, chain}
use Rattle.grammar.specs.Codec.{There, Moves, Moved, Again}
use Rattle.grammar.proofs.CodecLaws.{again}
use Rattle.text.specs.Text.{longest, all_ok}
use Rattle.text.proofs.TextLaws.{good_parts, parts_good}
use Rattle.spelling.specs.Spelling.{spelled, text_at}
use Rattle.spelling.specs.Data.{open_tag, close_tag, empty_tag, write_data, closed_at, full_at, data_at, data_c}
use Rattle.spelling.proofs.TextLaws.{text_there, text_moves, spelled_most}

-- ---- written
pub write_none : (l : List ℕ) → length l ≡ 0 → write_data l ≡ empty_tag
unfolding write_data
write_none [] e = refl
write_none (b ∷ l) e = absurd (omega arith)

pub write_some : (l : List ℕ) → (length l ≡ 0 → ⊥) → write_data l ≡ open_tag ++ (spelled l ++ close_tag)
unfolding write_data
write_some [] e = absurd (e refl)
write_some (b ∷ l) e = refl

pub length_none : (l : List ℕ) → length l ≡ 0 → length (write_data l) ≡ 7
length_none l e = ap length (write_none l e)

pub length_some : (l : List ℕ) → (length l ≡ 0 → ⊥) → length (write_data l) ≡ 13 + length (spelled l)
length_some l e = ap length (write_some l e) ∙ (let x = length-append (spelled l) close_tag in omega arith)

-- the most bytes of the element of a text that keeps the text rule: 5 for each of 24, and the tags
abbrev pub most_data : ℕ
most_data = 133

pub data_most : (l : List ℕ) → length l ≤ longest → length (write_data l) ≤ most_data
data_most [] h = let n = length_none [] refl in omega arith
data_most (b ∷ l) h = let n = length_some (b ∷ l) (λ e. omega arith) in omega (arith, spelled_most (b ∷ l))

-- ---- read: the empty element, none, a text that is not one, an empty text, one that is not closed, and one that is
module _ (s : List ℕ) (at : ℕ) where
  pub data_empty : (u : Unit {0}) (p : ℕ) → literal_at s at empty_tag ≡ got u p → data_at s at ≡ got [] p
  unfolding data_at
  data_empty u p e = rw e

  pub data_shut : (k p j q : ℕ) → literal_at s at empty_tag ≡ bad k p → literal_at s at open_tag ≡ bad j q → data_at s at ≡ bad 7 at
  unfolding data_at
  data_shut k p j q e o = rw (e, o)

  module _ (k p i : ℕ) (u : Unit {0}) (e : literal_at s at empty_tag ≡ bad k p) (o : literal_at s at open_tag ≡ got u i) where
    pub data_none : (j q : ℕ) → text_at longest s i ≡ bad j q → data_at s at ≡ bad 7 at
    unfolding data_at
    data_none j q t = rw (e, o, t)

    pub data_open : (l : List ℕ) (q : ℕ) → text_at longest s i ≡ got l q → data_at s at ≡ closed_at s at l q
    unfolding data_at
    data_open l q t = rw (e, o, t)

-- ---- there
pub data_there : There data_c
unfolding write_data begins
data_there s at [] p g st = data_empty s at tt p (literal_there s at empty_tag p st)
data_there s at (b ∷ l) p g st =
    let a = b ∷ l in
    let ok = good_parts a g in
    let i : ℕ = at + 6 in
    let q : ℕ = i + length (spelled a) in
    let y = right s at open_tag (spelled a ++ close_tag) p st in
    let w = right s i (spelled a) close_tag p y in
    data_open s at 7 at i tt (literal_no s at empty_tag (ap (begins empty_tag) st.text)) (literal_there s at open_tag i (left s at open_tag (spelled a ++ close_tag) p st)) a q
    (text_there s longest a i q _ ok.0 ok.1 (left s i (spelled a) close_tag p y) w.text)
    ∙ ap (λ (x : Ans (Unit {0})). and_then at x (λ _ r. got a r)) (literal_there s q close_tag p w)

module _ (s : List ℕ) (at : ℕ) where
  -- what a text that was read, and is not empty, came from
  pub record Full (a : List ℕ) (p : ℕ) : Type 0 where
    pub after : ℕ
    pub open_found : literal_at s at open_tag ≡ got tt (at + 6)
    pub text_found : text_at longest s (at + 6) ≡ got a after
    pub close_found : literal_at s after close_tag ≡ got tt p

  closed_read : (l : List ℕ) (q : ℕ) (a : List ℕ) (p : ℕ) → closed_at s at l q ≡ got a p → (l ≡ a) × (literal_at s q close_tag ≡ got tt p)
  closed_read [] q a p e = let z : ◌≡◌ {A = ℕ} 0 1 = cc in absurd (omega arith)
  closed_read (b ∷ l) q a p e =
      let c = chain at (literal_at s q close_tag) _ _ _ e in
      let z : got (b ∷ l) c.1 ≡ got a p = c.3 in
      let k : c.1 ≡ p = cc in
      (cc, c.2 ∙ ap (got tt) k)

  full_read : (a : List ℕ) (p : ℕ) → full_at s at ≡ got a p → Full a p
  full_read a p e =
      let o = chain at (literal_at s at open_tag) _ _ _ e in
      let i : o.1 ≡ at + 6 = (literal_moves s at open_tag tt o.1 o.2).0 in
      let t = chain at (text_at longest s o.1) _ _ _ o.3 in
      let c = closed_read t.0 t.1 a p t.3 in
      record {
        after = t.1;
        open_found = o.2 ∙ ap (got tt) i;
        text_found = ap (text_at longest s) (sym i) ∙ t.2 ∙ ap (λ (l : List ℕ). got l t.1) c.0;
        close_found = c.1;
      }

  -- a text that was read is the empty one of <Data/>, or a full one
  pub by_data : (P : List ℕ → ℕ → Type 0) → ((p : ℕ) → literal_at s at empty_tag ≡ got tt p → P [] p) → ((a : List ℕ) (p : ℕ) → Full a p → P a p) → (a : List ℕ) (p : ℕ) → data_at s at ≡ got a p → P a p
  unfolding data_at
  by_data P empty full a p e = go (literal_at s at empty_tag) refl e
    where
      go : (y : Ans (Unit {0})) → literal_at s at empty_tag ≡ y → pick_first y [] (full_at s at) ≡ got a p → P a p
      go (got u q) i h =
          let k : q ≡ p = cc in
          let y : [] ≡ a = cc in
          subst (λ (v : List ℕ). P v p) y (empty p (i ∙ ap (got u) k))
      go (bad n q) i h = full a p (full_read a p h)

-- ---- moves
pub data_moves : Moves data_c
unfolding all_ok
data_moves s at =
    by_data s at (λ a p. Moved data_c s at a p)
    (λ p e. let m = literal_moves s at empty_tag tt p e in record { good = parts_good [] (omega arith) refl; forward = omega (arith, m.0); inside = m.1 })
    (λ a p f.
    let o = literal_moves s at open_tag tt (at + 6) f.open_found in
    let t = text_moves s longest (at + 6) a f.after o.1 f.text_found in
    let c = literal_moves s f.after close_tag tt p f.close_found in
    record { good = parts_good a t.few t.good; forward = omega (arith, t.on, c.0); inside = c.1 })

-- ---- again: a text that was read, however it was spelled, is written and read as the same text
pub data_again : Again data_c
data_again = again data_c data_there data_moves
