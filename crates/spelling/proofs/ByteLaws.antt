-- A byte of a text: what is written of it reads as that byte, and what reads is a byte that a text may hold.
-- Assumes nothing.
use Prim.Native.Nat.{ℕ, zero, suc, ◌+◌, ◌≤◌, ◌<◌}
use mathlib.Core.Path.{◌≡◌, refl, sym, ap, ◌∙◌, subst}
use mathlib.Core.Bool.{Bool, true, false, false≢true, ◌&&◌, not}
use mathlib.Core.List.{List, [], ◌∷◌, ◌++◌, append_assoc}
use native.Mathlib.Omega.{arith}
use native.Mathlib.Nat.{add-zero}
use lib.ListN.{length, drop, get_or}
use lib.Seq.{get_or-drop}
use lib.Dec.{eqb, ltb}
use borrow.Author.Tests.{ne_eqb, eqb-true, eqb-false, ltb-true}
use Rattle.token.specs.Ans.{Ans, got, bad, pick_first, Stands}
use Rattle.token.specs.Text.{bytes}
use Rattle.token.specs.Literal.{literal_at, begins}
use Rattle.token.proofs.LiteralLaws.{literal_there, literal_moves, literal_no}
use Rattle.token.proofs.NumberLaws.{both}
use Rattle.text.specs.Text.{ok_byte}
use Rattle.spelling.specs.Spelling.{references, reference_to, spell, spelled, first_reference, reference_at, plain_here, byte_at}

-- the bytes that have a reference
abbrev pub codes : List ℕ
codes = 38 ∷ 60 ∷ 62 ∷ 34 ∷ 39 ∷ []

-- ---- one reference after the other is looked for
pub next_reference : (s : List ℕ) (at i : ℕ) → i < 5 → first_reference (drop i references) s at ≡ pick_first (literal_at s at (reference_to (get_or codes i 0))) (get_or codes i 0) (first_reference (drop (i + 1) references) s at)
unfolding reference_to
next_reference s at zero h = refl
next_reference s at (suc zero) h = refl
next_reference s at (suc (suc zero)) h = refl
next_reference s at (suc (suc (suc zero))) h = refl
next_reference s at (suc (suc (suc (suc zero)))) h = refl
next_reference s at (suc (suc (suc (suc (suc n))))) h = absurd (omega arith)

-- ---- how a byte is written: by one of three references, or by itself
pub data Way (b : ℕ) : Type 0 where
  amp : 38 ≡ b → Way b
  lt : 60 ≡ b → Way b
  gt : 62 ≡ b → Way b
  itself : (b ≡ 38 → ⊥) → (b ≡ 60 → ⊥) → (b ≡ 62 → ⊥) → Way b

pub way : (b : ℕ) → Way b
way b = first (eqb b 38) refl
  where
    third : (b ≡ 38 → ⊥) → (b ≡ 60 → ⊥) → (x : Bool) → eqb b 62 ≡ x → Way b
    third m n true e = gt (sym (eqb-true b 62 e))
    third m n false e = itself m n (eqb-false b 62 e)

    second : (b ≡ 38 → ⊥) → (x : Bool) → eqb b 60 ≡ x → Way b
    second m true e = lt (sym (eqb-true b 60 e))
    second m false e = third m (eqb-false b 60 e) (eqb b 62) refl

    first : (x : Bool) → eqb b 38 ≡ x → Way b
    first true e = amp (sym (eqb-true b 38 e))
    first false e = second (eqb-false b 38 e) (eqb b 60) refl

pub spell_amp : spell 38 ≡ bytes "&amp;"
unfolding spell
spell_amp = refl

pub spell_lt : spell 60 ≡ bytes "&lt;"
unfolding spell
spell_lt = refl

pub spell_gt : spell 62 ≡ bytes "&gt;"
unfolding spell
spell_gt = refl

pub spell_itself : (b : ℕ) → (b ≡ 38 → ⊥) → (b ≡ 60 → ⊥) → (b ≡ 62 → ⊥) → spell b ≡ b ∷ []
unfolding spell
spell_itself b m n o = simp (ne_eqb b 38 m, ne_eqb b 60 n, ne_eqb b 62 o)

-- ---- no byte is written with > or with ] and > in front, so that ]]> is never written
begins_no : (x b : ℕ) (w l : List ℕ) → (b ≡ x → ⊥) → begins (x ∷ w) (b ∷ l) ≡ false
unfolding begins
begins_no x b w l n = simp (ne_eqb b x n)

-- what is written of a byte begins with & or with the byte itself, which is no >
front : (x : ℕ) (w : List ℕ) (b : ℕ) (l : List ℕ) → (38 ≡ x → ⊥) → ((b ≡ 62 → ⊥) → begins (x ∷ w) (b ∷ l) ≡ false) → begins (x ∷ w) (spell b ++ l) ≡ false
front x w b l n h = go (way b)
  where
    go : Way b → begins (x ∷ w) (spell b ++ l) ≡ false
    go (amp e) = subst (λ (c : ℕ). begins (x ∷ w) (spell c ++ l) ≡ false) e (rw spell_amp (begins_no x 38 w _ n))
    go (lt e) = subst (λ (c : ℕ). begins (x ∷ w) (spell c ++ l) ≡ false) e (rw spell_lt (begins_no x 38 w _ n))
    go (gt e) = subst (λ (c : ℕ). begins (x ∷ w) (spell c ++ l) ≡ false) e (rw spell_gt (begins_no x 38 w _ n))
    go (itself i j k) = rw (spell_itself b i j k) (h k)

and_false : (b : Bool) → (b && false) ≡ false
and_false true = refl
and_false false = refl

begins_next : (x b : ℕ) (w l : List ℕ) → begins w l ≡ false → begins (x ∷ w) (b ∷ l) ≡ false
unfolding begins
begins_next x b w l e = rw e (and_false (eqb b x))

-- ---- a byte by itself
module _ (s : List ℕ) (at : ℕ) where
  pub plain_yes : plain_here (drop at s) ≡ true → byte_at s at ≡ got (get_or s at 0) (at + 1)
  unfolding byte_at
  plain_yes e = simp e

  pub plain_no : plain_here (drop at s) ≡ false → byte_at s at ≡ reference_at s at
  unfolding byte_at
  plain_no e = simp e

  byte_itself : (b : ℕ) (l : List ℕ) → drop at s ≡ b ∷ l → plain_here (b ∷ l) ≡ true → byte_at s at ≡ got b (at + 1)
  byte_itself b l e h =
      let same : get_or s at 0 ≡ b = ap (λ (n : ℕ). get_or s n 0) (sym (add-zero at)) ∙ sym (get_or-drop at s 0 0) ∙ ap (λ (m : List ℕ). get_or m 0 0) e in
      plain_yes (ap plain_here e ∙ h) ∙ ap (λ (c : ℕ). got c (at + 1)) same

  -- & is not itself, so what begins with it is a reference
  byte_reference : (l : List ℕ) → drop at s ≡ 38 ∷ l → byte_at s at ≡ reference_at s at
  unfolding plain_here
  byte_reference l e = plain_no (ap plain_here e)

  -- which reference it is, by the first that stands there
  pub ref_amp : (u : Unit {0}) (p : ℕ) → literal_at s at (bytes "&amp;") ≡ got u p → reference_at s at ≡ got 38 p
  unfolding reference_at
  ref_amp u p e = rw e

  module _ (i j : ℕ) (amp-no : literal_at s at (bytes "&amp;") ≡ bad i j) where
    pub ref_lt : (u : Unit {0}) (p : ℕ) → literal_at s at (bytes "&lt;") ≡ got u p → reference_at s at ≡ got 60 p
    unfolding reference_at
    ref_lt u p e = rw (amp-no, e)

    module _ (k l : ℕ) (lt_no : literal_at s at (bytes "&lt;") ≡ bad k l) where
      pub ref_gt : (u : Unit {0}) (p : ℕ) → literal_at s at (bytes "&gt;") ≡ got u p → reference_at s at ≡ got 62 p
      unfolding reference_at
      ref_gt u p e = rw (amp-no, lt_no, e)

      module _ (m n : ℕ) (gt-no : literal_at s at (bytes "&gt;") ≡ bad m n) where
        module _ (o q : ℕ) (quot-no : literal_at s at (bytes "&quot;") ≡ bad o q) where
          pub ref_none : (v w : ℕ) → literal_at s at (bytes "&apos;") ≡ bad v w → reference_at s at ≡ bad 7 at
          unfolding reference_at
          ref_none v w e = rw (amp-no, lt_no, gt-no, quot-no, e)

  -- a reference begins with &
  pub no_reference : (b : ℕ) (l : List ℕ) → (b ≡ 38 → ⊥) → drop at s ≡ b ∷ l → reference_at s at ≡ bad 7 at
  no_reference b l n e = ref_none 7 at (other _) 7 at (other _) 7 at (other _) 7 at (other _) 7 at (other _)
    where
      other : (w : List ℕ) → literal_at s at (38 ∷ w) ≡ bad 7 at
      other w = literal_no s at (38 ∷ w) (ap (begins (38 ∷ w)) e ∙ begins_no 38 b w l n)

  -- a tag ends the text
  pub byte_none : (l : List ℕ) → drop at s ≡ 60 ∷ l → byte_at s at ≡ bad 7 at
  unfolding plain_here
  byte_none l e = plain_no (ap plain_here e) ∙ no_reference 60 l (λ q. omega arith) e

-- ---- what is written of a text, with a tag after it, has no ]]> in it
no_gt : (l t : List ℕ) → begins (62 ∷ []) (spelled l ++ (60 ∷ t)) ≡ false
unfolding spelled
no_gt [] t = begins_no 62 60 [] t (λ q. omega arith)
no_gt (b ∷ l) t = rw (append_assoc (spell b) (spelled l) (60 ∷ t)) (front 62 [] b _ (λ q. omega arith) (λ n. begins_no 62 b [] _ n))

no_end : (l t : List ℕ) → begins (93 ∷ 62 ∷ []) (spelled l ++ (60 ∷ t)) ≡ false
unfolding spelled
no_end [] t = begins_no 93 60 (62 ∷ []) t (λ q. omega arith)
no_end (b ∷ l) t = rw (append_assoc (spell b) (spelled l) (60 ∷ t)) (front 93 (62 ∷ []) b _ (λ q. omega arith) (λ n. after))
  where
    after : begins (93 ∷ 62 ∷ []) (b ∷ (spelled l ++ (60 ∷ t))) ≡ false
    after = begins_next 93 b (62 ∷ []) _ (no_gt l t)

plain_there : (b : ℕ) (m : List ℕ) → ok_byte b ≡ true → (b ≡ 38 → ⊥) → (b ≡ 60 → ⊥) → begins (bytes "]]>") (b ∷ m) ≡ false → plain_here (b ∷ m) ≡ true
unfolding plain_here
plain_there b m h i j e = simp (h, ne_eqb b 38 i, ne_eqb b 60 j, e)

-- ---- there: what is written of a byte reads as that byte, if more of a text and a tag come after it
pub byte_there : (s : List ℕ) (at b p : ℕ) (l t : List ℕ) → ok_byte b ≡ true → Stands s at (spell b) p → drop p s ≡ spelled l ++ (60 ∷ t) → byte_at s at ≡ got b p
unfolding begins
byte_there s at b p l t h st e = go (way b)
  where
    stands : {w : List ℕ} → spell b ≡ w → Stands s at w p
    stands {w} q = subst (λ (v : List ℕ). Stands s at v p) q st

    go : Way b → byte_at s at ≡ got b p
    go (amp q) = let n = stands (ap spell (sym q) ∙ spell_amp) in byte_reference s at _ n.text ∙ ref_amp s at tt p (literal_there s at (bytes "&amp;") p n) ∙ ap (λ (c : ℕ). got c p) q
    go (lt q) = let n = stands (ap spell (sym q) ∙ spell_lt) in byte_reference s at _ n.text ∙ ref_lt s at 7 at (literal_no s at (bytes "&amp;") (ap (begins (bytes "&amp;")) n.text)) tt p (literal_there s at (bytes "&lt;") p n) ∙ ap (λ (c : ℕ). got c p) q
    go (gt q) = let n = stands (ap spell (sym q) ∙ spell_gt) in byte_reference s at _ n.text ∙ ref_gt s at 7 at (literal_no s at (bytes "&amp;") (ap (begins (bytes "&amp;")) n.text)) 7 at (literal_no s at (bytes "&lt;") (ap (begins (bytes "&lt;")) n.text)) tt p (literal_there s at (bytes "&gt;") p n) ∙ ap (λ (c : ℕ). got c p) q
    go (itself i j k) =
        let n = stands (spell_itself b i j k) in
        let no : begins (bytes "]]>") (b ∷ drop p s) ≡ false = begins_next 93 b (93 ∷ 62 ∷ []) (drop p s) (ap (begins (93 ∷ 62 ∷ [])) e ∙ no_end l t) in
        byte_itself s at b (drop p s) n.text (plain_there b (drop p s) h i j no) ∙ ap (got b) (sym n.next)

-- ---- moves
-- each reference stands for a byte that a text may hold, and has some bytes
abbrev lawful : List (ℕ × List ℕ) → Bool
lawful [] = true
lawful (x ∷ l) = (ok_byte x.0 && ltb 0 (length x.1)) && lawful l

-- a byte that was read is one that a text may hold, and the reading goes forward and stays inside
pub record ByteMoves (s : List ℕ) (at b p : ℕ) : Type 0 where
  pub good : ok_byte b ≡ true
  pub forward : at < p
  pub inside : p ≤ length s

module _ (s : List ℕ) (at b p : ℕ) where
  first_moves : (l : List (ℕ × List ℕ)) → lawful l ≡ true → first_reference l s at ≡ got b p → ByteMoves s at b p
  first_moves [] g e = let z : ◌≡◌ {A = ℕ} 0 1 = cc in absurd (omega arith)
  first_moves (x ∷ l) g e = go (λ h. first_moves l (both (ok_byte x.0 && ltb 0 (length x.1)) (lawful l) g).1 h) (literal_at s at x.1) refl e
    where
      go : (first_reference l s at ≡ got b p → ByteMoves s at b p) → (y : Ans (Unit {0})) → literal_at s at x.1 ≡ y → pick_first y x.0 (first_reference l s at) ≡ got b p → ByteMoves s at b p
      go ih (got u q) i h =
          let w = both (ok_byte x.0) (ltb 0 (length x.1)) (both (ok_byte x.0 && ltb 0 (length x.1)) (lawful l) g).0 in
          let kb : x.0 ≡ b = cc in
          let kp : q ≡ p = cc in
          let m = literal_moves s at x.1 u q i in
          record { good = ap ok_byte (sym kb) ∙ w.0; forward = omega (arith, m.0, ltb-true 0 (length x.1) w.1); inside = omega (arith, m.1) }
      go ih (bad k q) i h = ih h

pub plain_moves : (s : List ℕ) (at : ℕ) → plain_here (drop at s) ≡ true → ByteMoves s at (get_or s at 0) (at + 1)
unfolding plain_here
plain_moves [] zero e = absurd (false≢true e)
plain_moves [] (suc at) e = absurd (false≢true e)
plain_moves (b ∷ s) zero e =
    let u = both (ok_byte b && not (eqb b 38) && not (eqb b 60)) (not (begins (bytes "]]>") (b ∷ s))) e in
    let v = both (ok_byte b && not (eqb b 38)) (not (eqb b 60)) u.0 in
    record { good = (both (ok_byte b) (not (eqb b 38)) v.0).0; forward = omega arith; inside = omega arith }
plain_moves (b ∷ s) (suc at) e = let m = plain_moves s at e in record { good = m.good; forward = omega (arith, m.forward); inside = omega (arith, m.inside) }

pub byte_moves : (s : List ℕ) (at b p : ℕ) → byte_at s at ≡ got b p → ByteMoves s at b p
unfolding reference_at
byte_moves s at b p e = go (plain_here (drop at s)) refl
  where
    go : (x : Bool) → plain_here (drop at s) ≡ x → ByteMoves s at b p
    go true q =
        let r : got (get_or s at 0) (at + 1) ≡ got b p = sym (plain_yes s at q) ∙ e in
        let kb : get_or s at 0 ≡ b = cc in
        let kp : at + 1 ≡ p = cc in
        let m = plain_moves s at q in
        record { good = ap ok_byte (sym kb) ∙ m.good; forward = omega (arith, m.forward); inside = omega (arith, m.inside) }
    go false q = first_moves s at b p references refl (sym (plain_no s at q) ∙ e)
