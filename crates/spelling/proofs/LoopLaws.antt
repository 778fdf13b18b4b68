-- The loops over a text: counted and kept as it is read, put and measured as it is written.
-- Assumes nothing.
use Prim.Native.Nat.{ℕ, zero, suc, ◌+◌, ◌-◌, ◌≤◌, ◌<◌, min}
use mathlib.Core.Path.{◌≡◌, refl, sym, ap, ap₂, ◌∙◌}
use mathlib.Core.List.{List, [], ◌∷◌, ◌++◌, append_assoc, append-nil}
use native.Mathlib.Omega.{arith}
use native.Mathlib.Nat.{add-zero}
use native.Mathlib.Numerals.{add-one}
use lib.ListN.{length, take, drop, get_or, set, replicate, length-take, length-drop, length-append}
use lib.Seq.{take-suc, take-take, drop-drop, get_or-drop}
use Rattle.token.specs.Ans.{Ans, got, bad, keep}
use Rattle.text.specs.Text.{longest, kept, bytes_of}
use Rattle.text.specs.declared.Text.{Text}
use Rattle.text.proofs.KeptLaws.{by_room, filled, filled_step, filled_all}
use Rattle.spelling.specs.Spelling.{spell, spelled, byte_at, text_at}
use Rattle.spelling.specs.Part.{count_at, followed, bytes_at}
use Rattle.spelling.proofs.TextLaws.{text_over, text_more, text_long}

-- ---- n bytes are counted, and x is the text from there on
abbrev pub counted : ℕ → Ans (List ℕ) → Ans ℕ
counted n x = keep x (λ l q. got (n + length l) q)

count_sum : (n b : ℕ) (x : Ans (List ℕ)) → counted n (keep x (λ l q. got (b ∷ l) q)) ≡ counted (n + 1) x
count_sum n b (got l q) = let e : n + suc (length l) ≡ n + 1 + length l = omega arith in ap (λ (m : ℕ). got m q) e
count_sum n b (bad k q) = refl

count_zero : (x : Ans (List ℕ)) → keep x (λ l q. got (length l) q) ≡ counted 0 x
count_zero (got l q) = let e : length l ≡ 0 + length l = omega arith in ap (λ (m : ℕ). got m q) e
count_zero (bad k q) = refl

pub count_none : (s : List ℕ) (at : ℕ) → count_at longest s at ≡ counted 0 (text_at longest s at)
unfolding count_at
count_none s at = count_zero (text_at longest s at)

module _ (s : List ℕ) (p n : ℕ) where
  pub count_over : (m k q : ℕ) → byte_at s p ≡ bad k q → counted n (text_at m s p) ≡ got n p
  count_over m k q e = ap (counted n) (text_over s p m k q e) ∙ (let z : n + 0 ≡ n = omega arith in ap (λ (i : ℕ). got i p) z)

  module _ (b q : ℕ) (e : byte_at s p ≡ got b q) where
    pub count_long : longest ≤ n → counted n (text_at (longest - n) s p) ≡ bad 7 p
    count_long h = let z : longest - n ≡ 0 = omega arith in rw z (ap (counted n) (text_long s p b q e))

    pub count_more : n < longest → counted n (text_at (longest - n) s p) ≡ counted (n + 1) (text_at (longest - (n + 1)) s q)
    count_more h = let z : longest - n ≡ suc (longest - (n + 1)) = omega arith in rw z (ap (counted n) (text_more s p (longest - (n + 1)) b q e) ∙ count_sum n b (text_at (longest - (n + 1)) s q))

-- ---- bytes of a text that is spelled from a place on: the next one, or none
bytes_cut : (j m : ℕ) (s : List ℕ) (p : ℕ) → j ≤ m → take j (bytes_at m s p) ≡ bytes_at j s p
unfolding bytes_at
bytes_cut zero m s p h = refl
bytes_cut (suc j) zero s p h = absurd (omega arith)
bytes_cut (suc j) (suc m) s p h = go (λ q. bytes_cut j m s q (omega arith)) (byte_at s p)
  where
    go : ((q : ℕ) → take j (bytes_at m s q) ≡ bytes_at j s q) → (x : Ans ℕ) → take (suc j) (followed x (bytes_at m s)) ≡ followed x (bytes_at j s)
    go ih (got b q) = ap (λ (l : List ℕ). b ∷ l) (ih q)
    go ih (bad k q) = refl

bytes_over : (n : ℕ) (s : List ℕ) (p k q : ℕ) → byte_at s p ≡ bad k q → bytes_at n s p ≡ []
unfolding bytes_at
bytes_over zero s p k q e = refl
bytes_over (suc n) s p k q e = rw e

bytes_more : (m n : ℕ) (s : List ℕ) (p b q : ℕ) → n < m → byte_at s p ≡ got b q → bytes_at (m - n) s p ≡ b ∷ bytes_at (m - (n + 1)) s q
unfolding bytes_at
bytes_more m n s p b q h e = let z : m - n ≡ suc (m - (n + 1)) = omega arith in rw (z, e)

length_bytes : (n : ℕ) (s : List ℕ) (p : ℕ) → length (bytes_at n s p) ≤ n
unfolding bytes_at
length_bytes zero s p = omega arith
length_bytes (suc n) s p = go (λ q. length_bytes n s q) (byte_at s p)
  where
    go : ((q : ℕ) → length (bytes_at n s q) ≤ n) → (x : Ans ℕ) → length (followed x (bytes_at n s)) ≤ suc n
    go ih (got b q) = omega (arith, ih q)
    go ih (bad k q) = omega arith

-- of a text no more is kept than there is room for
pub kept_cut : (s : List ℕ) (p m n : ℕ) → n ≡ min m longest → kept (bytes_at n s p) ≡ kept (bytes_at m s p)
kept_cut s p m n e =
    by_room m n e
    (λ k h. ap (λ (i : ℕ). kept (bytes_at i s p)) k)
    (λ k h.
    let l : List ℕ = bytes_at m s p in
    let first : bytes_at n s p ≡ take longest l = ap (λ (i : ℕ). bytes_at i s p) k ∙ sym (bytes_cut longest m s p (omega arith)) in
    ap kept first ∙ ap (λ (t : List ℕ). record { len = length t; bytes = t ++ replicate (longest - length t) 0 }) (take-take longest longest l (omega arith)))

-- ---- n bytes of the first `most` of the text that is spelled at p₀ are kept, and the next one is spelled at p
pub record Keeping (s : List ℕ) (p₀ most : ℕ) (bytes : List ℕ) (n p : ℕ) : Type 0 where
  pub few : n ≤ most
  pub within : n ≤ length (bytes_at most s p₀)
  pub held : bytes ≡ filled (bytes_at most s p₀) n
  pub rest : drop n (bytes_at most s p₀) ≡ bytes_at (most - n) s p

module _ (s : List ℕ) (p₀ most : ℕ) where
  pub keeping_none : Keeping s p₀ most (replicate longest 0) 0 p₀
  keeping_none = let z : most ≡ most - 0 = omega arith in record { few = omega arith; within = omega arith; held = refl; rest = ap (λ (i : ℕ). bytes_at i s p₀) z }

  abbrev L : List ℕ
  L = bytes_at most s p₀

  -- the last byte is kept
  all : (m n : ℕ) (bytes : List ℕ) → most ≡ min m longest → n ≤ length L → bytes ≡ filled L n → drop n L ≡ [] → record { len = n; bytes = bytes } ≡ kept (bytes_at m s p₀)
  all m n bytes e w h z =
      let k = ap length z in
      let d = length-drop n L in
      let few : length L ≤ longest = omega (arith, length_bytes most s p₀) in
      ap (λ (b : List ℕ). record { len = n; bytes = b }) h ∙ filled_all L n (omega arith) ∙ kept_cut s p₀ m most e

  module _ (bytes : List ℕ) (n p : ℕ) (r : Keeping s p₀ most bytes n p) where
    pub keeping_over : (m k q : ℕ) → most ≡ min m longest → byte_at s p ≡ bad k q → record { len = n; bytes = bytes } ≡ kept (bytes_at m s p₀)
    keeping_over m k q e i = all m n bytes e r.within r.held (r.rest ∙ bytes_over (most - n) s p k q i)

    pub keeping_full : (m : ℕ) → most ≡ min m longest → most ≤ n → record { len = n; bytes = bytes } ≡ kept (bytes_at m s p₀)
    unfolding bytes_at
    keeping_full m e h = let z : most - n ≡ 0 = omega arith in all m n bytes e r.within r.held (r.rest ∙ ap (λ (i : ℕ). bytes_at i s p) z)

    pub keeping_more : (b q : ℕ) → n < most → most ≤ longest → byte_at s p ≡ got b q → Keeping s p₀ most (set bytes n b) (n + 1) q
    keeping_more b q h k i =
        let front : drop n L ≡ b ∷ bytes_at (most - (n + 1)) s q = r.rest ∙ bytes_more most n s p b q h i in
        let long = ap length front in
        let w : n < length L = omega (arith, long, length-drop n L) in
        let same : get_or L n 0 ≡ b = ap (λ (j : ℕ). get_or L j 0) (sym (add-zero n)) ∙ sym (get_or-drop n L 0 0) ∙ ap (λ (m : List ℕ). get_or m 0 0) front in
        record {
          few = omega arith;
          within = omega arith;
          held = ap₂ (λ (l : List ℕ) (c : ℕ). set l n c) r.held (sym same) ∙ filled_step L n w (omega arith);
          rest = sym (drop-drop 1 n L) ∙ ap (drop 1) front;
        }

-- ---- what is written of the first i bytes of a text
spelled_append : (l m : List ℕ) → spelled (l ++ m) ≡ spelled l ++ spelled m
unfolding spelled
spelled_append [] m = refl
spelled_append (b ∷ l) m = ap (λ (t : List ℕ). spell b ++ t) (spelled_append l m) ∙ sym (append_assoc (spell b) (spelled l) (spelled m))

pub spelled_none : spelled [] ≡ []
unfolding spelled
spelled_none = refl

pub spelled_turn : (l : List ℕ) (i : ℕ) → i < length l → spelled (take (i + 1) l) ≡ spelled (take i l) ++ spell (get_or l i 0)
unfolding spelled
spelled_turn l i h = rw (add-one i) (ap spelled (take-suc l i 0 h)) ∙ spelled_append (take i l) (get_or l i 0 ∷ []) ∙ ap (λ (t : List ℕ). spelled (take i l) ++ t) (append-nil (spell (get_or l i 0)))

-- and how long it is
pub spelled_length : (l : List ℕ) (i : ℕ) → i < length l → length (spelled (take (i + 1) l)) ≡ length (spelled (take i l)) + length (spell (get_or l i 0))
spelled_length l i h = ap length (spelled_turn l i h) ∙ length-append (spelled (take i l)) (spell (get_or l i 0))

-- a text has bytes unless its length is 0
pub no_bytes : (t : Text) → t.len ≡ 0 → length (bytes_of t) ≡ 0
no_bytes t e = omega (arith, length-take t.len t.bytes)

pub some_bytes : (t : Text) → length t.bytes ≡ longest → (t.len ≡ 0 → ⊥) → length (bytes_of t) ≡ 0 → ⊥
some_bytes t h n z = omega (arith, length-take t.len t.bytes, n)
