-- A word is read exactly where it stands with a quote after it.
-- Assumes nothing.
use Prim.Native.Nat.{ℕ, zero, suc, ◌+◌, ◌-◌, ◌≤◌, ◌<◌}
use mathlib.Core.Path.{◌≡◌, refl, sym, ap, ◌∙◌, subst}
use mathlib.Core.Bool.{Bool, true, false, false≢true, ◌&&◌, not}
use mathlib.Core.List.{List, [], ◌∷◌, ◌++◌}
use native.Mathlib.Omega.{arith}
use native.Mathlib.Numerals.{add-one}
use lib.ListN.{length, drop}
use lib.Dec.{eqb}
use borrow.Author.Tests.{eqb-true, eqb-false}
use Rattle.token.specs.Ans.{Ans, got, bad, pick_first, Stands}
use Rattle.token.specs.Literal.{literal_at, begins}
use Rattle.token.proofs.LiteralLaws.{literal_yes, literal_no, literal_moves}
use Rattle.token.proofs.NumberLaws.{both}
use Rattle.words.specs.Words.{word_of, word_at}
use Rattle.words.proofs.WordTests.{finds, plain, told_apart}

word_find : (n k v : ℕ) (s : List ℕ) (at : ℕ) → at ≤ length s → finds n k v (drop at s) ≡ true → word_at n k s at ≡ got v (at + length (word_of v))
unfolding finds word_at
word_find zero k v s at h e = absurd (false≢true e)
word_find (suc n) k v s at h e = go (λ q. word_find n (suc k) v s at h q) (begins (word_of k) (drop at s)) refl
  where
    go : (finds n (suc k) v (drop at s) ≡ true → word_at n (suc k) s at ≡ got v (at + length (word_of v))) → (x : Bool) → begins (word_of k) (drop at s) ≡ x
        → pick_first (literal_at s at (word_of k)) k (word_at n (suc k) s at) ≡ got v (at + length (word_of v))
    go ih true q =
        let r : eqb k v ≡ true = simp q at e in
        rw (literal_yes s at (word_of k) h q) (ap (λ y. got y (at + length (word_of y))) (eqb-true k v r))
    go ih false q = rw (literal_no s at (word_of k) q) (ih (simp q at e))

-- a word that was read is one of them, and its text was found there
record WordRead (n k : ℕ) (s : List ℕ) (at v p : ℕ) : Type 0 where
  low : k ≤ v
  high : v < k + n
  found : literal_at s at (word_of v) ≡ got tt p

word_read : (n k : ℕ) (s : List ℕ) (at v p : ℕ) → word_at n k s at ≡ got v p → WordRead n k s at v p
unfolding word_at
word_read zero k s at v p e = let z : ◌≡◌ {A = ℕ} 0 1 = cc in absurd (omega arith)
word_read (suc n) k s at v p e = go (λ q. word_read n (suc k) s at v p q) (literal_at s at (word_of k)) refl e
  where
    go : (word_at n (suc k) s at ≡ got v p → WordRead n (suc k) s at v p) → (x : Ans (Unit {0})) → literal_at s at (word_of k) ≡ x
        → pick_first x k (word_at n (suc k) s at) ≡ got v p → WordRead (suc n) k s at v p
    go ih (got u q) i h =
        let kp : q ≡ p = cc in
        let kv : k ≡ v = cc in
        record { low = omega arith; high = omega arith; found = subst (λ y. literal_at s at (word_of y) ≡ got tt p) kv (i ∙ ap (got u) kp) }
    go ih (bad m q) i h = let r = ih h in record { low = omega (arith, r.low); high = omega (arith, r.high); found = r.found }

-- the reading goes on by the word's length, and stays inside
pub word_moves : (n k : ℕ) (s : List ℕ) (at v p : ℕ) → word_at n k s at ≡ got v p → (k ≤ v) × (v < k + n) × (p ≡ at + length (word_of v)) × (p ≤ length s)
word_moves n k s at v p e =
    let r = word_read n k s at v p e in
    let m = literal_moves s at (word_of v) tt p r.found in
    (r.low, r.high, m.0, m.1)

begins_quote : (w l t : List ℕ) → plain w ≡ true → begins w (l ++ (34 ∷ t)) ≡ begins w (l ++ (34 ∷ []))
unfolding begins plain
begins_quote [] l t e = refl
begins_quote (x ∷ w) [] t e = go (eqb x 34) refl
  where
    go : (b : Bool) → eqb x 34 ≡ b → eqb 34 x && begins w t ≡ eqb 34 x && begins w []
    go true q = absurd (false≢true (simp q at (both (not (eqb x 34)) (plain w) e).0))
    go false q = go2 (eqb 34 x) refl
      where
        go2 : (b : Bool) → eqb 34 x ≡ b → b && begins w t ≡ b && begins w []
        go2 false r = refl
        go2 true r = absurd (false≢true (sym q ∙ ap (λ (y : ℕ). eqb y 34) (sym (eqb-true 34 x r))))
begins_quote (x ∷ w) (y ∷ l) t e = ap (λ (b : Bool). eqb y x && b) (begins_quote w l t (both (not (eqb x 34)) (plain w) e).1)

finds_quote : (n k v : ℕ) (l t : List ℕ) → ((j : ℕ) → k ≤ j → j < k + n → plain (word_of j) ≡ true) → finds n k v (l ++ (34 ∷ t)) ≡ finds n k v (l ++ (34 ∷ []))
unfolding finds
finds_quote zero k v l t h = refl
finds_quote (suc n) k v l t h =
    rw (begins_quote (word_of k) l t (h k (omega arith) (omega arith)), finds_quote n (suc k) v l t (λ j a b. h j (omega arith) (omega arith)))

apart_at : (n k m v : ℕ) → told_apart n k m v ≡ true → (j : ℕ) → v ≤ j → j < v + m → (plain (word_of j) ≡ true) × (finds n k j (word_of j ++ (34 ∷ [])) ≡ true)
unfolding told_apart
apart_at n k zero v e j a b = absurd (omega arith)
apart_at n k (suc m) v e j a b =
    let x = both (plain (word_of v) && finds n k v (word_of v ++ (34 ∷ []))) (told_apart n k m (suc v)) e in
    let y = both (plain (word_of v)) (finds n k v (word_of v ++ (34 ∷ []))) x.0 in
    go y.0 y.1 (λ c d. apart_at n k m (suc v) x.1 j c d) (eqb v j) refl
  where
    go : plain (word_of v) ≡ true → finds n k v (word_of v ++ (34 ∷ [])) ≡ true → (suc v ≤ j → j < suc v + m → (plain (word_of j) ≡ true) × (finds n k j (word_of j ++ (34 ∷ [])) ≡ true))
        → (x : Bool) → eqb v j ≡ x → (plain (word_of j) ≡ true) × (finds n k j (word_of j ++ (34 ∷ [])) ≡ true)
    go p f ih true q = subst (λ y. (plain (word_of y) ≡ true) × (finds n k y (word_of y ++ (34 ∷ [])) ≡ true)) (eqb-true v j q) (p, f)
    go p f ih false q = let ne = eqb-false v j q in ih (omega (arith, ne)) (omega arith)

pub word_there : (n k v : ℕ) (s : List ℕ) (at p : ℕ) (t : List ℕ) → told_apart n k n k ≡ true → k ≤ v → v < k + n → Stands s at (word_of v) p → drop p s ≡ 34 ∷ t → word_at n k s at ≡ got v p
word_there n k v s at p t e a b st q =
    let x = apart_at n k n k e in
    let f : finds n k v (drop at s) ≡ true = ap (finds n k v) (st.text ∙ ap (λ (l : List ℕ). word_of v ++ l) q) ∙ finds_quote n k v (word_of v) t (λ j c d. (x j c d).0) ∙ (x v a b).1 in
    word_find n k v s at (omega (arith, st.next, st.within)) f ∙ ap (got v) (sym st.next)

pub word_turn : (e i : ℕ) (s : List ℕ) (at : ℕ) → i < e → word_at (e - i) i s at ≡ pick_first (literal_at s at (word_of i)) i (word_at (e - (i + 1)) (i + 1) s at)
unfolding word_at
word_turn e i s at h = let j : e - i ≡ suc (e - (i + 1)) = omega arith in rw (j, add-one)

pub word_end : (e i : ℕ) (s : List ℕ) (at : ℕ) → e ≤ i → word_at (e - i) i s at ≡ bad 7 at
unfolding word_at
word_end e i s at h = let j : e - i ≡ 0 = omega arith in rw j
