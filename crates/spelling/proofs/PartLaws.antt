-- Where a text is spelled: the part that is read tells the text that is read.
-- Assumes nothing.
use Prim.Native.Nat.{ℕ, zero, suc, ◌+◌}
use mathlib.Core.Path.{◌≡◌, refl, sym, ap, ap₂, ◌∙◌, subst}
use mathlib.Core.List.{List, [], ◌∷◌}
use native.Mathlib.Omega.{arith}
use lib.ListN.{length}
use Rattle.token.specs.Ans.{Ans, got, bad, keep}
use Rattle.token.specs.Literal.{literal_at}
use Rattle.token.proofs.LiteralLaws.{literal_moves}
use Rattle.token.proofs.StandsLaws.{kept}
use Rattle.text.specs.Text.{longest}
use Rattle.spelling.specs.Spelling.{byte_at, one_more, text_at}
use Rattle.spelling.specs.Data.{open_tag, close_tag, empty_tag, data_at}
use Rattle.spelling.specs.Part.{count_at, part_of, part_at, bytes_at, text_in}
use Rattle.spelling.proofs.DataLaws.{data_empty, data_shut, data_none, data_open, by_data}

-- as many bytes as the text has are the text
pub text_bytes : (s : List ℕ) (n at : ℕ) (l : List ℕ) (p : ℕ) → text_at n s at ≡ got l p → bytes_at (length l) s at ≡ l
unfolding text_at bytes_at
text_bytes s zero at l p e = go (byte_at s at) e
  where
    go : (x : Ans ℕ) → one_more x at (λ q. bad 7 at) ≡ got l p → bytes_at (length l) s at ≡ l
    go (got b q) i = let z : ◌≡◌ {A = ℕ} 0 1 = cc in absurd (omega arith)
    go (bad k q) i = let none : [] ≡ l = cc in subst (λ (m : List ℕ). bytes_at (length m) s at ≡ m) none refl
text_bytes s (suc n) at l p e = go (λ q m. text_bytes s n q m) (byte_at s at) refl e
  where
    go : ((q : ℕ) (m : List ℕ) (r : ℕ) → text_at n s q ≡ got m r → bytes_at (length m) s q ≡ m) → (x : Ans ℕ) → byte_at s at ≡ x → one_more x at (text_at n s) ≡ got l p → bytes_at (length l) s at ≡ l
    go ih (got b q) i j =
        let c = kept (text_at n s q) _ l p j in
        let z : got (b ∷ c.0) c.1 ≡ got l p = c.3 in
        let same : b ∷ c.0 ≡ l = cc in
        subst (λ (m : List ℕ). bytes_at (length m) s at ≡ m) same (rw i (ap (λ (m : List ℕ). b ∷ m) (ih q c.0 c.1 c.2)))
    go ih (bad k q) i j = let none : [] ≡ l = cc in subst (λ (m : List ℕ). bytes_at (length m) s at ≡ m) none refl

module _ (s : List ℕ) (at : ℕ) where
  part_text : (a : List ℕ) (p : ℕ) → data_at s at ≡ got a p → text_in s (part_of at a) ≡ a
  unfolding bytes_at
  part_text = by_data s at (λ a p. text_in s (part_of at a) ≡ a) (λ p e. refl) (λ a p f. full a (text_bytes s _ (at + 6) a f.after f.text_found))
    where
      full : (a : List ℕ) → bytes_at (length a) s (at + 6) ≡ a → text_in s (part_of at a) ≡ a
      full [] e = refl
      full (b ∷ l) e = e

  -- the part that was read is the text that was read
  pub data_in : data_at s at ≡ keep (part_at s at) (λ x p. got (text_in s x) p)
  unfolding part_at
  data_in = go (data_at s at) refl
    where
      go : (y : Ans (List ℕ)) → data_at s at ≡ y → y ≡ keep (keep y (λ l p. got (part_of at l) p)) (λ x p. got (text_in s x) p)
      go (got a p) e = ap (λ (l : List ℕ). got l p) (sym (part_text a p e))
      go (bad k p) e = refl

-- ---- which part is read, by the tags and the count
module _ (s : List ℕ) (at : ℕ) where
  part_by : {y : Ans (List ℕ)} → data_at s at ≡ y → part_at s at ≡ keep y (λ l p. got (part_of at l) p)
  unfolding part_at
  part_by e = ap (λ (y : Ans (List ℕ)). keep y (λ l p. got (part_of at l) p)) e

  pub part_empty : (u : Unit {0}) (p : ℕ) → literal_at s at empty_tag ≡ got u p → part_at s at ≡ got (record { start = at; len = 0 }) p
  part_empty u p e = part_by (data_empty s at u p e)

  pub part_shut : (k p j q : ℕ) → literal_at s at empty_tag ≡ bad k p → literal_at s at open_tag ≡ bad j q → part_at s at ≡ bad 7 at
  part_shut k p j q e o = part_by (data_shut s at k p j q e o)

  -- the text whose bytes were counted
  count_got : (i n q : ℕ) → count_at longest s i ≡ got n q → (l : List ℕ) × (text_at longest s i ≡ got l q) × (length l ≡ n)
  unfolding count_at
  count_got i n q e =
      let c = kept (text_at longest s i) _ n q e in
      let z : got (length c.0) c.1 ≡ got n q = c.3 in
      let k : c.1 ≡ q = cc in
      (c.0, c.2 ∙ ap (got c.0) k, cc)

  count_bad : (i j q : ℕ) → count_at longest s i ≡ bad j q → text_at longest s i ≡ bad j q
  unfolding count_at
  count_bad i j q e = go (text_at longest s i) e
    where
      go : (x : Ans (List ℕ)) → keep x (λ l p. got (length l) p) ≡ bad j q → x ≡ bad j q
      go (got l p) h = let z : ◌≡◌ {A = ℕ} 0 1 = cc in absurd (omega arith)
      go (bad k p) h = let x : k ≡ j = cc in let y : p ≡ q = cc in ap₂ (λ (m n : ℕ). bad m n) x y

  module _ (k p i : ℕ) (u : Unit {0}) (e : literal_at s at empty_tag ≡ bad k p) (o : literal_at s at open_tag ≡ got u i) where
    pub part_none : (j q : ℕ) → count_at longest s i ≡ bad j q → part_at s at ≡ bad 7 at
    part_none j q c = part_by (data_none s at k p i u e o j q (count_bad i j q c))

    module _ (n q : ℕ) (c : count_at longest s i ≡ got n q) where
      pub part_zero : n ≡ 0 → part_at s at ≡ bad 7 at
      part_zero z = let t = count_got i n q c in go t.0 t.1 t.2
        where
          go : (l : List ℕ) → text_at longest s i ≡ got l q → length l ≡ n → part_at s at ≡ bad 7 at
          go [] t m = part_by (data_open s at k p i u e o [] q t)
          go (b ∷ l) t m = absurd (omega arith)

      module _ (some : n ≡ 0 → ⊥) where
        pub part_open : (j r : ℕ) → literal_at s q close_tag ≡ bad j r → part_at s at ≡ bad 7 at
        part_open j r d = let t = count_got i n q c in go t.0 t.1 t.2
          where
            go : (l : List ℕ) → text_at longest s i ≡ got l q → length l ≡ n → part_at s at ≡ bad 7 at
            go [] t m = absurd (some (sym m))
            go (b ∷ l) t m = part_by {y = bad 7 at} (data_open s at k p i u e o (b ∷ l) q t ∙ rw d)

        pub part_full : (v : Unit {0}) (r : ℕ) → literal_at s q close_tag ≡ got v r → part_at s at ≡ got (record { start = i; len = n }) r
        part_full v r d = let t = count_got i n q c in go t.0 t.1 t.2
          where
            go : (l : List ℕ) → text_at longest s i ≡ got l q → length l ≡ n → part_at s at ≡ got (record { start = i; len = n }) r
            go [] t m = absurd (some (sym m))
            go (b ∷ l) t m =
                let begin = (literal_moves s at open_tag u i o).0 in
                part_by {y = got (b ∷ l) r} (data_open s at k p i u e o (b ∷ l) q t ∙ rw d) ∙ ap₂ (λ (x y : ℕ). got (record { start = x; len = y }) r) (sym begin) m
