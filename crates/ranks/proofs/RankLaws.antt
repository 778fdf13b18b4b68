-- What the order of a row says of any two of its elements, that no LUID stands twice, and where the Deletes stand. Assumes nothing.
use Prim.Native.Nat.{ℕ, suc, ◌≤◌}
use mathlib.Core.Path.{◌≡◌, refl, sym, ap, ◌∙◌}
use mathlib.Core.Bool.{Bool, true, false, cond, not, ◌&&◌, ◌||◌, false≢true, and-eq-true_iff}
use mathlib.Core.List.{List, [], ◌∷◌}
use native.Mathlib.Omega.{arith}
use lib.Dec.{eqb, ltb}
use lib.ListN.{take, drop}
use borrow.Author.Tests.{eqb-true, eqb-false, ne_eqb, ltb-true, not-true}
use Rattle.lists.specs.declared.Entry.{Entry}
use Rattle.places.proofs.Every.{Every, Pairs, every}
use Rattle.statuses.specs.declared.Name.{Name}
use Rattle.statuses.specs.declared.Name.TheVariants.{Delete, Replace, Add}
use Rattle.ranks.specs.declared.Row.{Row}
use Rattle.ranks.specs.declared.Row.TheVariants.{PressCommands}
use Rattle.ranks.specs.Rank.{rank_of, name_in, rank_in, same_name, before, ranked, same_luid, some_same, luids_once}

-- ---- a relation that each two neighbours have, and that goes on from one to the next
module _ (k : Row) (R : Entry → Entry → Type 0) (far : (x y z : Entry) → R x y → R y z → R x z) (near : (x y : Entry) → before k x y ≡ true → R x y) where
  above : (x : Entry) (xs : List Entry) → ranked k (x ∷ xs) ≡ true → Every (R x) xs
  unfolding ranked
  above x [] e = tt
  above x (y ∷ ys) e =
      let both = (and-eq-true_iff (before k x y) (ranked k (y ∷ ys))).0 e in
      let h : R x y = near x y both.0 in
      (h, every (R y) (R x) (λ z q. far x y z h q) ys (above y ys both.1))

ranked_tail : (k : Row) (x : Entry) (xs : List Entry) → ranked k (x ∷ xs) ≡ true → ranked k xs ≡ true
unfolding ranked
ranked_tail k x [] e = refl
ranked_tail k x (y ∷ ys) e = ((and-eq-true_iff (before k x y) (ranked k (y ∷ ys))).0 e).1

-- no name stands after one that comes later in the order
pub names_rise : (k : Row) (x : Entry) (xs : List Entry) → ranked k (x ∷ xs) ≡ true → Every (λ (y : Entry). rank_in k x ≤ rank_in k y) xs
names_rise k = above k (λ (x y : Entry). rank_in k x ≤ rank_in k y) (λ x y z p q. omega arith) (λ x y e. go x y (eqb (rank_in k x) (rank_in k y)) refl e)
  where
    go : (x y : Entry) (b : Bool) → eqb (rank_in k x) (rank_in k y) ≡ b → cond b (same_name k x y) (ltb (rank_in k x) (rank_in k y)) ≡ true → rank_in k x ≤ rank_in k y
    go x y true q e = omega (arith, eqb-true (rank_in k x) (rank_in k y) q)
    go x y false q e = omega (arith, ltb-true (rank_in k x) (rank_in k y) e)

-- ---- no LUID twice: where both have one, they differ
abbrev pub OtherLuid : Entry → Entry → Type 0
OtherLuid x y = (x.fields.luid.0 ≡ 0 → ⊥) → x.fields.luid.0 ≡ y.fields.luid.0 → ⊥

or_first : (a b : Bool) → (a || b) ≡ false → a ≡ false
or_first true b e = e
or_first false b e = refl

or_rest : (a b : Bool) → (a || b) ≡ false → b ≡ false
or_rest true b e = absurd (false≢true (sym e))
or_rest false b e = e

other_luid : (x y : Entry) → same_luid x y ≡ false → OtherLuid x y
other_luid x y e has =
    eqb-false x.fields.luid.0 y.fields.luid.0
    (sym (ap (λ (b : Bool). not b && eqb x.fields.luid.0 y.fields.luid.0) (ne_eqb x.fields.luid.0 0 has)) ∙ e)

none_same : (x : Entry) (xs : List Entry) → some_same x xs ≡ false → Every (OtherLuid x) xs
unfolding some_same
none_same x [] e = tt
none_same x (y ∷ ys) e = (other_luid x y (or_first (same_luid x y) (some_same x ys) e), none_same x ys (or_rest (same_luid x y) (some_same x ys) e))

pub luids_differ : (xs : List Entry) → luids_once xs ≡ true → Pairs OtherLuid xs
unfolding luids_once
luids_differ [] e = tt
luids_differ (x ∷ xs) e =
    let both = (and-eq-true_iff (not (some_same x xs)) (luids_once xs)).0 e in
    (none_same x xs (not-true (some_same x xs) both.0), luids_differ xs both.1)

-- ---- the press's Deletes stand first
abbrev pub is_delete : Name → Bool
is_delete Delete = true
is_delete Replace = false
is_delete Add = false

-- each of them is one, or none is
abbrev pub DeletesAre : Bool → List Entry → Type 0
DeletesAre b xs = Every (λ (x : Entry). is_delete (name_in x) ≡ b) xs

-- how many stand in front
unfoldable pub deletes : List Entry → ℕ
deletes [] = 0
deletes (x ∷ xs) = cond (is_delete (name_in x)) (suc (deletes xs)) 0

-- all of these, and none of the others
pub deletes_front : (xs : List Entry) → DeletesAre true (take (deletes xs) xs)
unfolding deletes
deletes_front [] = tt
deletes_front (x ∷ xs) = go (is_delete (name_in x)) refl (deletes_front xs)
  where
    go : (b : Bool) → is_delete (name_in x) ≡ b → DeletesAre true (take (deletes xs) xs) → DeletesAre true (take (cond b (suc (deletes xs)) 0) (x ∷ xs))
    go true e rest = (e, rest)
    go false e rest = tt

-- a name that comes after Delete
past_deletes : (m : Name) → is_delete m ≡ false → 1 ≤ rank_of m
past_deletes Delete e = absurd (false≢true (sym e))
past_deletes Replace e = omega arith
past_deletes Add e = omega arith

no_delete : (m : Name) → 1 ≤ rank_of m → is_delete m ≡ false
no_delete Delete h = absurd (omega arith)
no_delete Replace h = refl
no_delete Add h = refl

pub deletes_rest : (xs : List Entry) → ranked PressCommands xs ≡ true → DeletesAre false (drop (deletes xs) xs)
unfolding deletes
deletes_rest [] e = tt
deletes_rest (x ∷ xs) e = go (is_delete (name_in x)) refl (deletes_rest xs (ranked_tail PressCommands x xs e))
  where
    go : (b : Bool) → is_delete (name_in x) ≡ b → DeletesAre false (drop (deletes xs) xs) → DeletesAre false (drop (cond b (suc (deletes xs)) 0) (x ∷ xs))
    go true h rest = rest
    go false h rest = (
      h,
      every (λ (y : Entry). rank_of (name_in x) ≤ rank_of (name_in y)) (λ (y : Entry). is_delete (name_in y) ≡ false)
          (λ y q. no_delete (name_in y) (omega (arith, past_deletes (name_in x) h)))
          xs
          (names_rise PressCommands x xs e),
    )
