-- Entries that a loop makes one by one of the elements of another list, each pushed at the end. Assumes nothing.
use Prim.Native.Nat.{ℕ, ◌+◌, ◌<◌, ◌≤◌}
use mathlib.Core.Path.{◌≡◌, sym, ap, ◌∙◌}
use mathlib.Core.List.{List, [], ◌∷◌, ◌++◌, map, map-append, append-nil, append_assoc}
use native.Mathlib.Omega.{arith}
use native.Mathlib.Numerals.{add-one}
use lib.ListN.{length, get_or, take, length-append, length-map}
use lib.Seq.{take-suc, take_all, length-take-le}
use Rattle.lists.specs.declared.Entry.{Entry}
use Rattle.listing.specs.declared.Listing.{Listing}
use Rattle.listing.specs.Listing.{items_of, holding}
use Rattle.listing.proofs.ListingLaws.{holding_own, holding_count, holds_more}

-- the list that was `base` has what is made of the first i of xs
pub record Making {A : Type 0} (made : A → Entry) (xs : List A) (base : Listing) (i : ℕ) (l : Listing) : Type 0 where
  pub inside : i ≤ length xs
  pub kept : base.n ≤ length base.items
  pub gives : l ≡ holding (items_of base ++ map made (take i xs)) base

module _ {A : Type 0} {made : A → Entry} {xs : List A} {base : Listing} where
  -- before the first turn
  pub making_none : base.n ≤ length base.items → Making made xs base 0 base
  making_none kept =
      record {
        inside = omega arith;
        kept = kept;
        gives = sym (ap (λ (ys : List Entry). holding ys base) (append-nil (items_of base)) ∙ holding_own base kept);
      }

  module _ {i : ℕ} {l : Listing} (so_far : Making made xs base i l) where
    -- how many there are
    pub making_count : l.n ≡ base.n + i
    making_count =
        omega (
          arith,
          ap (λ (m : Listing). m.n) so_far.gives,
          holding_count (items_of base ++ map made (take i xs)) base,
          length-append (items_of base) (map made (take i xs)),
          length-take-le base.n base.items so_far.kept,
          length-map (take i xs) made,
          length-take-le i xs so_far.inside,
        )

    -- one more is made
    pub making_turn : (d : A) {e : Entry} {next : Listing} → i < length xs → e ≡ made (get_or xs i d) → next ≡ holding (items_of l ++ (e ∷ [])) l → Making made xs base (i + 1) next
    making_turn d {e} {next} h is pushed =
        let first = map made (take i xs) in
        let more : take (i + 1) xs ≡ take i xs ++ (get_or xs i d ∷ []) = ap (λ (k : ℕ). take k xs) (add-one i) ∙ take-suc xs i d h in
        let all : (items_of base ++ first) ++ (e ∷ []) ≡ items_of base ++ map made (take (i + 1) xs) =
        append_assoc (items_of base) first (e ∷ [])
        ∙ ap (λ (y : Entry). items_of base ++ (first ++ (y ∷ []))) is
        ∙ ap (λ (ys : List Entry). items_of base ++ ys) (sym (ap (map made) more ∙ map-append made (take i xs) (get_or xs i d ∷ []))) in
        record {
          inside = omega arith;
          kept = so_far.kept;
          gives = holds_more (items_of base ++ first) (e ∷ []) base l next so_far.gives pushed ∙ ap (λ (ys : List Entry). holding ys base) all;
        }

    -- all are made
    pub making_all : length xs ≤ i → l ≡ holding (items_of base ++ map made xs) base
    making_all h = so_far.gives ∙ ap (λ (ys : List A). holding (items_of base ++ map made ys) base) (take_all i xs h)
