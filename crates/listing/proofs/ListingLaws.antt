-- What a list as the code keeps it holds, and what it holds after more was put into it. Assumes nothing.
use Prim.Native.Nat.{ℕ, zero, suc, ◌+◌, ◌-◌, ◌<◌, ◌≤◌}
use mathlib.Core.Path.{◌≡◌, refl, sym, ap, ap₂, ◌∙◌}
use mathlib.Core.List.{List, [], ◌∷◌, ◌++◌}
use native.Mathlib.Omega.{arith}
use lib.ListN.{length, drop, set, replicate, length-append, take-append-drop}
use lib.Seq.{take-append_seam, drop-append-add, drop-drop, set_split, append_snoc, length-take-le}
use Rattle.lists.specs.declared.Entry.{Entry}
use Rattle.lists.specs.Lists.{kept_listed, blank_entry}
use Rattle.listing.specs.declared.Listing.{Listing}
use Rattle.listing.specs.Listing.{listing, items_of, holding}

abbrev pub parts : ℕ → List Entry → Listing
parts n items = record { n = n; items = items }

abbrev pub counted : Listing → ℕ
counted l = l.n

-- the first n items of a list are the list
pub listing_items : (xs : List Entry) → items_of (listing xs) ≡ xs
listing_items xs = take-append_seam xs (replicate (kept_listed - length xs) blank_entry)

module _ (xs : List Entry) (l : Listing) where
  pub holding_items : items_of (holding xs l) ≡ xs
  unfolding holding
  holding_items = take-append_seam xs (drop (length xs) l.items)

  pub holding_count : (holding xs l).n ≡ length xs
  unfolding holding
  holding_count = refl

  -- past its items a list is as it was: no fewer than they were take their place
  pub holding_again : (ys : List Entry) → length xs ≤ length ys → holding ys (holding xs l) ≡ holding ys l
  unfolding holding
  holding_again ys h =
      let k = length ys - length xs in
      let sum : length ys ≡ length xs + k = omega arith in
      let past : drop (length ys) (xs ++ drop (length xs) l.items) ≡ drop (length ys) l.items =
      ap (λ (n : ℕ). drop n (xs ++ drop (length xs) l.items)) sum
      ∙ drop-append-add xs (drop (length xs) l.items) k
      ∙ drop-drop k (length xs) l.items
      ∙ ap (λ (n : ℕ). drop n l.items) (sym sum) in
      ap (λ (p : List Entry). parts (length ys) (ys ++ p)) past

-- a list holds its own items
pub holding_own : (l : Listing) → l.n ≤ length l.items → holding (items_of l) l ≡ l
unfolding holding
holding_own l h =
    let n : length (items_of l) ≡ l.n = length-take-le l.n l.items h in
    ap (λ (k : ℕ). parts k (items_of l ++ drop k l.items)) n ∙ ap (parts l.n) (take-append-drop l.n l.items)

-- ---- from the empty list on: blanks stand past the items
drop_same : (n k : ℕ) (e : Entry) → drop k (replicate n e) ≡ replicate (n - k) e
drop_same n zero e = let all : n ≡ n - 0 = omega arith in ap (λ (m : ℕ). replicate m e) all
drop_same zero (suc k) e = let none : 0 ≡ 0 - suc k = omega arith in ap (λ (m : ℕ). replicate m e) none
drop_same (suc n) (suc k) e = let less : n - k ≡ suc n - suc k = omega arith in drop_same n k e ∙ ap (λ (m : ℕ). replicate m e) less

pub listing_holds : (xs : List Entry) → holding xs (listing []) ≡ listing xs
unfolding holding
listing_holds xs = ap (λ (p : List Entry). parts (length xs) (xs ++ p)) (drop_same kept_listed (length xs) blank_entry)

-- ---- more at the end: of a list that holds xs
module _ (xs ys : List Entry) where
  pub holds_more : (base l r : Listing) → l ≡ holding xs base → r ≡ holding (items_of l ++ ys) l → r ≡ holding (xs ++ ys) base
  holds_more base l r held more =
      more
      ∙ ap₂ (λ (zs : List Entry) (m : Listing). holding (zs ++ ys) m) (ap items_of held ∙ holding_items xs base) held
      ∙ holding_again xs base (xs ++ ys) (omega (arith, length-append xs ys))

  pub lists_more : (l r : Listing) → l ≡ listing xs → r ≡ holding (items_of l ++ ys) l → r ≡ listing (xs ++ ys)
  lists_more l r held more = holds_more (listing []) l r (held ∙ sym (listing_holds xs)) more ∙ listing_holds (xs ++ ys)

-- one more, set at place n
pub pushed : (l : Listing) (e : Entry) → l.n < length l.items → parts (l.n + 1) (set l.items l.n e) ≡ holding (items_of l ++ (e ∷ [])) l
unfolding holding
pushed l e h =
    let n : length (items_of l ++ (e ∷ [])) ≡ suc l.n = omega (arith, length-append (items_of l) (e ∷ []), length-take-le l.n l.items (omega arith)) in
    let put : set l.items l.n e ≡ (items_of l ++ (e ∷ [])) ++ drop (suc l.n) l.items =
    set_split l.items l.n e h ∙ sym (append_snoc (items_of l) e (drop (suc l.n) l.items)) in
    ap₂ parts (omega (arith, n)) put ∙ ap (λ (k : ℕ). parts (length (items_of l ++ (e ∷ []))) ((items_of l ++ (e ∷ [])) ++ drop k l.items)) (sym n)
