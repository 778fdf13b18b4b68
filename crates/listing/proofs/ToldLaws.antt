-- What is told of the entries of a table that pass a test, by a rising number: of each that passes, once, and of no others; and how many. Assumes nothing.
use Prim.Native.Nat.{ℕ, ◌+◌, ◌<◌, ◌≤◌}
use mathlib.Core.Path.{◌≡◌, refl, sym, ◌∙◌, subst}
use mathlib.Core.Bool.{Bool, true, false, ◌&&◌}
use mathlib.Core.List.{List, [], ◌∷◌, map, Memᴰ}
use native.Mathlib.Omega.{arith}
use lib.ListN.{length, get_or}
use Rattle.places.specs.Set.{in_use}
use Rattle.places.specs.Table.{Sound}
use Rattle.places.proofs.Choice.{and_chosen, and_first, and_second}
use Rattle.lists.specs.declared.Entry.{Entry}
use Rattle.places.specs.Act.{Table, hit}
use Rattle.places.specs.Rising.{those, rising}
use Rattle.places.proofs.Every.{Every, Pairs, every, every_map, every_map_back, pairs_map}
use Rattle.places.proofs.KeptLaws.{Hit}
use Rattle.places.proofs.RisingLaws.{rising_map}
use Rattle.places.proofs.Those.{all_of, one_of, strict_of, fit_one, fit_three}
use Rattle.listing.proofs.Rowing.{told_length}

-- each element of a list is in it
each_in : {A : Type 0} (xs : List A) → Every (λ x. Memᴰ x xs) xs
each_in [] = tt
each_in (x ∷ xs) = (Memᴰ.head refl, every (λ y. Memᴰ y xs) (λ y. Memᴰ y (x ∷ xs)) (λ y m. Memᴰ.tail m) xs (each_in xs))

-- place j is in use and its entry passes
hit_at : {A : Type 0} (d : A) (q : A → Bool) (t : Table A) (j : ℕ) → j < length t.places → hit t.used q j (get_or t.places j d) ≡ true → Hit d q t j
hit_at d q t j h e =
    record {
      inside = h;
      used = and_first (in_use t.used j) (q (get_or t.places j d)) e;
      passes = and_second (in_use t.used j) (q (get_or t.places j d)) e;
    }

-- key is the number by which the list rises, w what is told of an entry, d what `get_or` gives past the end of the places
module _ {A : Type 0} (d : A) (q : A → Bool) (key : Entry → ℕ) (w : A → Entry) (t : Table A) where
  -- the entries that pass, by that number
  abbrev found : List A
  found = rising (λ x. key (w x)) (those (hit t.used q) 0 t.places)

  abbrev pub told : List Entry
  told = rising key (map w (those (hit t.used q) 0 t.places))

  of_found : told ≡ map w found
  of_found = sym (rising_map w (λ x. key (w x)) key (λ x. refl) (those (hit t.used q) 0 t.places))

  -- each element is told of an entry in use that passes
  abbrev pub ToldOf : Entry → Type 0
  ToldOf e = (j : ℕ) × Hit d q t j × (e ≡ w (get_or t.places j d))

  pub told_are : Every ToldOf told
  told_are =
      subst (Every ToldOf) (sym of_found)
      (every_map w ToldOf found (all_of d (hit t.used q) t.places (λ x. key (w x)) (λ x. ToldOf (w x)) (λ j h e. (j, hit_at d q t j h e, refl))))

  -- and every such entry is told of
  pub told_all : (j : ℕ) → Hit d q t j → Memᴰ (w (get_or t.places j d)) told
  told_all j h =
      one_of d (hit t.used q) t.places (λ x. key (w x)) (λ x. Memᴰ (w x) told)
      (every_map_back w (λ e. Memᴰ e told) found (subst (Every (λ e. Memᴰ e told)) of_found (each_in told)))
      j h.inside (and_chosen (in_use t.used j) (q (get_or t.places j d)) h.used ∙ h.passes)

  -- once: where each is told by its own number and numbers stand once, each is below every later one
  pub told_rising : (num : A → ℕ) (last : ℕ) → Sound num d t.used t.places last → ((j : ℕ) → Hit d q t j → key (w (get_or t.places j d)) ≡ num (get_or t.places j d))
      → Pairs (λ x y. key x < key y) told
  told_rising num last s own =
      subst (Pairs (λ x y. key x < key y)) (sym of_found)
      (pairs_map w (λ x y. key x < key y) found
      (strict_of d (hit t.used q) t.places (λ x. key (w x))
      (λ j k l m a b e. let x = hit_at d q t j l a in let y = hit_at d q t k m b in s.apart j k x.used y.used (sym (own j x) ∙ e ∙ own k y))))

  -- at most one for each place
  pub told_fit : length told ≤ length t.places
  told_fit = omega (arith, told_length key w (those (hit t.used q) 0 t.places), fit_one d (hit t.used q) t.places)

-- ---- three tests of which no two pass together: at most one for each place
module _ {A : Type 0} (d : A) (key : Entry → ℕ) (t : Table A) where
  never : (p q : A → Bool) → ((x : A) → (p x && q x) ≡ false) → (j : ℕ) → j < length t.places
      → hit t.used p j (get_or t.places j d) ≡ true → hit t.used q j (get_or t.places j d) ≡ true → ⊥
  never p q apart j h a b =
      let x = get_or t.places j d in
      let both : (p x && q x) ≡ true = and_chosen (p x) (q x) (hit_at d p t j h a).passes ∙ (hit_at d q t j h b).passes in
      let e : false ≡ true = sym (apart x) ∙ both in
      let z : ◌≡◌ {A = ℕ} 0 1 = cc in
      omega arith

  pub three_fit : (p q r : A → Bool) (f g h : A → Entry) → ((x : A) → ((p x && q x) ≡ false) × ((p x && r x) ≡ false) × ((q x && r x) ≡ false))
      → length (told d p key f t) + length (told d q key g t) + length (told d r key h t) ≤ length t.places
  three_fit p q r f g h apart =
      omega (
        arith,
        told_length key f (those (hit t.used p) 0 t.places),
        told_length key g (those (hit t.used q) 0 t.places),
        told_length key h (those (hit t.used r) 0 t.places),
        fit_three d (hit t.used p) t.places (hit t.used q) (hit t.used r)
            (never p q (λ x. (apart x).0)) (never p r (λ x. (apart x).1)) (never q r (λ x. (apart x).2)),
      )
