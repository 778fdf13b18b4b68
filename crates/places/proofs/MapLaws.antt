-- A list or a table with g of each entry: what is looked for is found at the same place, and what a rule leaves and is answered is g of what it was.
-- Assumes nothing.
use Rattle.std.proofs.Common.{Option, Some, None}
use Prim.Native.Nat.{ℕ, zero, suc}
use mathlib.Core.Path.{◌≡◌, refl, sym, ap, ap₂, ◌∙◌}
use mathlib.Core.Bool.{Bool, true, false, cond, ◌&&◌}
use mathlib.Core.List.{List, [], ◌∷◌, ◌++◌, map, map-append}
use lib.ListN.{get_or, set, take, drop, replicate, get_or-map}
use Rattle.places.specs.Set.{all_places, in_use, with_place}
use Rattle.places.specs.First.{first_from}
use Rattle.places.specs.Act.{Table, Slot, free, holds, hit, find, put_at, act_at, act, each_from, each, in_order, replies, all_pass, with_answers}
use Rattle.places.specs.Rising.{those, rising}
use Rattle.places.proofs.RisingLaws.{rising_map}

-- ---- a choice
pub cond_map : {A B : Type 0} (g : A → B) (b : Bool) (x y : A) → cond b (g x) (g y) ≡ g (cond b x y)
cond_map g true x y = refl
cond_map g false x y = refl

-- ---- lists
pub take_map : {A B : Type 0} (g : A → B) (n : ℕ) (xs : List A) → take n (map g xs) ≡ map g (take n xs)
take_map g zero xs = refl
take_map g (suc n) [] = refl
take_map {B = B} g (suc n) (x ∷ xs) = ap (λ (l : List B). g x ∷ l) (take_map g n xs)

pub drop_map : {A B : Type 0} (g : A → B) (n : ℕ) (xs : List A) → drop n (map g xs) ≡ map g (drop n xs)
drop_map g zero xs = refl
drop_map g (suc n) [] = refl
drop_map g (suc n) (x ∷ xs) = drop_map g n xs

pub replicate_map : {A B : Type 0} (g : A → B) (n : ℕ) (x : A) → replicate n (g x) ≡ map g (replicate n x)
replicate_map g zero x = refl
replicate_map {B = B} g (suc n) x = ap (λ (l : List B). g x ∷ l) (replicate_map g n x)

pub set_map : {A B : Type 0} (g : A → B) (xs : List A) (i : ℕ) (x : A) → set (map g xs) i (g x) ≡ map g (set xs i x)
set_map g [] i x = refl
set_map g (y ∷ ys) zero x = refl
set_map {B = B} g (y ∷ ys) (suc i) x = ap (λ (l : List B). g y ∷ l) (set_map g ys i x)

-- two lists, one behind the other
pub append_map : {A B : Type 0} (g : A → B) (xs ys : List A) {xs' ys' : List B} → xs' ≡ map g xs → ys' ≡ map g ys → xs' ++ ys' ≡ map g (xs ++ ys)
append_map {B = B} g xs ys e f = ap₂ (λ (a b : List B). a ++ b) e f ∙ sym (map-append g xs ys)

-- w of each g of an entry is h of each v of it
pub each_alike : {A B C D : Type 0} (g : A → B) (h : C → D) (w : B → D) (v : A → C) → ((x : A) → w (g x) ≡ h (v x)) → (xs : List A) → map w (map g xs) ≡ map h (map v xs)
each_alike g h w v so [] = refl
each_alike {D = D} g h w v so (x ∷ xs) = ap₂ (λ (y : D) (l : List D). y ∷ l) (so x) (each_alike g h w v so xs)

-- an entry by its place; d and e are what `get_or` gives past the end
pub at_map : {A B : Type 0} (g : A → B) (d : A) (e : B) → g d ≡ e → (xs : List A) (i : ℕ) → get_or (map g xs) i e ≡ g (get_or xs i d)
at_map g d e end xs i = ap (get_or (map g xs) i) (sym end) ∙ get_or-map g xs i d

-- ---- tables
abbrev pub map_slot : {A B : Type 0} → (A → B) → Slot A → Slot B
map_slot g free = free
map_slot g (holds x) = holds (g x)

abbrev pub map_table : {A B : Type 0} → (A → B) → Table A → Table B
map_table g t = record { used = t.used; places = map g t.places }

module _ {A B : Type 0} (g : A → B) where
  pub first_map : (t : ℕ → B → Bool) (i : ℕ) (xs : List A) → first_from t i (map g xs) ≡ first_from (λ j x. t j (g x)) i xs
  unfolding first_from
  first_map t i [] = refl
  first_map t i (x ∷ xs) = ap (cond (t i (g x)) (Some i)) (first_map t (suc i) xs)

  those_map : (t : ℕ → B → Bool) (i : ℕ) (xs : List A) → those t i (map g xs) ≡ map g (those (λ j x. t j (g x)) i xs)
  unfolding those
  those_map t i [] = refl
  those_map t i (x ∷ xs) = go (t i (g x)) (those_map t (suc i) xs)
    where
      go : (b : Bool) → those t (suc i) (map g xs) ≡ map g (those (λ j x. t j (g x)) (suc i) xs)
          → cond b (g x ∷ those t (suc i) (map g xs)) (those t (suc i) (map g xs)) ≡ map g (cond b (x ∷ those (λ j x. t j (g x)) (suc i) xs) (those (λ j x. t j (g x)) (suc i) xs))
      go true e = ap (λ (l : List B). g x ∷ l) e
      go false e = e

  put_map : (t : Table A) (i : ℕ) (x : Slot A) → put_at (map_table g t) i (map_slot g x) ≡ map_table g (put_at t i x)
  put_map t i free = refl
  put_map t i (holds x) = ap (λ (l : List B). record { used = with_place t.used i; places = l }) (set_map g t.places i x)

  -- a test that looks at nothing that g changes
  module _ (q : B → Bool) (p : A → Bool) (same : (x : A) → q (g x) ≡ p x) where
    pub find_map : (t : Table A) → find q (map_table g t) ≡ find p t
    unfolding find
    find_map t = first_map (hit t.used q) 0 t.places ∙ (λ i. first_from (λ j x. in_use t.used j && same x i) 0 t.places)

    those_passing : (used : ℕ) (xs : List A) → those (hit used q) 0 (map g xs) ≡ map g (those (hit used p) 0 xs)
    those_passing used xs = those_map (hit used q) 0 xs ∙ (λ i. map g (those (λ j x. in_use used j && same x i) 0 xs))

    -- what is told of those that pass, by a rising number
    pub rising_those_map : {C D : Type 0} (h : C → D) (w : B → D) (v : A → C) → ((x : A) → w (g x) ≡ h (v x)) → (key : D → ℕ) (its : C → ℕ) → ((c : C) → key (h c) ≡ its c)
        → (used : ℕ) (xs : List A) → rising key (map w (those (hit used q) 0 (map g xs))) ≡ map h (rising its (map v (those (hit used p) 0 xs)))
    rising_those_map h w v so key its keyed used xs =
        let ys = those (hit used p) 0 xs in
        ap (λ (l : List B). rising key (map w l)) (those_passing used xs) ∙ ap (rising key) (each_alike g h w v so ys) ∙ sym (rising_map h its key keyed (map v ys))

    -- what is done to the entries that pass
    module _ (d : A) (e : B) (end : g d ≡ e) (h : B → Slot B) (k : A → Slot A) (so : (x : A) → h (g x) ≡ map_slot g (k x)) where
      put : (t : Table A) (i : ℕ) → put_at (map_table g t) i (h (get_or (map g t.places) i e)) ≡ map_table g (put_at t i (k (get_or t.places i d)))
      put t i = ap (λ (x : B). put_at (map_table g t) i (h x)) (at_map g d e end t.places i) ∙ ap (put_at (map_table g t) i) (so (get_or t.places i d)) ∙ put_map t i (k (get_or t.places i d))

      pub act_map : (t : Table A) → act e q h (map_table g t) ≡ map_table g (act d p k t)
      unfolding act
      act_map t = ap (act_at e h (map_table g t)) (find_map t) ∙ go (find p t)
        where
          go : (w : Option ℕ) → act_at e h (map_table g t) w ≡ map_table g (act_at d k t w)
          go None = refl
          go (Some i) = put t i

      from_map : (n i : ℕ) (t : Table A) → each_from e q h i n (map_table g t) ≡ map_table g (each_from d p k i n t)
      unfolding each_from
      from_map zero i t = refl
      from_map (suc n) i t =
          let u : Table A = cond (hit t.used p i (get_or t.places i d)) (put_at t i (k (get_or t.places i d))) t in
          let test : hit t.used q i (get_or (map g t.places) i e) ≡ hit t.used p i (get_or t.places i d) =
          ap (hit t.used q i) (at_map g d e end t.places i) ∙ ap (λ (b : Bool). in_use t.used i && b) (same (get_or t.places i d)) in
          ap (each_from e q h (suc i) n)
          (ap₂ (λ (b : Bool) (v : Table B). cond b v (map_table g t)) test (put t i) ∙ cond_map (map_table g) (hit t.used p i (get_or t.places i d)) (put_at t i (k (get_or t.places i d))) t)
          ∙ from_map n (suc i) u

      pub each_map : (t : Table A) → each e q h (map_table g t) ≡ map_table g (each d p k t)
      each_map t = from_map all_places 0 t

-- ---- one after the other: a of each that is done, b of what it is done to
module _ {A B C D : Type 0} (a : A → B) (b : C → D) where
  module _ (f : B → D → D) (h : A → C → C) (so : (x : A) (c : C) → f (a x) (b c) ≡ b (h x c)) where
    pub order_map : (xs : List A) (c : C) → in_order f (map a xs) (b c) ≡ b (in_order h xs c)
    unfolding in_order
    order_map [] c = refl
    order_map (x ∷ xs) c = ap (in_order f (map a xs)) (so x c) ∙ order_map xs (h x c)

    pub replies_map : {E F : Type 0} (m : E → F) (u : ℕ → B → D → F) (v : ℕ → A → C → E) → ((n : ℕ) (x : A) (c : C) → u n (a x) (b c) ≡ m (v n x c))
        → (n : ℕ) (xs : List A) (c : C) → replies u f n (map a xs) (b c) ≡ map m (replies v h n xs c)
    unfolding replies
    replies_map m u v say n [] c = refl
    replies_map {F = F} m u v say n (x ∷ xs) c =
        ap₂ (λ (y : F) (l : List F). y ∷ l) (say n x c) (ap (replies u f (suc n) (map a xs)) (so x c) ∙ replies_map m u v say (suc n) xs (h x c))

    pub all_map : (t : B → D → Bool) (s : A → C → Bool) → ((x : A) (c : C) → t (a x) (b c) ≡ s x c) → (xs : List A) (c : C) → all_pass t f (map a xs) (b c) ≡ all_pass s h xs c
    unfolding all_pass
    all_map t s same [] c = refl
    all_map t s same (x ∷ xs) c = ap₂ (λ (p q : Bool). p && q) (same x c) (ap (all_pass t f (map a xs)) (so x c) ∙ all_map t s same xs (h x c))

-- each with its answer
pub answers_map : {A B C D : Type 0} (a : A → B) (b : C → D) (xs : List A) (ys : List C) → with_answers (map a xs) (map b ys) ≡ map (λ p. (a p.0, b p.1)) (with_answers xs ys)
unfolding with_answers
answers_map a b [] ys = refl
answers_map a b (x ∷ xs) [] = refl
answers_map {B = B} {D = D} a b (x ∷ xs) (y ∷ ys) = ap (λ (l : List (B × D)). (a x, b y) ∷ l) (answers_map a b xs ys)
