-- What the steps of a rule keep: an invariant that the change of one place keeps is kept by `act`, `each` and `in_order`; and sound tables stay sound. Assumes nothing.
use Rattle.std.proofs.Common.{Option, Some, None}
use Prim.Native.Nat.{ℕ, zero, suc, ◌+◌, ◌<◌, ◌≤◌}
use mathlib.Core.Path.{◌≡◌, refl, sym, ap, ap₂, ◌∙◌, subst}
use mathlib.Core.List.{List, [], ◌∷◌}
use mathlib.Core.Bool.{Bool, true, false, cond, not, ◌&&◌, and-false}
use native.Mathlib.Nat.{add-zero, zero-add}
use native.Mathlib.Omega.{arith}
use lib.ListN.{length, get_or, set}
use lib.Seq.{get_or-set_same, get_or-set_other}
use borrow.Author.Tests.{ne_eqb}
use lib.Dec.{eqb}
use Rattle.places.specs.Set.{all_places, in_use, with_place, without_place}
use Rattle.places.specs.First.{first_from}
use Rattle.places.specs.Table.{Sound, Each}
use Rattle.places.proofs.First.{first_inside, first_takes}
use Rattle.places.proofs.Choice.{chosen, and_chosen, and_first, and_second}
use Rattle.places.proofs.Bits.{freed_in, taken_in}
use Rattle.places.proofs.TableLaws.{by_place, sound_change, each_change}
use Rattle.places.specs.Act.{Table, Slot, free, holds, hit, find, put_at, act_at, act, each_from, each, in_order, all_pass}

-- ---- what a search finds is in use and passes the test
pub record Hit {A : Type 0} (d : A) (q : A → Bool) (t : Table A) (i : ℕ) : Type 0 where
  pub inside : i < length t.places
  pub used : in_use t.used i ≡ true
  pub passes : q (get_or t.places i d) ≡ true

pub hit_at : {A : Type 0} (d : A) (q : A → Bool) (t : Table A) (i : ℕ) → i < length t.places → hit t.used q i (get_or t.places i d) ≡ true → Hit d q t i
hit_at d q t i h e = record { inside = h; used = and_first (in_use t.used i) (q (get_or t.places i d)) e; passes = and_second (in_use t.used i) (q (get_or t.places i d)) e }

pub find_hit : {A : Type 0} (d : A) (q : A → Bool) (t : Table A) (i : ℕ) → find q t ≡ Some i → Hit d q t i
unfolding find
find_hit d q t i e = hit_at d q t i (first_inside (hit t.used q) d t.places i e) (first_takes (hit t.used q) d t.places i e)

first_nothing : {A : Type 0} (t : ℕ → A → Bool) (d : A) → ((k : ℕ) → t k d ≡ false) → (xs : List A) (i j : ℕ) → first_from t i xs ≡ None → t (i + j) (get_or xs j d) ≡ false
unfolding first_from
first_nothing t d w [] i j e = w (i + j)
first_nothing t d w (x ∷ xs) i zero e = go (t i x) refl e
  where
    go : (b : Bool) → t i x ≡ b → cond b (Some i) (first_from t (suc i) xs) ≡ None → t (i + 0) x ≡ false
    go true v q = let z : ◌≡◌ {A = ℕ} 0 1 = cc in absurd (omega arith)
    go false v q = rw add-zero v
first_nothing t d w (x ∷ xs) i (suc j) e = go (t i x) e (λ q. first_nothing t d w xs (suc i) j q)
  where
    go : (b : Bool) → cond b (Some i) (first_from t (suc i) xs) ≡ None → (first_from t (suc i) xs ≡ None → t (suc i + j) (get_or xs j d) ≡ false) → t (i + suc j) (get_or xs j d) ≡ false
    go true q rest = let z : ◌≡◌ {A = ℕ} 0 1 = cc in absurd (omega arith)
    go false q rest = let s : suc i + j ≡ i + suc j = omega arith in rw (← s) (rest q)

-- where a search finds nothing, no place in use passes the test (nor does what `get_or` gives past the end)
pub find_nothing : {A : Type 0} (d : A) (q : A → Bool) → q d ≡ false → (t : Table A) → find q t ≡ None → (j : ℕ) → in_use t.used j ≡ true → q (get_or t.places j d) ≡ false
unfolding find
find_nothing d q w t e j u =
    let none : (k : ℕ) → hit t.used q k d ≡ false = λ k. ap (λ (b : Bool). in_use t.used k && b) w ∙ and-false (in_use t.used k) in
    let miss : hit t.used q j (get_or t.places j d) ≡ false = subst (λ (k : ℕ). hit t.used q k (get_or t.places j d) ≡ false) (zero-add j) (first_nothing (hit t.used q) d none t.places 0 j e) in
    sym (and_chosen (in_use t.used j) (q (get_or t.places j d)) u) ∙ miss

-- ---- an invariant that the change of one place keeps
module _ {A : Type 0} (d : A) (q : A → Bool) (f : A → Slot A) (I : Table A → Type 0) (one : (t : Table A) (i : ℕ) → Hit d q t i → I t → I (put_at t i (f (get_or t.places i d)))) where
  pub act_keeps : (t : Table A) → I t → I (act d q f t)
  unfolding act
  act_keeps t h = go (find q t) refl
    where
      go : (r : Option ℕ) → find q t ≡ r → I (act_at d f t r)
      go None e = h
      go (Some i) e = one t i (find_hit d q t i e) h

  module _ (long : (t : Table A) → I t → length t.places ≡ all_places) where
    from_keeps : (n i : ℕ) (t : Table A) → i + n ≤ 32 → I t → I (each_from d q f i n t)
    unfolding each_from
    from_keeps zero i t b h = h
    from_keeps (suc n) i t b h = from_keeps n (suc i) (turn (hit t.used q i (get_or t.places i d))) (omega arith) (kept (hit t.used q i (get_or t.places i d)) refl)
      where
        turn : Bool → Table A
        turn c = cond c (put_at t i (f (get_or t.places i d))) t

        kept : (c : Bool) → hit t.used q i (get_or t.places i d) ≡ c → I (turn c)
        kept false e = h
        kept true e = one t i (hit_at d q t i (omega (arith, long t h)) e) h

    pub each_keeps : (t : Table A) → I t → I (each d q f t)
    each_keeps t h = from_keeps all_places 0 t (omega arith) h

module _ {A B : Type 0} (f : A → B → B) (I : B → Type 0) where
  pub order_keeps : ((x : A) (b : B) → I b → I (f x b)) → (xs : List A) (b : B) → I b → I (in_order f xs b)
  unfolding in_order
  order_keeps k [] b h = h
  order_keeps k (x ∷ xs) b h = order_keeps k xs (f x b) (k x b h)

  -- where each passes a test before it is taken
  pub passed_keeps : (t : A → B → Bool) → ((x : A) (b : B) → t x b ≡ true → I b → I (f x b)) → (xs : List A) (b : B) → all_pass t f xs b ≡ true → I b → I (in_order f xs b)
  unfolding in_order all_pass
  passed_keeps t k [] b e h = h
  passed_keeps t k (x ∷ xs) b e h = passed_keeps t k xs (f x b) (and_second (t x b) (all_pass t f xs (f x b)) e) (k x b (and_first (t x b) (all_pass t f xs (f x b)) e) h)

-- ---- sound tables
-- a place keeps its number, or is freed
abbrev pub SameNumber : {A : Type 0} → (A → ℕ) → A → Slot A → Type 0
SameNumber num x free = Unit {0}
SameNumber num x (holds y) = num y ≡ num x

abbrev pub Holds : {A : Type 0} → (A → Type 0) → Slot A → Type 0
Holds P free = Unit {0}
Holds P (holds y) = P y

-- a freed place is not in use, and no other is added
pub freed_was : (used i j : ℕ) → in_use (without_place used i) j ≡ true → in_use used j ≡ true
freed_was used i j e = and_second (not (eqb i j)) (in_use used j) (sym (freed_in used i j) ∙ e)

pub taken_same : (used i : ℕ) → in_use used i ≡ true → with_place used i ≡ used
unfolding with_place
taken_same used i e = chosen (in_use used i) used _ e

module _ {A : Type 0} (num : A → ℕ) (d : A) (last : ℕ) where
  abbrev pub SoundTable : Table A → Type 0
  SoundTable t = Sound num d t.used t.places last

  sound_freed : (t : Table A) (i : ℕ) → SoundTable t → SoundTable (put_at t i free)
  sound_freed t i s =
      record {
        long = s.long;
        least = λ j e. s.least j (freed_was t.used i j e);
        given = λ j e. s.given j (freed_was t.used i j e);
        apart = λ j k a b e. s.apart j k (freed_was t.used i j a) (freed_was t.used i k b) e;
      }

  pub sound_put : (t : Table A) (i : ℕ) → i < all_places → in_use t.used i ≡ true → (z : Slot A) → SameNumber num (get_or t.places i d) z → SoundTable t → SoundTable (put_at t i z)
  sound_put t i b u free e s = sound_freed t i s
  sound_put t i b u (holds y) e s =
      subst (λ (v : ℕ). Sound num d v (set t.places i y) last) (sym (taken_same t.used i u)) (sound_change num d t.used t.places last s i b y e)

module _ {A : Type 0} (num : A → ℕ) (d : A) (last : ℕ) (P : A → Type 0) where
  abbrev pub EachTable : Table A → Type 0
  EachTable t = Each P d t.used t.places

  pub each_put : (t : Table A) (i : ℕ) → i < all_places → in_use t.used i ≡ true → (z : Slot A) → Holds P z → SoundTable num d last t → EachTable t → EachTable (put_at t i z)
  each_put t i b u free e s h = λ j w. h j (freed_was t.used i j w)
  each_put t i b u (holds y) e s h =
      subst (λ (v : ℕ). Each P d v (set t.places i y)) (sym (taken_same t.used i u)) (each_change num d t.used t.places last s i b y P P (λ z p. p) e h)

  -- ---- a table that is sound and each of whose entries is fine
  pub record Fine (t : Table A) : Type 0 where
    pub sound : SoundTable num d last t
    pub each : EachTable t

  -- a step that keeps numbers and fineness keeps the table
  pub record Fair (q : A → Bool) (f : A → Slot A) : Type 0 where
    pub same : (x : A) → SameNumber num x (f x)
    pub fine : (x : A) → q x ≡ true → P x → Holds P (f x)

  module _ (q : A → Bool) (f : A → Slot A) (w : Fair q f) where
    fine_put : (t : Table A) (i : ℕ) → Hit d q t i → Fine t → Fine (put_at t i (f (get_or t.places i d)))
    fine_put t i h s =
        let b : i < all_places = omega (arith, h.inside, s.sound.long) in
        record {
          sound = sound_put num d last t i b h.used (f (get_or t.places i d)) (w.same (get_or t.places i d)) s.sound;
          each = each_put t i b h.used (f (get_or t.places i d)) (w.fine (get_or t.places i d) h.passes (s.each i h.used)) s.sound s.each;
        }

    pub act_fine : (t : Table A) → Fine t → Fine (act d q f t)
    act_fine = act_keeps d q f Fine fine_put

    pub each_fine : (t : Table A) → Fine t → Fine (each d q f t)
    each_fine = each_keeps d q f Fine fine_put (λ t s. s.sound.long)

-- ---- a clash, such as a LUID that stands twice: no two places of a table have it
module _ {A : Type 0} (d : A) (clash : A → A → Bool) (flip : (x y : A) → clash x y ≡ true → clash y x ≡ true) where
  abbrev pub NoClash : Table A → Type 0
  NoClash t = (i j : ℕ) → in_use t.used i ≡ true → in_use t.used j ≡ true → clash (get_or t.places i d) (get_or t.places j d) ≡ true → i ≡ j

  -- y clashes with no entry but that of place i
  abbrev pub Alone : Table A → ℕ → A → Type 0
  Alone t i y = (j : ℕ) → (j ≡ i → ⊥) → in_use t.used j ≡ true → clash y (get_or t.places j d) ≡ false

  pub free_clash : (t : Table A) (i : ℕ) → NoClash t → NoClash (put_at t i free)
  free_clash t i h j k a b e = h j k (freed_was t.used i j a) (freed_was t.used i k b) e

  module _ (t : Table A) (i : ℕ) (inside : i < length t.places) (y : A) (alone : Alone t i y) (h : NoClash t) where
    here : get_or (set t.places i y) i d ≡ y
    here = get_or-set_same t.places i y d inside

    other : (j : ℕ) → (j ≡ i → ⊥) → get_or (set t.places i y) j d ≡ get_or t.places j d
    other j ne = get_or-set_other t.places i j y d ne

    was : (j : ℕ) → (j ≡ i → ⊥) → in_use (with_place t.used i) j ≡ true → in_use t.used j ≡ true
    was j ne e = sym (rw (ne_eqb i j (λ q. ne (sym q))) at (taken_in t.used i j)) ∙ e

    never : (a : Bool) → a ≡ false → a ≡ true → ⊥
    never a p q = let w : false ≡ true = sym p ∙ q in let z : ◌≡◌ {A = ℕ} 0 1 = cc in omega arith

    pub put_clash : NoClash (put_at t i (holds y))
    put_clash =
        by_place i (λ j. (k : ℕ) → in_use (with_place t.used i) j ≡ true → in_use (with_place t.used i) k ≡ true → clash (get_or (set t.places i y) j d) (get_or (set t.places i y) k d) ≡ true → j ≡ k)
        (by_place i (λ k. in_use (with_place t.used i) i ≡ true → in_use (with_place t.used i) k ≡ true → clash (get_or (set t.places i y) i d) (get_or (set t.places i y) k d) ≡ true → i ≡ k)
        (λ a b e. refl)
        (λ k nk a b e. absurd (never (clash y (get_or t.places k d)) (alone k nk (was k nk b)) (ap₂ clash (sym here) (sym (other k nk)) ∙ e))))
        (λ j nj.
        by_place i (λ k. in_use (with_place t.used i) j ≡ true → in_use (with_place t.used i) k ≡ true → clash (get_or (set t.places i y) j d) (get_or (set t.places i y) k d) ≡ true → j ≡ k)
        (λ a b e. absurd (never (clash y (get_or t.places j d)) (alone j nj (was j nj a)) (flip (get_or t.places j d) y (ap₂ clash (sym (other j nj)) (sym here) ∙ e))))
        (λ k nk a b e. h j k (was j nj a) (was k nk b) (ap₂ clash (sym (other j nj)) (sym (other k nk)) ∙ e)))
