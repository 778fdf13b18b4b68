-- A slot reads back, and a power cut never costs the newest image.
-- Assumes nothing.
use Prim.Native.Nat.{ℕ, ◌+◌, ◌-◌, ◌*◌, ◌<◌, ◌≤◌}
use mathlib.Core.Path.{◌≡◌, refl, sym, ap, ap₂, ◌∙◌}
use mathlib.Core.Bool.{Bool, true, false, cond, ◌&&◌, true≢false}
use mathlib.Core.List.{List, [], ◌∷◌, ◌++◌, append_assoc}
use lib.Dec.{eqb, leb, ltb}
use lib.ListN.{length, get_or, take, drop, length-append}
use lib.Seq.{sets, length-sets, take_at, take-take, get_or_at}
use borrow.Author.Tests.{eq-eqb, ne_eqb, eqb-true, leb-true, ltb-true, le-ltb, lt-ltb}
use native.Mathlib.Omega.{arith}
use Rattle.token.specs.Put.{Put}
use Rattle.token.proofs.PutLaws.{put_seq}
use Rattle.image.specs.Four.{four, four_in, Fits}
use Rattle.image.specs.Sum.{sum_from, sum_of}
use Rattle.image.proofs.FourLaws.{four_back, byte_after, four_after}
use Rattle.lilmorask_store.specs.Slot.{Slot, slot_tail, whole_mark, longest_image, last_generation, body_of, slot_of, slot_in}
use Rattle.lilmorask_store.specs.Store.{Newest, Next, fit, newest_of, slot_at, image_at, newest_in, given, given_by, newest_image, spent, no_image, damaged, next_after, next_of, Sealed, sealed, sealed_by, seals_image}
use Rattle.lilmorask_store.specs.Torn.{Cut, slots_left, slots_meant, CountsAs, SlotTorn, generation_of, SealedBack}
use Rattle.lilmorask_store.specs.Torn.Cut.{early, within, late}
use Rattle.lilmorask_store.proofs.SetsLaws.{take_stored, drop_stored, stored_there, stored_over, stored_same, put_there}

-- ---- a sum has 32 bits
sum_from_fits : (a b : ℕ) (xs : List ℕ) → Fits (sum_from a b xs)
unfolding sum_from
sum_from_fits a b [] = omega arith
sum_from_fits a b (x ∷ xs) = sum_from_fits (a + x) (b + (a + x)) xs

sum_fits : (xs : List ℕ) → Fits (sum_of xs)
unfolding sum_of
sum_fits xs = sum_from_fits 1 0 xs

-- ---- a slot that was written is whole
slot_long : (g : ℕ) (image : List ℕ) → length (slot_of g image) ≡ length image + slot_tail
unfolding slot_of
slot_long g image =
    let a = length-append (body_of g image) (four (sum_of (body_of g image)) ++ (whole_mark ∷ [])) in
    let b = length-append image (four g) in
    omega (arith, a, b)

slot_back : (g : ℕ) (image : List ℕ) → Fits g → slot_in (length image) (slot_of g image) ≡ Slot.Whole g
unfolding slot_of slot_in
slot_back g image h =
    let m = length image in
    let body = body_of g image in
    let rest = four (sum_of body) ++ (whole_mark ∷ []) in
    let long : length body ≡ m + 4 = length-append image (four g) in
    let mark : get_or (body ++ rest) (m + 8) 0 ≡ whole_mark = byte_after body rest 4 (m + 8) (omega (arith, long)) in
    let sum : four_in (body ++ rest) (m + 4) ≡ sum_of body = four_after body rest 0 (m + 4) (omega (arith, long)) ∙ four_back (sum_of body) (whole_mark ∷ []) (sum_fits body) in
    let front : take (m + 4) (body ++ rest) ≡ body = take_at body rest (m + 4) long in
    let generation : four_in (body ++ rest) m ≡ g = ap (λ (l : List ℕ). four_in l m) (append_assoc image (four g) rest) ∙ four_after image (four g ++ rest) 0 m (omega arith) ∙ four_back g rest h in
    rw (mark, sum, front, generation, eq-eqb (sum_of body) (sum_of body) refl)

-- as the bytes of it are put one after the other
pub slot_put : {a b c d e : List ℕ} {at p q r n k : ℕ} (g : ℕ) (image : List ℕ) → at + (length image + slot_tail) ≤ length a → Put a b at p image → Put b c p q (four g) → n ≡ sum_of (take (q - at) (drop at c)) → Put c d q r (four n) → Put d e r k (whole_mark ∷ []) → e ≡ sets a at (slot_of g image)
unfolding slot_of
slot_put {at = at} {n = n} g image inside x y sum z w =
    let body = put_seq x y in
    let long = length-append image (four g) in
    let is : n ≡ sum_of (body_of g image) = sum ∙ ap sum_of (put_there (omega (arith, long)) body) in
    rw (← is) (put_seq body (put_seq z w)).bytes

image_back : (g : ℕ) (image : List ℕ) → take (length image) (slot_of g image) ≡ image
unfolding slot_of
image_back g image =
    let rest = four (sum_of (body_of g image)) ++ (whole_mark ∷ []) in
    ap (take (length image)) (append_assoc image (four g) rest) ∙ take_at image (four g ++ rest) (length image) refl

-- a slot with another mark is off, whatever stands in it
slot_off : (m : ℕ) (body : List ℕ) (mark : ℕ) → length body ≡ m + 8 → (mark ≡ whole_mark → ⊥) → slot_in m (body ++ (mark ∷ [])) ≡ Slot.Off
unfolding slot_in
slot_off m body mark long off = rw (get_or_at body mark [] 0 (m + 8) long, ne_eqb mark whole_mark off)

-- ---- the next image goes into the slot that is not the newest: while that slot is off the newest stays, and with the next generation it is the newest
data Room (m : ℕ) (a b : Slot) (p g : ℕ) : Type 0 where
  first : p ≡ 0 → newest_of Slot.Off b ≡ newest_of a b → newest_of (Slot.Whole g) b ≡ Newest.First g → Room m a b p g
  second : p ≡ m + slot_tail → newest_of a Slot.Off ≡ newest_of a b → newest_of a (Slot.Whole g) ≡ Newest.Second g → Room m a b p g

refused : {A : Type 0} (n p g : ℕ) → Next.Refused n ≡ Next.At p g → A
refused n p g e = let z : ◌≡◌ {A = ℕ} 0 1 = cc in absurd (omega arith)

-- a newer one in the second slot, in the first
pub newer_second : (f h : ℕ) → f < h → newest_of (Slot.Whole f) (Slot.Whole h) ≡ Newest.Second h
newer_second f h l = rw (lt-ltb f h l)

pub newer_first : (f h : ℕ) → h ≤ f → newest_of (Slot.Whole f) (Slot.Whole h) ≡ Newest.First f
newer_first f h l = rw (le-ltb f h l)

record After (q n p g : ℕ) : Type 0 where
  place : p ≡ q
  more : g ≡ n + 1
  fits : Fits g

after : (q n p g : ℕ) → next_after q n ≡ Next.At p g → After q n p g
after q n p g e = go (ltb n last_generation) refl e
  where
    go : (t : Bool) → ltb n last_generation ≡ t → cond t (Next.At q (n + 1)) (Next.Refused spent) ≡ Next.At p g → After q n p g
    go true l x =
        let k : n < last_generation = ltb-true n last_generation l in
        let i : g ≡ n + 1 = cc in
        record { place = cc; more = i; fits = omega arith }
    go false l x = refused spent p g x

room : (m : ℕ) (a b : Slot) (p g : ℕ) → next_of m (newest_of a b) ≡ Next.At p g → Room m a b p g
room m Slot.Off Slot.Off p g e = let x = after 0 0 p g e in first x.place refl refl
room m Slot.Off (Slot.Whole h) p g e = let x = after 0 h p g e in first x.place refl (newer_first g h (omega (arith, x.more)))
room m Slot.Off Slot.Damaged p g e = refused damaged p g e
room m (Slot.Whole f) Slot.Off p g e = let x = after (m + slot_tail) f p g e in second x.place refl (newer_second f g (omega (arith, x.more)))
room m (Slot.Whole f) (Slot.Whole h) p g e = go (ltb f h) refl e
  where
    go : (t : Bool) → ltb f h ≡ t → next_of m (cond t (Newest.Second h) (Newest.First f)) ≡ Next.At p g → Room m (Slot.Whole f) (Slot.Whole h) p g
    go true l k = let x = after 0 h p g k in first x.place (rw l) (newer_first g h (omega (arith, x.more)))
    go false l k = let x = after (m + slot_tail) f p g k in second x.place (rw l) (newer_second f g (omega (arith, x.more)))
room m (Slot.Whole f) Slot.Damaged p g e = refused damaged p g e
room m Slot.Damaged b p g e = refused damaged p g e

next_generation : (m : ℕ) (w : Newest) (p g : ℕ) → next_of m w ≡ Next.At p g → (g ≡ generation_of w + 1) × Fits g
next_generation m Newest.Nothing p g e = let x = after 0 0 p g e in (x.more, x.fits)
next_generation m (Newest.First n) p g e = let x = after (m + slot_tail) n p g e in (x.more, x.fits)
next_generation m (Newest.Second n) p g e = let x = after 0 n p g e in (x.more, x.fits)
next_generation m Newest.Damaged p g e = refused damaged p g e

abbrev RoomIn : ℕ → List ℕ → ℕ → ℕ → Type 0
RoomIn m s p g = Room m (slot_in m (slot_at m 0 s)) (slot_in m (slot_at m (m + slot_tail) s)) p g

room_in : (m : ℕ) (s : List ℕ) (p g : ℕ) → next_of m (newest_in m s) ≡ Next.At p g → RoomIn m s p g
unfolding newest_in
room_in m s p g e = room m (slot_in m (slot_at m 0 s)) (slot_in m (slot_at m (m + slot_tail) s)) p g e

room_there : (m : ℕ) (s : List ℕ) (p g : ℕ) → length s ≡ 2 * (m + slot_tail) → RoomIn m s p g → p + (m + slot_tail) ≤ length s
room_there m s p g long (first e k n) = omega arith
room_there m s p g long (second e k n) = omega arith

pub next_inside : (m : ℕ) (s : List ℕ) (p g : ℕ) → length s ≡ 2 * (m + slot_tail) → next_of m (newest_in m s) ≡ Next.At p g → p + (m + slot_tail) ≤ length s
next_inside m s p g long e = room_there m s p g long (room_in m s p g e)

-- ---- a slot t is written into a store s
module _ (m : ℕ) (s t : List ℕ) (long : length s ≡ 2 * (m + slot_tail)) (size : length t ≡ m + slot_tail) where
  slot_there : (p : ℕ) → p + (m + slot_tail) ≤ length s → slot_at m p (sets s p t) ≡ t
  slot_there p h = ap (λ (k : ℕ). take k (drop p (sets s p t))) (sym size) ∙ stored_there s p t (omega arith)

  image_there : (p : ℕ) → p + (m + slot_tail) ≤ length s → image_at m p (sets s p t) ≡ take m t
  image_there p h = sym (take-take m (m + slot_tail) (drop p (sets s p t)) (omega arith)) ∙ ap (take m) (slot_there p h)

  newest_first : newest_in m (sets s 0 t) ≡ newest_of (slot_in m t) (slot_in m (slot_at m (m + slot_tail) s))
  unfolding newest_in
  newest_first = ap₂ (λ (x y : List ℕ). newest_of (slot_in m x) (slot_in m (take (m + slot_tail) y))) (slot_there 0 (omega arith)) (drop_stored (m + slot_tail) s 0 t (omega arith))

  newest_second : newest_in m (sets s (m + slot_tail) t) ≡ newest_of (slot_in m (slot_at m 0 s)) (slot_in m t)
  unfolding newest_in
  newest_second = ap₂ (λ (x y : List ℕ). newest_of (slot_in m x) (slot_in m y)) (take_stored (m + slot_tail) s (m + slot_tail) t (omega arith)) (slot_there (m + slot_tail) (omega arith))

  -- while it is off, the newest slot and the image in it stay
  newest_stays : (p g : ℕ) → RoomIn m s p g → slot_in m t ≡ Slot.Off → newest_in m (sets s p t) ≡ newest_in m s
  unfolding newest_in
  newest_stays p g (first e k n) off = rw (e, newest_first, off, k)
  newest_stays p g (second e k n) off = rw (e, newest_second, off, k)

  module _ (lent : List ℕ) (same : length lent ≡ m) where
    image_second : (b : Slot) → given_by (newest_of Slot.Off b) (sets s 0 t) lent ≡ given_by (newest_of Slot.Off b) s lent
    image_second Slot.Off = refl
    image_second (Slot.Whole h) = ap (λ (l : List ℕ). given 0 (take (length lent) l)) (drop_stored (length lent + slot_tail) s 0 t (omega arith))
    image_second Slot.Damaged = refl

    image_first : (a : Slot) → given_by (newest_of a Slot.Off) (sets s (m + slot_tail) t) lent ≡ given_by (newest_of a Slot.Off) s lent
    image_first Slot.Off = refl
    image_first (Slot.Whole g) = ap (given 0) (take_stored (length lent) s (m + slot_tail) t (omega arith))
    image_first Slot.Damaged = refl

    image_stays : (p g : ℕ) → RoomIn m s p g → given_by (newest_in m s) (sets s p t) lent ≡ given_by (newest_in m s) s lent
    unfolding newest_in
    image_stays p g (first e k n) = rw (e, ← k) (image_second (slot_in m (slot_at m (m + slot_tail) s)))
    image_stays p g (second e k n) = rw (e, ← k) (image_first (slot_in m (slot_at m 0 s)))

    -- with the next generation it is the newest
    image_new : (p g : ℕ) → RoomIn m s p g → slot_in m t ≡ Slot.Whole g → given_by (newest_in m (sets s p t)) (sets s p t) lent ≡ given 0 (take m t)
    image_new p g (first e k n) whole = rw (e, newest_first, whole, n, same, image_there 0 (omega arith))
    image_new p g (second e k n) whole = rw (e, newest_second, whole, n, same, image_there (m + slot_tail) (omega arith))

  generation_new : (p g : ℕ) → RoomIn m s p g → slot_in m t ≡ Slot.Whole g → generation_of (newest_in m (sets s p t)) ≡ g
  generation_new p g (first e k n) whole = rw (e, newest_first, whole, n)
  generation_new p g (second e k n) whole = rw (e, newest_second, whole, n)

-- ---- lengths that fit
pub fit_is : (n m : ℕ) → fit n m ≡ true → (m ≤ longest_image) × (n ≡ 2 * (m + slot_tail))
fit_is n m e = go (leb m longest_image) refl e
  where
    go : (t : Bool) → leb m longest_image ≡ t → (t && eqb n (2 * (m + slot_tail))) ≡ true → (m ≤ longest_image) × (n ≡ 2 * (m + slot_tail))
    go true l k = (leb-true m longest_image l, eqb-true n (2 * (m + slot_tail)) k)
    go false l k = absurd (true≢false (sym k))

-- ---- a seal that was done: where the image went, and with which generation
record Goes (x : Next) : Type 0 where
  place : ℕ
  generation : ℕ
  is : x ≡ Next.At place generation

record Done (s image : List ℕ) (at : ℕ) : Type 0 where
  fits : fit (length s) (length image) ≡ true
  next : Goes (next_of (length image) (newest_in (length image) s))
  leaves : seals_image s image at ≡ sealed 0 (sets s (next).place (slot_of (next).generation image)) (next).place

module _ (s image : List ℕ) (at : ℕ) where
  goes_after : (q n : ℕ) → (sealed_by (next_after q n) s image at).number ≡ 0 → Goes (next_after q n)
  goes_after q n e = go (ltb n last_generation) e
    where
      go : (t : Bool) → (sealed_by (cond t (Next.At q (n + 1)) (Next.Refused spent)) s image at).number ≡ 0 → Goes (cond t (Next.At q (n + 1)) (Next.Refused spent))
      go true k = record { place = q; generation = n + 1; is = refl }
      go false k = absurd (omega arith)

  goes : (m : ℕ) (w : Newest) → (sealed_by (next_of m w) s image at).number ≡ 0 → Goes (next_of m w)
  goes m Newest.Nothing e = record { place = 0; generation = 1; is = refl }
  goes m (Newest.First n) e = goes_after (m + slot_tail) n e
  goes m (Newest.Second n) e = goes_after 0 n e
  goes m Newest.Damaged e = absurd (omega arith)

  done : (seals_image s image at).number ≡ 0 → Done s image at
  unfolding seals_image
  done e = go (fit (length s) (length image)) refl e
    where
      to : Next
      to = next_of (length image) (newest_in (length image) s)

      go : (t : Bool) → fit (length s) (length image) ≡ t → (cond t (sealed_by to s image at) (sealed no_image s at)).number ≡ 0 → Done s image at
      go true f k =
          let x = goes (length image) (newest_in (length image) s) k in
          record { fits = f; next = x; leaves = rw (f, x.is) }
      go false f k = absurd (omega arith)

-- ---- slots that count as others
counts_same : (m : ℕ) (a b : List ℕ) → a ≡ b → CountsAs m a b
counts_same m a b e = record { newest = λ lent h. ap (λ (l : List ℕ). newest_image l lent) e; seals = λ image at h. ap (λ (l : List ℕ). seals_image l image at) e }

-- a store with a slot that is off where the next image goes
module _ (m : ℕ) (s t : List ℕ) (p g : ℕ) (fits : fit (length s) m ≡ true) (size : length t ≡ m + slot_tail) (next : next_of m (newest_in m s) ≡ Next.At p g) (off : slot_in m t ≡ Slot.Off) where
  long : length s ≡ 2 * (m + slot_tail)
  long = (fit_is (length s) m fits).1

  to : RoomIn m s p g
  to = room_in m s p g next

  stays : newest_in m (sets s p t) ≡ newest_in m s
  stays = newest_stays m s t long size p g to off

  sealed_over : (image : List ℕ) → length image ≡ m → sets (sets s p t) p (slot_of g image) ≡ sets s p (slot_of g image)
  sealed_over image h =
      let w : length (slot_of g image) ≡ m + slot_tail = slot_long g image ∙ ap (λ (k : ℕ). k + slot_tail) h in
      stored_over s p t (slot_of g image) (size ∙ sym w) (omega (arith, w, next_inside m s p g long next))

  counts_off : CountsAs m (sets s p t) s
  unfolding newest_image seals_image
  counts_off =
      record {
        newest = λ lent h. rw (length-sets s p t, h, stays, image_stays m s t long size lent h p g to);
        seals = λ image at h. rw (length-sets s p t, h, fits, stays, next, sealed_over image h);
      }

-- ---- the laws
pub slot_torn : SlotTorn
slot_torn s image at c e = rw d.leaves (go c)
  where
    d : Done s image at
    d = done s image at e

    m : ℕ
    m = length image

    p : ℕ
    p = d.next.place

    g : ℕ
    g = d.next.generation

    new : Sealed
    new = sealed 0 (sets s p (slot_of g image)) p

    long : length s ≡ 2 * (m + slot_tail)
    long = (fit_is (length s) m d.fits).1

    inside : p + (m + slot_tail) ≤ length s
    inside = next_inside m s p g long d.next.is

    go : (c : Cut m) → CountsAs m (slots_left m c s new) (slots_meant m c s new)
    go early = counts_same m (sets s p (slot_at m p s)) s (stored_same s p (m + slot_tail) inside)
    go (within body mark l off) = counts_off m s (body ++ (mark ∷ [])) p g d.fits (omega (arith, length-append body (mark ∷ []), l)) d.next.is (slot_off m body mark l off)
    go late = counts_same m (sets s p (slot_at m p new.slots)) new.slots (ap (sets s p) (slot_there m s (slot_of g image) long (slot_long g image) p inside))

pub sealed_back : SealedBack
unfolding newest_image
sealed_back s image at e =
    let d = done s image at e in
    let m = length image in
    let p = d.next.place in
    let g = d.next.generation in
    let r = room_in m s p g d.next.is in
    let n = next_generation m (newest_in m s) p g d.next.is in
    let w = slot_back g image n.1 in
    let long : length s ≡ 2 * (m + slot_tail) = (fit_is (length s) m d.fits).1 in
    rw d.leaves
    (record {
      gives = λ lent h. rw (length-sets s p (slot_of g image), h, d.fits, image_new m s (slot_of g image) long (slot_long g image) lent h p g r w, image_back g image);
      generation = generation_new m s (slot_of g image) long (slot_long g image) p g r w ∙ n.0;
    })
