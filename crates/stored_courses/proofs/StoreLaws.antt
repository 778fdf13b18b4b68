-- What stands in slots after a call's image was sealed and stored, whole or cut short, whichever the side. Assumes nothing.
use Rattle.std.proofs.Common.{Option, Some}
use Prim.Native.Nat.{ℕ, zero, suc}
use mathlib.Core.Path.{◌≡◌, refl, sym, ap, subst, ◌∙◌}
use mathlib.Core.Bool.{false≢true}
use mathlib.Core.List.{List, [], ◌∷◌}
use lib.ListN.{length}
use Rattle.image.specs.Keeping.{Keeping, standing}
use Rattle.image.specs.OnImage.{Result, did, refused, Left, left, leaves, on_image, stands_for, stands_after, Calls, result_in}
use Rattle.image.proofs.KeepingLaws.{standing_is}
use Rattle.lilmorask_store.specs.Store.{Given, newest_image, seals_image}
use Rattle.lilmorask_store.specs.Torn.{Cut, early, within, late, slots_meant}
use Rattle.lilmorask_store.proofs.SlotLaws.{slot_torn, sealed_back}
use Rattle.stored_courses.specs.OnStores.{Stands, Part, Call, quiet, answers, Promised, Works, Stored, mark_on, is_stored, SlotsAfter, Closes, ClosesAfter, GaveUp}

-- ---- what a call makes of a side: the number that it gives back, the side after it, what it tells
abbrev pub number_of : {S : Type 0} → Result S → ℕ
number_of (did n q) = 0
number_of (refused n) = n

abbrev pub side_after : {S : Type 0} → S → Result S → S
side_after p (did n q) = q
side_after p (refused n) = p

abbrev pub told_by : {S : Type 0} → ℕ → Result S → ℕ
told_by t (did n q) = n
told_by t (refused n) = t

abbrev pub result_of : {S : Type 0} → Call S → List ℕ → S → Result S
result_of (quiet f) out = f
result_of (answers f) out = result_in (f out)

-- the side that counts after the first k moments of a call that gave back n: p before it, q after it
abbrev pub side_at : {S : Type 0} → ℕ → ℕ → S → S → S
side_at zero zero q p = p
side_at zero (suc k) q p = q
side_at (suc n) k q p = p

module _ {S : Type 0} (k : Keeping S) where
  -- ---- a sealed image is stored
  pub whole_stands : (slots image slots' : List ℕ) (q : S) → standing k image ≡ Some q → Stored slots image late slots' → Stands k slots' q
  whole_stands slots image slots' q e s =
      let long : length image ≡ k.size = (standing_is k image q e).long in
      record {
        image = image;
        newest = λ lent h.
            ap (λ (l : List ℕ). newest_image l lent) s.left
            ∙ (slot_torn slots image s.at late s.sealed).newest lent (h ∙ sym long)
            ∙ (sealed_back slots image s.at s.sealed).gives lent (h ∙ sym long);
        stands = e;
      }

  -- or not all of it
  torn_stands : (slots image slots' : List ℕ) (c : Cut (length image)) (p q : S) → standing k image ≡ Some q → Stands k slots p → (s : Stored slots image c slots')
      → slots_meant (length image) c slots (seals_image slots image s.at) ≡ slots → Stands k slots' p
  torn_stands slots image slots' c p q e h s meant =
      let long : length image ≡ k.size = (standing_is k image q e).long in
      record {
        image = h.image;
        newest = λ lent l.
            ap (λ (x : List ℕ). newest_image x lent) s.left
            ∙ (slot_torn slots image s.at c s.sealed).newest lent (l ∙ sym long)
            ∙ ap (λ (x : List ℕ). newest_image x lent) meant
            ∙ h.newest lent l;
        stands = h.stands;
      }

  module _ (slots image slots' : List ℕ) (p q : S) (e : standing k image ≡ Some q) (h : Stands k slots p) where
    stored_stands : (j : ℕ) (c : Cut (length image)) → mark_on c ≡ is_stored j → Stored slots image c slots' → Stands k slots' (side_at zero j q p)
    stored_stands zero early m s = torn_stands slots image slots' early p q e h s refl
    stored_stands zero (within body mark long off) m s = torn_stands slots image slots' (within body mark long off) p q e h s refl
    stored_stands zero late m s = absurd (false≢true (sym m))
    stored_stands (suc j) early m s = absurd (false≢true m)
    stored_stands (suc j) (within body mark long off) m s = absurd (false≢true m)
    stored_stands (suc j) late m s = whole_stands slots image slots' q e s

    pub slots_stand : (n j : ℕ) → SlotsAfter n j image slots slots' → Stands k slots' (side_at n j q p)
    slots_stand zero j s = stored_stands j s.cut s.moment s.stored
    slots_stand (suc n) j s = subst (λ (x : List ℕ). Stands k x p) (sym s) h

  -- ---- a call on the image in which a side stands
  number_left : (r : Result S) (s : List ℕ) (t : ℕ) → (leaves k r s t).number ≡ number_of r
  number_left (did n q) s t = refl
  number_left (refused n) s t = refl

  told_left : (r : Result S) (s : List ℕ) (t : ℕ) → (leaves k r s t).told ≡ told_by t r
  told_left (did n q) s t = refl
  told_left (refused n) s t = refl

  stands_left : (r : Result S) (p : S) → stands_for r (Some p) ≡ Some (side_after p r)
  stands_left (did n q) p = refl
  stands_left (refused n) p = refl

  pub record Called (r : Result S) (p : S) (told n : ℕ) (image' : List ℕ) (told' : ℕ) : Type 0 where
    pub number : n ≡ number_of r
    pub tells : told' ≡ told_by told r
    pub stands : standing k image' ≡ Some (side_after p r)

  called : (p : S) (image : List ℕ) → standing k image ≡ Some p → (f : S → Result S) (told n : ℕ) (image' : List ℕ) (told' : ℕ) → Calls k f image told n image' told' → Called (f p) p told n image' told'
  called p image e f told n image' told' h =
      let is : left n image' told' ≡ leaves k (f p) image told = h.0 ∙ ap (λ (x : Option S). on_image k f x image told) e in
      record {
        number = ap (λ (x : Left). x.number) is ∙ number_left (f p) image told;
        tells = ap (λ (x : Left). x.told) is ∙ told_left (f p) image told;
        stands = h.1 ∙ ap (stands_after f) e ∙ stands_left (f p) p;
      }

  promised_calls : (c : Call S) (image : List ℕ) (told : ℕ) (out : List ℕ) (n : ℕ) (image' : List ℕ) (told' : ℕ) (out' : List ℕ) → Promised k c image told out n image' told' out' → Calls k (result_of c out) image told n image' told'
  promised_calls (quiet f) image told out n image' told' out' h = h
  promised_calls (answers f) image told out n image' told' out' h = h.0

  -- it is the side that stands in the slots
  module _ {size : ℕ} {c : Call S} {slots : List ℕ} {n : ℕ} (w : Works k size c slots n) (p : S) (h : Stands k slots p) where
    pub found : standing k w.image ≡ Some p
    found = ap (λ (x : Given). standing k x.image) (sym w.newest ∙ h.newest w.lent w.long) ∙ h.stands

    pub works_called : Called (result_of c w.out p) p w.told n w.image' w.told'
    works_called = called p w.image found (result_of c w.out) w.told n w.image' w.told' (promised_calls c w.image w.told w.out n w.image' w.told' w.out' w.promised)

-- ---- a side gives up, however often the power goes in that
module _ {S : Type 0} (a : Part S) (again : (p : S) → a.gives_up (a.gives_up p) ≡ a.gives_up p) where
  closes : (j : ℕ) (slots slots' : List ℕ) (p : S) → Stands a.keeping slots p → Closes a j slots slots' → Stands a.keeping slots' (side_at zero j (a.gives_up p) p)
  closes j slots slots' p h c = slots_stand a.keeping slots c.works.image' slots' p (a.gives_up p) (works_called a.keeping c.works p h).stands h zero j c.stored

  closes_after : (cuts : List (ℕ × List ℕ)) (slots slots' : List ℕ) (p : S) → Stands a.keeping slots p → ClosesAfter a cuts slots slots' → Stands a.keeping slots' (a.gives_up p)
  closes_after [] slots slots' p h c = closes 2 slots slots' p h c
  closes_after (x ∷ xs) slots slots' p h c = go x.0 (closes x.0 slots x.1 p h c.0) (λ q i. closes_after xs x.1 slots' q i c.1)
    where
      go : (j : ℕ) → Stands a.keeping x.1 (side_at zero j (a.gives_up p) p) → ((q : S) → Stands a.keeping x.1 q → Stands a.keeping slots' (a.gives_up q)) → Stands a.keeping slots' (a.gives_up p)
      go zero i rest = rest p i
      go (suc j) i rest = subst (Stands a.keeping slots') (again p) (rest (a.gives_up p) i)

  pub gave_up : (slots slots' : List ℕ) (p : S) → Stands a.keeping slots p → GaveUp a slots slots' → Stands a.keeping slots' (a.gives_up p)
  gave_up slots slots' p h g = closes_after g.cuts slots slots' p h g.closed
