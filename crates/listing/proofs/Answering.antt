-- Answers that a loop tells one after the other, each at the end of the list. Assumes nothing.
use Prim.Native.Nat.{ℕ, suc, ◌+◌}
use mathlib.Core.Path.{◌≡◌, refl, sym, ap, ◌∙◌}
use mathlib.Core.List.{List, [], ◌∷◌, ◌++◌}
use native.Mathlib.Omega.{arith}
use lib.ListN.{length, length-append}
use Rattle.lists.specs.declared.Entry.{Entry}
use Rattle.places.specs.Act.{replies}
use Rattle.places.proofs.Turns.{replies_step, replies_end}
use Rattle.listing.specs.declared.Listing.{Listing}
use Rattle.listing.specs.Listing.{listing, items_of, holding}
use Rattle.listing.proofs.ListingLaws.{holding_count, holds_more, listing_holds}

-- the list that was `base` has those told so far, the first `at` of the whole; those left will be told, the first of them with number ref
pub record Answering {B : Type 0} (r : ℕ → Entry → B → Entry) (f : Entry → B → B) (base : Listing) (whole : List Entry) (at ref : ℕ) (left : List Entry) (b : B) (l : Listing) : Type 0 where
  pub made : List Entry
  pub kept : l ≡ holding made base
  pub count : length made ≡ at
  pub gives : made ++ replies r f ref left b ≡ whole

-- before the first turn, with an empty list
pub answering_none : {B : Type 0} {r : ℕ → Entry → B → Entry} {f : Entry → B → B} {first ref : ℕ} {left : List Entry} {b : B} {l : Listing}
    → l ≡ listing [] → ref ≡ first → Answering r f (listing []) (replies r f first left b) 0 ref left b l
answering_none {r = r} {f = f} {left = left} {b = b} none at =
    record { made = []; kept = none ∙ sym (listing_holds []); count = refl; gives = ap (λ (k : ℕ). replies r f k left b) at }

module _ {B : Type 0} (r : ℕ → Entry → B → Entry) (f : Entry → B → B) (base : Listing) (whole : List Entry) (at ref : ℕ) (left : List Entry) (b : B) (l : Listing) (t : Answering r f base whole at ref left b l) where
  pub answering_count : l.n ≡ at
  answering_count = ap (λ (m : Listing). m.n) t.kept ∙ holding_count t.made base ∙ t.count

  -- one more is told: that of x
  pub answering_turn : (x : Entry) (rest : List Entry) (next : ℕ) (e : Entry) (b' : B) (l' : Listing)
      → left ≡ x ∷ rest → next ≡ suc ref → e ≡ r ref x b → b' ≡ f x b → l' ≡ holding (items_of l ++ (e ∷ [])) l
      → Answering r f base whole (at + 1) next rest b' l'
  answering_turn x rest next e b' l' here s told on pushed =
      record {
        made = t.made ++ (e ∷ []);
        kept = holds_more t.made (e ∷ []) base l l' t.kept pushed;
        count = omega (arith, t.count, length-append t.made (e ∷ []));
        gives =
            ap (λ (y : Entry). (t.made ++ (y ∷ [])) ++ replies r f next rest b') told
            ∙ ap (λ (c : B). (t.made ++ (r ref x b ∷ [])) ++ replies r f next rest c) on
            ∙ replies_step r f t.made ref left b rest x next s here
            ∙ t.gives;
      }

  -- none is left
  pub answering_end : left ≡ [] → l ≡ holding whole base
  answering_end none = t.kept ∙ ap (λ (xs : List Entry). holding xs base) (sym (replies_end r f t.made ref left b none) ∙ t.gives)
