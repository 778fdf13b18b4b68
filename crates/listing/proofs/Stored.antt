-- Answers that a loop stores one after the other in an array, each at the place after those before. Assumes nothing.
use Prim.Native.Nat.{ℕ, suc, ◌+◌, ◌<◌}
use mathlib.Core.Path.{◌≡◌, sym, ap, ◌∙◌}
use mathlib.Core.List.{List, [], ◌∷◌}
use native.Mathlib.Omega.{arith}
use lib.ListN.{length, set, replicate, length-set, length-replicate}
use Rattle.lists.specs.declared.Entry.{Entry}
use Rattle.lists.specs.Lists.{kept_listed, blank_entry}
use Rattle.places.specs.Act.{replies}
use Rattle.listing.specs.declared.Listing.{Listing}
use Rattle.listing.specs.Listing.{listing, holding}
use Rattle.listing.proofs.ListingLaws.{parts, pushed, listing_holds}
use Rattle.listing.proofs.Answering.{Answering, answering_none, answering_count, answering_turn, answering_end}

-- ---- in a list: one more is stored at the place after its items, which is then one of them
pub answering_store : {B : Type 0} (r : ℕ → Entry → B → Entry) (f : Entry → B → B) (base : Listing) (whole : List Entry) (at ref : ℕ) (left : List Entry) (b : B) (l : Listing)
    → Answering r f base whole at ref left b l → at < length l.items
    → (x : Entry) (rest : List Entry) (next : ℕ) (e : Entry) (b' : B) (l' : Listing)
    → left ≡ x ∷ rest → next ≡ suc ref → e ≡ r ref x b → b' ≡ f x b → l' ≡ parts (at + 1) (set l.items at e)
    → Answering r f base whole (at + 1) next rest b' l'
answering_store r f base whole at ref left b l t room x rest next e b' l' here s told on stored =
    let n : l.n ≡ at = answering_count r f base whole at ref left b l t in
    answering_turn r f base whole at ref left b l t x rest next e b' l' here s told on
    (stored ∙ ap (λ (k : ℕ). parts (k + 1) (set l.items k e)) (sym n) ∙ pushed l e (omega arith))

-- ---- in an array of which the first `at` are told: what stands past them is as it was in `base`
pub record Storing {B : Type 0} (r : ℕ → Entry → B → Entry) (f : Entry → B → B) (base : Listing) (whole : List Entry) (at ref : ℕ) (left : List Entry) (b : B) (items : List Entry) : Type 0 where
  pub long : length items ≡ kept_listed
  pub told : Answering r f base whole at ref left b (parts at items)

-- before the first turn all are blank
pub storing_none : {B : Type 0} {r : ℕ → Entry → B → Entry} {f : Entry → B → B} {first ref : ℕ} {left : List Entry} {b : B} {items : List Entry}
    → items ≡ replicate kept_listed blank_entry → ref ≡ first → Storing r f (listing []) (replies r f first left b) 0 ref left b items
storing_none blank at = record { long = ap length blank ∙ length-replicate kept_listed blank_entry; told = answering_none (ap (parts 0) blank) at }

module _ {B : Type 0} {r : ℕ → Entry → B → Entry} {f : Entry → B → B} {base : Listing} {whole : List Entry} {at ref : ℕ} {left : List Entry} {b : B} {items : List Entry} (t : Storing r f base whole at ref left b items) where
  -- one more is stored: that of x
  pub storing_turn : {x : Entry} {rest : List Entry} {next : ℕ} {e : Entry} {b' : B} {items' : List Entry}
      → at < kept_listed → left ≡ x ∷ rest → next ≡ suc ref → e ≡ r ref x b → b' ≡ f x b → items' ≡ set items at e
      → Storing r f base whole (at + 1) next rest b' items'
  storing_turn {x} {rest} {next} {e} {b'} {items'} room here s told on stored =
      record {
        long = ap length stored ∙ length-set items at e ∙ t.long;
        told = answering_store r f base whole at ref left b (parts at items) t.told (omega (arith, t.long)) x rest next e b' (parts (at + 1) items') here s told on (ap (parts (at + 1)) stored);
      }

  -- none is left: the first n are the whole
  pub storing_end : {n : ℕ} → left ≡ [] → n ≡ at → parts n items ≡ holding whole base
  storing_end none all = ap (λ (k : ℕ). parts k items) all ∙ answering_end r f base whole at ref left b (parts at items) t.told none

-- from blanks on
pub storing_list : {B : Type 0} {r : ℕ → Entry → B → Entry} {f : Entry → B → B} {whole : List Entry} {at ref n : ℕ} {left : List Entry} {b : B} {items : List Entry}
    → Storing r f (listing []) whole at ref left b items → left ≡ [] → n ≡ at → parts n items ≡ listing whole
storing_list {whole = whole} t none all = storing_end t none all ∙ listing_holds whole
