-- One place of the server changes: what has to hold of the record there for the invariant to stay. Assumes nothing.
use Prim.Native.Nat.{ℕ, ◌≤◌}
use mathlib.Core.Path.{◌≡◌, ◌∙◌}
use mathlib.Core.Bool.{true, false}
use native.Mathlib.Omega.{arith}
use Rattle.places.proofs.TableLaws.{by_place}
use Rattle.places.specs.Act.{Slot, free, holds}
use Rattle.places.proofs.KeptLaws.{Holds}
use Rattle.places.proofs.Held.{of_each}
use Rattle.cards.specs.declared.Card.{Card}
use Rattle.cards.specs.declared.Cards.{Cards}
use Rattle.cards.specs.Press as press
use Rattle.records.specs.declared.Mark as rec
use Rattle.records.specs.declared.Record.{Record}
use Rattle.records.specs.declared.Records.{Records}
use Rattle.records.specs.Server.{no_record}
use Rattle.record_moves.specs.Named.{table_of, is_paired, Safe}
use Rattle.server_each.proofs.EachRecord.{record_at}
use Rattle.press_tells.specs.Tell.{is_added}
use Rattle.pairs.proofs.Invariant.{card_at, IsOf, Pair, RecordOK, Recorded, Owned, Invariant}

-- the place still holds the record of x
abbrev pub StillOf : Card → Slot Record → Type 0
StillOf x free = ⊥
StillOf x (holds y) = IsOf x y

-- a card that has a record: not an added one
pub record HasOne (x : Card) : Type 0 where
  pub live : press.is_live x.mark ≡ true
  pub old : is_added x.mark ≡ false

-- a record that needs an entry
abbrev pub NeedsOwner : Cards → Record → Type 0
NeedsOwner c y = is_paired y ≡ true → (y.pairing.mark ≡ rec.Mark.Deleted → ⊥) → Owned c y

-- what the new content z of place j has to be, against each entry
pub record Fits (c : Cards) (s : Records) (j : ℕ) (z : Slot Record) : Type 0 where
  pub ok : Holds (RecordOK c) z
  pub pairs : (i : ℕ) (x : Card) → card_at c i ≡ holds x → Holds (Pair x) z
  pub owned : Holds (NeedsOwner c) z
  -- a card whose record stood there still has it
  pub still : (i : ℕ) (x : Card) → card_at c i ≡ holds x → HasOne x → (y : Record) → record_at s j ≡ holds y → IsOf x y → StillOf x z

module _ (c : Cards) (s s' : Records) (j : ℕ) (z : Slot Record) (here : record_at s' j ≡ z) (other : (k : ℕ) → (k ≡ j → ⊥) → record_at s' k ≡ record_at s k) where
  -- a law of all records
  pub of_all_lem : (P : Record → Type 0) → ((k : ℕ) (y : Record) → record_at s k ≡ holds y → P y) → Holds P z → (k : ℕ) (y : Record) → record_at s' k ≡ holds y → P y
  of_all_lem P old new = of_each no_record (table_of s) (table_of s') j z here other (λ k. P) (λ k y ne e. old k y e) new

  still_at : (x : Card) (w : Slot Record) → record_at s' j ≡ w → StillOf x w → Recorded s' x
  still_at x free e h = absurd h
  still_at x (holds y) e h = record { place = j; record' = y; here = e; is = h }

  pub record_put : Safe s' → s.guid ≤ s'.guid → Fits c s j z → Invariant c s → Invariant c s'
  record_put safe up f h =
      record {
        formed = h.formed;
        safe = safe;
        entries = λ i x e. let k = h.entries i x e in record { bare = k.bare; older = k.older; known = λ on. omega (arith, k.known on, up) };
        records = of_all_lem (RecordOK c) h.records f.ok;
        pairs = λ i x e. of_all_lem (Pair x) (h.pairs i x e) (f.pairs i x e);
        guids = h.guids;
        recorded = λ i x e live old. keep i x e (record { live = live; old = old }) (h.recorded i x e live old);
        owned = of_all_lem (NeedsOwner c) h.owned f.owned;
      }
    where
      keep : (i : ℕ) (x : Card) → card_at c i ≡ holds x → HasOne x → Recorded s x → Recorded s' x
      keep i x e one r =
          by_place j (λ k. record_at s k ≡ holds r.record' → Recorded s' x)
          (λ w. still_at x z here (f.still i x e one r.record' w r.is))
          (λ k ne w. record { place = k; record' = r.record'; here = other k ne ∙ w; is = r.is })
          r.place r.here
