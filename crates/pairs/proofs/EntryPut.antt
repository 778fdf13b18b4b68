-- One place of the press changes: what has to hold of the entry there for the invariant to stay. Assumes nothing.
use Prim.Native.Nat.{ℕ, ◌≤◌}
use mathlib.Core.Path.{◌≡◌, refl, sym, ◌∙◌}
use mathlib.Core.Bool.{true, false}
use native.Mathlib.Omega.{arith}
use Rattle.places.proofs.TableLaws.{by_place}
use Rattle.places.specs.Act.{Slot, free, holds}
use Rattle.places.proofs.KeptLaws.{Holds}
use Rattle.places.proofs.Held.{in_slot, of_each}
use Rattle.cards.specs.declared.Card.{Card}
use Rattle.cards.specs.declared.Cards.{Cards}
use Rattle.cards.specs.Press as press
use Rattle.records.specs.declared.Mark as rec
use Rattle.records.specs.declared.Record.{Record}
use Rattle.records.specs.declared.Records.{Records}
use Rattle.record_moves.specs.Named.{is_paired, has_luid}
use Rattle.card_moves.specs.Moves as moves
use Rattle.server_each.proofs.EachRecord.{record_at}
use Rattle.press_tells.specs.Tell.{is_added}
use Rattle.pairs.proofs.Invariant.{card_at, FromServer, Pair, EntryOK, Recorded, Owned, Invariant}

-- the place still has the entry of y
abbrev pub StillOwns : Record → Slot Card → Type 0
StillOwns y free = ⊥
StillOwns y (holds x) = has_luid x.luid y ≡ true

-- no other entry has a report with this one's GUID
abbrev pub SoleReport : Cards → ℕ → Card → Type 0
SoleReport c i x = FromServer x → (k : ℕ) (w : Card) → (k ≡ i → ⊥) → card_at c k ≡ holds w → FromServer w → x.report.guid.0 ≡ w.report.guid.0 → ⊥

abbrev pub NeedsRecord : Records → Card → Type 0
NeedsRecord s x = press.is_live x.mark ≡ true → is_added x.mark ≡ false → Recorded s x

pub record FitsHere (c : Cards) (s : Records) (i : ℕ) (z : Slot Card) : Type 0 where
  pub ok : Holds (EntryOK s) z
  pub pairs : (j : ℕ) (y : Record) → record_at s j ≡ holds y → Holds (λ x. Pair x y) z
  pub sole : Holds (SoleReport c i) z
  pub recorded : Holds (NeedsRecord s) z
  -- a record whose entry stood there still has it
  pub still : (j : ℕ) (y : Record) → record_at s j ≡ holds y → is_paired y ≡ true → (y.pairing.mark ≡ rec.Mark.Deleted → ⊥) → (x : Card) → card_at c i ≡ holds x → has_luid x.luid y ≡ true → StillOwns y z

module _ (c c' : Cards) (s : Records) (i : ℕ) (z : Slot Card) (here : card_at c' i ≡ z) (other : (k : ℕ) → (k ≡ i → ⊥) → card_at c' k ≡ card_at c k) where
  -- a law of all entries
  of_entries : (P : ℕ → Card → Type 0) → ((k : ℕ) (x : Card) → (k ≡ i → ⊥) → card_at c k ≡ holds x → P k x) → Holds (P i) z → (k : ℕ) (x : Card) → card_at c' k ≡ holds x → P k x
  of_entries = of_each press.no_card (moves.table_of c) (moves.table_of c') i z here other

  pub entry_put : press.WellFormed c' → c.luid ≤ c'.luid → c.fp ≤ c'.fp → FitsHere c s i z → Invariant c s → Invariant c' s
  entry_put formed more newer f h =
      record {
        formed = formed;
        safe = h.safe;
        entries = of_entries (λ k. EntryOK s) (λ k x ne e. h.entries k x e) f.ok;
        records = λ j y e. let k = h.records j y e in record { unclean = k.unclean; low = omega (arith, k.low, more); known = omega (arith, k.known, newer) };
        pairs = λ k x e j y w. of_entries (λ k x. Pair x y) (λ k x ne e. h.pairs k x e j y w) (f.pairs j y w) k x e;
        guids = guids;
        recorded = of_entries (λ k. NeedsRecord s) (λ k x ne e. h.recorded k x e) f.recorded;
        owned = λ j y e p d. keep j y e p d (h.owned j y e p d);
      }
    where
      still_at : (y : Record) (w : Slot Card) → card_at c' i ≡ w → StillOwns y w → Owned c' y
      still_at y free e k = absurd k
      still_at y (holds x) e k = record { place = i; card = x; here = e; is = k }

      keep : (j : ℕ) (y : Record) → record_at s j ≡ holds y → is_paired y ≡ true → (y.pairing.mark ≡ rec.Mark.Deleted → ⊥) → Owned c y → Owned c' y
      keep j y w p d o =
          by_place i (λ k. card_at c k ≡ holds o.card → Owned c' y) (λ e. still_at y z here (f.still j y w p d o.card e o.is))
          (λ k ne e. record { place = k; card = o.card; here = other k ne ∙ e; is = o.is }) o.place o.here

      -- the new one against an old one
      apart : (x : Card) → z ≡ holds x → (k : ℕ) (w : Card) → (k ≡ i → ⊥) → card_at c k ≡ holds w → FromServer x → FromServer w → x.report.guid.0 ≡ w.report.guid.0 → ⊥
      apart x q k w ne g a b m = in_slot (SoleReport c i) z f.sole x q a k w ne g b m

      guids : (k n : ℕ) (x w : Card) → card_at c' k ≡ holds x → card_at c' n ≡ holds w → FromServer x → FromServer w → x.report.guid.0 ≡ w.report.guid.0 → k ≡ n
      guids k n x w e g a b m =
          by_place i (λ k. card_at c' k ≡ holds x → k ≡ n)
          (λ e. by_place i (λ n. card_at c' n ≡ holds w → i ≡ n) (λ g. refl) (λ n ne g. absurd (apart x (sym here ∙ e) n w ne (sym (other n ne) ∙ g) a b m)) n g)
          (λ k ne e. by_place i (λ n. card_at c' n ≡ holds w → k ≡ n) (λ g. absurd (apart w (sym here ∙ g) k x ne (sym (other k ne) ∙ e) b a (sym m)))
          (λ n nn g. h.guids k n x w (sym (other k ne) ∙ e) (sym (other n nn) ∙ g) a b m) n g)
          k e
