-- What a number gives, by what the places hold: tables that hold the same give the same; and the last sentence of demand 3. Assumes nothing.
use Rattle.std.proofs.Common.{Option}
use Rattle.std.proofs.Common.{Some, None}
use Prim.Native.Nat.{ℕ}
use mathlib.Core.Path.{◌≡◌, refl, sym, ap, ◌∙◌, subst}
use mathlib.Core.Bool.{Bool, true, ◌&&◌}
use lib.Dec.{eqb}
use lib.ListN.{get_or}
use borrow.Author.Tests.{eqb-true, eq-eqb}
use Rattle.places.specs.Table.{entry_found, Sound}
use Rattle.places.proofs.Choice.{and_first, and_second, never}
use Rattle.places.specs.Act.{Table, holds, find}
use Rattle.places.proofs.KeptLaws.{Hit, find_hit}
use Rattle.places.proofs.Views.{view, found}
use Rattle.places.proofs.Held.{hit_holds, holds_hit, holds_is}
use Rattle.terms.specs.declared.Luid.{Luid}
use Rattle.terms.specs.declared.Guid.{Guid}
use Rattle.cards.specs.declared.Card.{Card}
use Rattle.cards.specs.declared.Cards.{Cards}
use Rattle.cards.specs.Press as press
use Rattle.records.specs.declared.Record.{Record}
use Rattle.records.specs.declared.Records.{Records}
use Rattle.records.specs.Server as server
use Rattle.record_moves.specs.Named.{table_of}
use Rattle.card_moves.specs.Moves as moves
use Rattle.server_each.proofs.EachRecord.{record_at}
use Rattle.pairs.proofs.Invariant.{card_at}

-- ---- any table of numbered entries
module _ {A : Type 0} (num : A → ℕ) (live : A → Bool) (d : A) where
  abbrev has : ℕ → A → Bool
  has n x = live x && eqb (num x) n

  abbrev given : ℕ → Table A → Option A
  given n t = entry_found d t.places (find (has n) t)

  pub record Stood (t : Table A) (n : ℕ) (x : A) : Type 0 where
    pub place : ℕ
    pub here : view d t place ≡ holds x
    pub live' : live x ≡ true
    pub number : num x ≡ n

  gives : (t : Table A) (last : ℕ) → Sound num d t.used t.places last → (n : ℕ) (x : A) → Stood t n x → given n t ≡ Some x
  gives t last s n x k =
      let pass : has n x ≡ true = ap (λ (b : Bool). b && eqb (num x) n) k.live' ∙ eq-eqb (num x) n k.number in
      ap (entry_found d t.places) (found d (has n) t (λ i j a b. s.apart i j a.used b.used (is i a ∙ sym (is j b))) k.place (holds_hit d (has n) t k.place x k.here pass))
      ∙ ap Some (holds_is d t k.place x k.here)
    where
      is : (i : ℕ) → Hit d (has n) t i → num (get_or t.places i d) ≡ n
      is i a = eqb-true (num (get_or t.places i d)) n (and_second (live (get_or t.places i d)) (eqb (num (get_or t.places i d)) n) a.passes)

  from : (t : Table A) (n : ℕ) (x : A) → given n t ≡ Some x → Stood t n x
  from t n x e = go (find (has n) t) refl e
    where
      go : (r : Option ℕ) → find (has n) t ≡ r → entry_found d t.places r ≡ Some x → Stood t n x
      go None q w = never (cc)
      go (Some i) q w =
          let a = find_hit d (has n) t i q in
          let is : get_or t.places i d ≡ x = cc in
          let p : has n x ≡ true = subst (λ (y : A). has n y ≡ true) is a.passes in
          record { place = i; here = hit_holds d (has n) t i a ∙ ap holds is; live' = and_first (live x) (eqb (num x) n) p; number = eqb-true (num x) n (and_second (live x) (eqb (num x) n) p) }

  -- tables that hold the same give the same
  same_given : (t u : Table A) (k l : ℕ) → Sound num d t.used t.places k → Sound num d u.used u.places l → ((i : ℕ) → view d t i ≡ view d u i) → (n : ℕ) → given n t ≡ given n u
  same_given t u k l a b same n = go (given n t) (given n u) refl refl
    where
      over : (x : A) → given n t ≡ Some x → given n u ≡ Some x
      over x e = let s = from t n x e in gives u l b n x (record { place = s.place; here = sym (same s.place) ∙ s.here; live' = s.live'; number = s.number })

      back : (x : A) → given n u ≡ Some x → given n t ≡ Some x
      back x e = let s = from u n x e in gives t k a n x (record { place = s.place; here = same s.place ∙ s.here; live' = s.live'; number = s.number })

      go : (x y : Option A) → given n t ≡ x → given n u ≡ y → given n t ≡ given n u
      go (Some x) y e f = e ∙ sym (over x e)
      go None (Some y) e f = back y f ∙ sym f
      go None None e f = e ∙ sym f

-- ---- the press's cards and the server's records
abbrev live_card : Card → Bool
live_card x = press.is_live x.mark

abbrev live_record : Record → Bool
live_record y = server.is_live y.pairing.mark

abbrev pub CardStood : Cards → ℕ → Card → Type 0
CardStood c n x = Stood press.luid_of live_card press.no_card (moves.table_of c) n x

abbrev pub RecordStood : Records → ℕ → Record → Type 0
RecordStood s n y = Stood server.guid_of live_record server.no_record (table_of s) n y

module _ (c : Cards) (l : Luid) where
  pub card_gives : press.WellFormed c → (x : Card) → CardStood c l.0 x → press.card_of c l ≡ Some x
  unfolding press.find_card find
  card_gives w = gives press.luid_of live_card press.no_card (moves.table_of c) c.luid w.luids l.0

  pub card_from : (x : Card) → press.card_of c l ≡ Some x → CardStood c l.0 x
  unfolding press.find_card find
  card_from = from press.luid_of live_card press.no_card (moves.table_of c) l.0

module _ (s : Records) (g : Guid) where
  pub record_gives : server.WellFormed s → (y : Record) → RecordStood s g.0 y → server.record_of s g ≡ Some y
  unfolding server.find_record find
  record_gives w = gives server.guid_of live_record server.no_record (table_of s) s.guid w.guids g.0

  pub record_from : (y : Record) → server.record_of s g ≡ Some y → RecordStood s g.0 y
  unfolding server.find_record find
  record_from = from server.guid_of live_record server.no_record (table_of s) g.0

pub same_cards_lem : (c e : Cards) → press.WellFormed c → press.WellFormed e → ((i : ℕ) → card_at c i ≡ card_at e i) → (l : Luid) → press.card_of c l ≡ press.card_of e l
unfolding press.find_card find
same_cards_lem c e w v same l = same_given press.luid_of live_card press.no_card (moves.table_of c) (moves.table_of e) c.luid e.luid w.luids v.luids same l.0

pub same_records_lem : (s f : Records) → server.WellFormed s → server.WellFormed f → ((j : ℕ) → record_at s j ≡ record_at f j) → (g : Guid) → server.record_of s g ≡ server.record_of f g
unfolding server.find_record find
same_records_lem s f w v same g = same_given server.guid_of live_record server.no_record (table_of s) (table_of f) s.guid f.guid w.guids v.guids same g.0
