-- LUIDs and GUIDs stand once: one entry of the press has a LUID, one record of the server a LUID or a GUID. Assumes nothing.
use Prim.Native.Nat.{ℕ, ◌≤◌}
use mathlib.Core.Path.{◌≡◌, sym, ap, ◌∙◌, subst}
use mathlib.Core.Bool.{true}
use lib.ListN.{get_or}
use Rattle.places.specs.Set.{in_use}
use Rattle.places.specs.Act.{holds}
use Rattle.places.proofs.Views.{holds_used}
use Rattle.places.proofs.Held.{holds_one, holds_is}
use Rattle.terms.specs.declared.Luid.{Luid}
use Rattle.cards.specs.declared.Card.{Card}
use Rattle.cards.specs.declared.Cards.{Cards}
use Rattle.cards.specs.Press as press
use Rattle.records.specs.declared.Record.{Record}
use Rattle.records.specs.declared.Records.{Records}
use Rattle.records.specs.Server.{no_record}
use Rattle.record_moves.specs.Named.{table_of, has_luid, Safe}
use Rattle.card_moves.specs.Moves as moves
use Rattle.server_each.proofs.EachRecord.{record_at, luid_once}
use Rattle.pairs.proofs.Invariant.{card_at}

-- ---- one entry of a well-formed press
module _ (c : Cards) (f : press.WellFormed c) (i : ℕ) (x : Card) (e : card_at c i ≡ holds x) where
  used : in_use c.used i ≡ true
  used = holds_used press.no_card (moves.table_of c) i x e

  stands : get_or c.places i press.no_card ≡ x
  stands = holds_is press.no_card (moves.table_of c) i x e

  pub luid_least : 1 ≤ x.luid.0
  luid_least = subst (λ (z : Card). 1 ≤ z.luid.0) stands (f.luids.least i used)

  pub luid_given : x.luid.0 ≤ c.luid
  luid_given = subst (λ (z : Card). z.luid.0 ≤ c.luid) stands (f.luids.given i used)

  pub fp_given : x.fp ≤ c.fp
  fp_given = subst (λ (z : Card). z.fp ≤ c.fp) stands (f.cards i used).1

  pub report_luid : x.report.on ≡ true → x.report.luid ≡ x.luid
  report_luid = subst (λ (z : Card). z.report.on ≡ true → z.report.luid ≡ z.luid) stands (f.cards i used).3

pub luid_apart : (c : Cards) → press.WellFormed c → (i k : ℕ) (x z : Card) → card_at c i ≡ holds x → card_at c k ≡ holds z → x.luid.0 ≡ z.luid.0 → i ≡ k
luid_apart c f i k x z e g h =
    f.luids.apart i k (used c f i x e) (used c f k z g) (ap (λ (w : Card). w.luid.0) (stands c f i x e) ∙ (h ∙ sym (ap (λ (w : Card). w.luid.0) (stands c f k z g))))

-- two entries with one LUID are one
pub one_entry : (c : Cards) → press.WellFormed c → (i k : ℕ) (x z : Card) → card_at c i ≡ holds x → card_at c k ≡ holds z → x.luid.0 ≡ z.luid.0 → x ≡ z
one_entry c f i k x z e g q = holds_one x z (sym e ∙ (ap (card_at c) (luid_apart c f i k x z e g q) ∙ g))

-- ---- one record of a safe server
module _ (s : Records) (h : Safe s) (j : ℕ) (y : Record) (w : record_at s j ≡ holds y) where
  pub guid_least : 1 ≤ y.guid.0
  guid_least = subst (λ (z : Record). 1 ≤ z.guid.0) (holds_is no_record (table_of s) j y w) (h.formed.guids.least j (holds_used no_record (table_of s) j y w))

  pub guid_given : y.guid.0 ≤ s.guid
  guid_given = subst (λ (z : Record). z.guid.0 ≤ s.guid) (holds_is no_record (table_of s) j y w) (h.formed.guids.given j (holds_used no_record (table_of s) j y w))

  -- another place with the same LUID or GUID is the same
  module _ (k : ℕ) (v : Record) (u : record_at s k ≡ holds v) where
    pub luid_place : (l : Luid) → has_luid l y ≡ true → has_luid l v ≡ true → j ≡ k
    luid_place l a b =
        luid_once s h l j k (holds_used no_record (table_of s) j y w) (holds_used no_record (table_of s) k v u) (ap (has_luid l) (holds_is no_record (table_of s) j y w) ∙ a) (ap (has_luid l) (holds_is no_record (table_of s) k v u) ∙ b)

    pub guid_place : y.guid.0 ≡ v.guid.0 → j ≡ k
    guid_place q =
        h.formed.guids.apart j k (holds_used no_record (table_of s) j y w) (holds_used no_record (table_of s) k v u)
        (ap (λ (z : Record). z.guid.0) (holds_is no_record (table_of s) j y w) ∙ (q ∙ sym (ap (λ (z : Record). z.guid.0) (holds_is no_record (table_of s) k v u))))

    pub same_record_lem : j ≡ k → y ≡ v
    same_record_lem q = holds_one y v (sym w ∙ (ap (record_at s) q ∙ u))

    pub one_luid : (l : Luid) → has_luid l y ≡ true → has_luid l v ≡ true → y ≡ v
    one_luid l a b = same_record_lem (luid_place l a b)

    pub one_guid : y.guid.0 ≡ v.guid.0 → y ≡ v
    one_guid q = same_record_lem (guid_place q)
