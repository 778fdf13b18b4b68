-- The press takes one command of the server: what the place of the card becomes leaves the invariant. Assumes nothing.
use Prim.Native.Nat.{ℕ, ◌+◌, ◌≤◌}
use mathlib.Core.Path.{◌≡◌, refl, sym, ap, ◌∙◌, subst}
use mathlib.Core.Bool.{Bool, true, false, cond, false≢true}
use native.Mathlib.Omega.{arith}
use borrow.Author.Tests.{eqb-true, eq-eqb, ne_eqb}
use Rattle.places.specs.Set.{in_use}
use Rattle.places.specs.Act.{free, holds}
use Rattle.places.proofs.Views.{holds_used}
use Rattle.places.proofs.Held.{holds_one}
use Rattle.terms.specs.declared.Luid.{Luid}
use Rattle.terms.specs.declared.Guid.{Guid}
use Rattle.terms.specs.Number.{luid, no_guid}
use Rattle.cards.specs.declared.Card.{Card}
use Rattle.cards.specs.declared.Cards.{Cards}
use Rattle.cards.specs.Press.{no_card}
use Rattle.records.specs.declared.Mark as rec
use Rattle.records.specs.declared.Record.{Record}
use Rattle.records.specs.declared.Records.{Records}
use Rattle.record_moves.specs.Named.{Named}
use Rattle.record_moves.specs.Named.{is_paired, has_luid, has_guid, is_named}
use Rattle.record_moves.proofs.HasLaws.{has_number_lem, has_own}
use Rattle.card_moves.specs.Moves as moves
use Rattle.server_reports.specs.Step1.{named_by, counted}
use Rattle.server_each.proofs.EachRecord.{record_at}
use Rattle.press_takes.specs.Take.{taken_card}
use Rattle.pairs.proofs.Invariant.{card_at, report_in, tells_of, heard, IsOf, Agrees, FromServer, Recorded, Invariant}
use Rattle.pairs.proofs.Heard.{unheard, heard_counted}
use Rattle.pairs.proofs.EntryPut.{FitsHere}
use Rattle.pairs.proofs.Once.{guid_given, guid_least, luid_least, one_guid, one_luid}

-- ---- an offered record y at place j, and the card that the press makes of it: with the next fingerprint, and a report
module _ (c : Cards) (s : Records) (h : Invariant c s) (j : ℕ) (y : Record) (w : record_at s j ≡ holds y) (is_offered : y.pairing.mark ≡ rec.Mark.Offered) (g : Guid) (l : Luid) where
  abbrev new : Card
  new = taken_card g l (c.fp + 1) y.wording

  heard_new : is_named (named_by (report_in new)) y ≡ true → heard new y ≡ counted (report_in new) y
  unfolding tells_of
  heard_new n = heard_counted new y n (let k = (h.records j y w).known in omega (arith, k))

  agrees_new : Agrees new (counted (report_in new) y)
  agrees_new = record { below = omega arith; clean = λ q. refl; wording = λ q m. refl }

  module _ (named : is_named (named_by (report_in new)) y ≡ true) (least : 1 ≤ l.0) where
    has_new : has_luid l (counted (report_in new) y) ≡ true
    has_new = has_own l least

    recorded_new : Recorded s new
    recorded_new = record { place = j; record' = y; here = w; is = subst (λ (u : Record). has_luid l u ≡ true) (sym (heard_new named)) has_new }

    -- of the record itself, and of one that the report does not name and that has another LUID
    agrees_at : (v : Record) → (is_named (named_by (report_in new)) v ≡ true → v ≡ y) → (has_luid l v ≡ true → is_named (named_by (report_in new)) v ≡ true) → IsOf new v → Agrees new (heard new v)
    unfolding tells_of
    agrees_at v only mine k = go (is_named (named_by (report_in new)) v) refl
      where
        go : (b : Bool) → is_named (named_by (report_in new)) v ≡ b → Agrees new (heard new v)
        go true n = let q : v ≡ y = only n in subst (λ (u : Record). Agrees new (heard new u)) (sym q) (subst (Agrees new) (sym (heard_new named)) agrees_new)
        go false n =
            let same : heard new v ≡ v = unheard new v n in
            absurd (false≢true (sym n ∙ mine (subst (λ (u : Record). has_luid l u ≡ true) same k)))

-- ---- Replace: y is paired with the card x
module _ (c : Cards) (s : Records) (h : Invariant c s) (j : ℕ) (y : Record) (w : record_at s j ≡ holds y) (is_offered : y.pairing.mark ≡ rec.Mark.Offered)
    (i : ℕ) (x : Card) (e : card_at c i ≡ holds x) (has : has_luid x.luid y ≡ true) where
  pub replaced_fits : FitsHere c s i (holds (taken_card no_guid x.luid (c.fp + 1) y.wording))
  replaced_fits =
      let least = luid_least c h.formed i x e in
      record {
        ok = record { bare = λ a. absurd (false≢true a); older = λ on. omega arith; known = λ on. omega arith };
        pairs = λ k v u.
            record {
              own = λ f. absurd (f.given refl);
              sole = λ f. absurd (f.given refl);
              agrees = λ live q. agrees_at c s h j y w is_offered no_guid x.luid has least v (λ n. one_luid s h.safe k v u j y w x.luid n has) (λ n. n) q;
            };
        sole = λ f. absurd (f.given refl);
        recorded = λ live old. recorded_new c s h j y w is_offered no_guid x.luid has least;
        still = λ k v u p d z g q. subst (λ (a : Card). has_luid a.luid v ≡ true) (sym (holds_one x z (sym e ∙ g))) q;
      }

-- ---- Add: y is unpaired, no report names it yet, and place i is free
module _ (c : Cards) (s : Records) (h : Invariant c s) (j : ℕ) (y : Record) (w : record_at s j ≡ holds y) (is_offered : y.pairing.mark ≡ rec.Mark.Offered)
    (alone : is_paired y ≡ false) (unnamed : (k : ℕ) (z : Card) → card_at c k ≡ holds z → FromServer z → z.report.guid.0 ≡ y.guid.0 → ⊥) (i : ℕ) (empty : in_use c.used i ≡ false) where
  abbrev next : Luid
  next = luid (c.luid + 1)

  -- its report names by GUID
  by_guid_lem : (v : Record) → is_named (named_by (report_in (taken_card y.guid next (c.fp + 1) y.wording))) v ≡ has_guid y.guid v
  by_guid_lem v = ap (λ (b : Bool). is_named (cond b (Named.ByLuid next) (Named.ByGuid y.guid)) v) (ne_eqb y.guid.0 0 (λ (q : y.guid.0 ≡ 0). omega (arith, guid_least s h.safe j y w)))

  too_high : (k : ℕ) (v : Record) → record_at s k ≡ holds v → has_luid next v ≡ true → ⊥
  too_high k v u q =
      let n : v.pairing.luid.0 ≡ c.luid + 1 = has_number_lem next v q in
      let b = (h.records k v u).low in
      omega (arith, n, b)

  pub added_fits : FitsHere c s i (holds (taken_card y.guid next (c.fp + 1) y.wording))
  added_fits =
      let named = by_guid_lem y ∙ eq-eqb y.guid.0 y.guid.0 refl in
      let least : 1 ≤ next.0 = omega arith in
      record {
        ok = record { bare = λ a. absurd (false≢true a); older = λ on. omega arith; known = λ on. guid_given s h.safe j y w };
        pairs = λ k v u.
            record {
              own = λ f q p. let same : v ≡ y = one_guid s h.safe k v u j y w q in absurd (false≢true (sym alone ∙ subst (λ (z : Record). is_paired z ≡ true) same p));
              sole = λ f q. absurd (too_high k v u q);
              agrees = λ live q. agrees_at c s h j y w is_offered y.guid next named least v (λ n. one_guid s h.safe k v u j y w (eqb-true v.guid.0 y.guid.0 (sym (by_guid_lem v) ∙ n))) (λ n. absurd (too_high k v u n)) q;
            };
        sole = λ f k z ne g b m. unnamed k z g b (sym m);
        recorded = λ live old. recorded_new c s h j y w is_offered y.guid next named least;
        still = λ k v u p d z g q. absurd (false≢true (sym empty ∙ holds_used no_card (moves.table_of c) i z g));
      }

-- ---- Delete: y is deleted, and the card x had its LUID
pub removed_fits : (c : Cards) (s : Records) → Invariant c s → (j : ℕ) (y : Record) → record_at s j ≡ holds y → y.pairing.mark ≡ rec.Mark.Deleted
    → (i : ℕ) (x : Card) → card_at c i ≡ holds x → has_luid x.luid y ≡ true → FitsHere c s i free
removed_fits c s h j y w dead i x e has =
    record {
      ok = tt;
      pairs = λ k v u. tt;
      sole = tt;
      recorded = tt;
      still = λ k v u p d z g q.
          let is : v ≡ y = one_luid s h.safe k v u j y w x.luid (subst (λ (a : Card). has_luid a.luid v ≡ true) (sym (holds_one x z (sym e ∙ g))) q) has in
          d (ap (λ (r : Record). r.pairing.mark) is ∙ dead);
    }
