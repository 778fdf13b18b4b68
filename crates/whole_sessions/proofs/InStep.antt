-- Demand 3 by numbers, from tables place by place: the same cards on both sides, both sides in step, and what one side alone has is kept.
use Rattle.std.proofs.Common.{Option, None, Some}
use Prim.Native.Nat.{ℕ, ◌<◌}
use mathlib.Core.Path.{◌≡◌, refl, sym, ap, ap₂, ◌∙◌, subst}
use mathlib.Core.Bool.{Bool, true, false, not, false≢true}
use native.Mathlib.Omega.{arith}
use lib.Dec.{eqb, ltb}
use lib.ListN.{length, get_or, get_or-eq_default}
use borrow.Author.Tests.{ltb-false, eq-eqb}
use Rattle.places.specs.Set.{in_use}
use Rattle.places.proofs.Choice.{never}
use Rattle.places.specs.Act.{Table, holds}
use Rattle.places.proofs.Views.{view, holds_used}
use Rattle.places.proofs.Held.{holds_is}
use Rattle.text.specs.declared.Wording.{Wording}
use Rattle.message.specs.declared.Content.{Content}
use Rattle.terms.specs.declared.Luid.{Luid}
use Rattle.terms.specs.declared.Guid.{Guid}
use Rattle.terms.specs.Number.{no_luid}
use Rattle.cards.specs.declared.Card.{Card}
use Rattle.cards.specs.declared.Cards.{Cards}
use Rattle.cards.specs.Press as press
use Rattle.records.specs.declared.Record.{Record}
use Rattle.records.specs.declared.Records.{Records}
use Rattle.records.specs.Server as server
use Rattle.record_moves.specs.Named.{table_of, has_luid}
use Rattle.record_moves.proofs.HasLaws.{has_number_lem, has_paired, guid_is, luid_is}
use Rattle.card_moves.specs.Moves as moves
use Rattle.server_each.proofs.EachRecord.{record_at}
use Rattle.press_tells.specs.Tell.{is_added}
use Rattle.course.specs.Course.{World}
use Rattle.demand3.specs.Demand3.{OnePair, wording_in, card_wording, pair_in, record_wording, SameCards, InStep, OnlyAtPress, OnlyAtServer, KeptCards}
use Rattle.pairs.proofs.Invariant.{card_at, Invariant}
use Rattle.pairs.proofs.Numbers.{CardStood, RecordStood, card_gives, card_from, record_gives, record_from, same_cards_lem, same_records_lem}
use Rattle.whole_sessions.proofs.PackageLaws.{Same, Even, Kept}

-- ---- the same cards
pub same_world : (v w : World Content) → Invariant v.press.cards v.server.records → Invariant w.press.cards w.server.records → Same v.press.cards v.server.records w.press.cards w.server.records → SameCards v w
same_world v w a b k =
    record {
      at_press = λ l. ap wording_in (same_cards_lem v.press.cards w.press.cards a.formed b.formed k.cards l);
      at_server = λ g. ap pair_in (same_records_lem v.server.records w.server.records a.safe.formed b.safe.formed k.records g);
    }

-- tables that hold the same are in step where the others are
pub same_even : (c : Cards) (s : Records) (e : Cards) (f : Records) → Same c s e f → Even e f → Even c s
same_even c s e f k h =
    record {
      live_card_lem = λ i x q. h.live_card_lem i x (sym (k.cards i) ∙ q);
      live_record_lem = λ j y q. h.live_record_lem j y (sym (k.records j) ∙ q);
      has_record = λ i x q. let r = h.has_record i x (sym (k.cards i) ∙ q) in record { place = r.place; record' = r.record'; here = k.records r.place ∙ r.here; luid = r.luid; wording = r.wording };
      has_card = λ j y q. let r = h.has_card j y (sym (k.records j) ∙ q) in record { place = r.place; card = r.card; here = k.cards r.place ∙ r.here; luid = r.luid; wording = r.wording };
    }

-- ---- both sides in step
-- what holds of all that the places hold holds of each place in use
each_used_lem : {A : Type 0} (d : A) (t : Table A) (P : A → Type 0) → P d → ((i : ℕ) (x : A) → view d t i ≡ holds x → P x) → (i : ℕ) → in_use t.used i ≡ true → P (get_or t.places i d)
unfolding view
each_used_lem d t P z k i u = go (ltb i (length t.places)) refl
  where
    go : (b : Bool) → ltb i (length t.places) ≡ b → P (get_or t.places i d)
    go true q = k i (get_or t.places i d) (rw (u, q))
    go false q = subst P (sym (get_or-eq_default t.places d (let n = ltb-false i (length t.places) q in omega (arith, n)))) z

some_wording : (x : Card) (t : Wording) → wording_in (Some x) ≡ Some t → x.wording ≡ t
some_wording x t e = cc

some_pair : (y : Record) (t : Wording) (l : Luid) → pair_in (Some y) ≡ Some (t, l) → (y.wording ≡ t) × (y.pairing.luid ≡ l)
some_pair y t l e = let q : ◌≡◌ {A = Wording × Luid} (y.wording, y.pairing.luid) (t, l) = cc in (ap (λ (z : Wording × Luid). z.0) q, ap (λ (z : Wording × Luid). z.1) q)

pub in_step : (w : World Content) → Invariant w.press.cards w.server.records → Even w.press.cards w.server.records → OnePair w → InStep w
in_step w h k pairs =
    record {
      pairs = pairs;
      from_press_lem = λ l t e. from_press_lem l t (press.card_of c l) refl e;
      from_server_lem = λ g t l e. from_server_lem g t l (server.record_of s g) refl e;
      no_delete_mark = each_used_lem press.no_card (moves.table_of c) (λ x. press.is_live x.mark ≡ true) refl k.live_card_lem;
      no_deleted = each_used_lem server.no_record (table_of s) (λ y. server.is_live y.pairing.mark ≡ true) refl k.live_record_lem;
    }
  where
    c : Cards
    c = w.press.cards

    s : Records
    s = w.server.records

    from_press_lem : (l : Luid) (t : Wording) (o : Option Card) → press.card_of c l ≡ o → wording_in o ≡ Some t → (g : Guid) × (record_wording w.server g ≡ Some (t, l))
    from_press_lem l t None q e = never (cc)
    from_press_lem l t (Some x) q e =
        let st = card_from c l x q in
        let r = k.has_record st.place x st.here in
        let y = r.record' in
        let is : server.record_of s y.guid ≡ Some y = record_gives s y.guid h.safe.formed y (record { place = r.place; here = r.here; live' = k.live_record_lem r.place y r.here; number = refl }) in
        let wording : y.wording ≡ t = r.wording ∙ some_wording x t e in
        let luid : y.pairing.luid ≡ l = r.luid ∙ luid_is x.luid l st.number in
        (y.guid, ap pair_in is ∙ ap₂ (λ (u : Wording) (v : Luid). Some (u, v)) wording luid)

    from_server_lem : (g : Guid) (t : Wording) (l : Luid) (o : Option Record) → server.record_of s g ≡ o → pair_in o ≡ Some (t, l) → card_wording w.press l ≡ Some t
    from_server_lem g t l None q e = never (cc)
    from_server_lem g t l (Some y) q e =
        let st = record_from s g y q in
        let r = k.has_card st.place y st.here in
        let x = r.card in
        let p = some_pair y t l e in
        let number : x.luid.0 ≡ l.0 = ap (λ (z : Luid). z.0) (r.luid ∙ p.1) in
        ap wording_in (card_gives c l h.formed x (record { place = r.place; here = r.here; live' = k.live_card_lem r.place x r.here; number = number })) ∙ ap Some (r.wording ∙ p.0)

-- ---- what one side alone has is kept, from w to v
module _ (w v : World Content) (h : Invariant w.press.cards w.server.records) (h' : Invariant v.press.cards v.server.records) (even : Even v.press.cards v.server.records)
    (k : Kept w.press.cards w.server.records v.press.cards v.server.records) (step : InStep v) where
  abbrev c : Cards
  c = w.press.cards

  abbrev s : Records
  s = w.server.records

  from_press_lem : (l : Luid) (t : Wording) → OnlyAtPress w l t → (card_wording v.press l ≡ Some t) × ((g : Guid) × (s.guid < g.0) × (record_wording v.server g ≡ Some (t, l)))
  from_press_lem l t o =
      let st = card_from c l o.card o.stands in
      let luid : o.card.luid ≡ l = luid_is o.card.luid l st.number in
      let q = k.cards st.place o.card st.here (ap is_added o.added) (λ j y e. unpaired j y e luid (has_luid o.card.luid y) refl) in
      let there : CardStood v.press.cards l.0 q.card = record { place = q.place; here = q.here; live' = even.live_card_lem q.place q.card q.here; number = ap (λ (n : Luid). n.0) (q.luid ∙ luid) } in
      let wording : card_wording v.press l ≡ Some t = ap wording_in (card_gives v.press.cards l h'.formed q.card there) ∙ ap Some (q.wording ∙ o.wording) in
      let r = step.from_press_lem l t wording in
      (wording, (r.0, new r.0 (λ j y e n. q.new j y e (n ∙ sym luid)) (server.record_of v.server.records r.0) refl r.1, r.1))
    where
      -- a LUID that a record has is paired
      unpaired : (j : ℕ) (y : Record) → record_at s j ≡ holds y → o.card.luid ≡ l → (b : Bool) → has_luid o.card.luid y ≡ b → has_luid o.card.luid y ≡ false
      unpaired j y e luid false q = q
      unpaired j y e luid true q =
          let is = holds_is server.no_record (table_of s) j y e in
          let own : y.pairing.luid ≡ o.card.luid = luid_is y.pairing.luid o.card.luid (has_number_lem o.card.luid y q) in
          let given : l.0 ≡ 0 → ⊥ = λ z. false≢true (ap not (sym (eq-eqb y.pairing.luid.0 0 (ap (λ (n : Luid). n.0) (own ∙ luid) ∙ z))) ∙ has_paired o.card.luid y q) in
          absurd (o.unpaired y.guid (record { place = j; used = holds_used server.no_record (table_of s) j y e; guid = ap (λ (z : Record). z.guid) is; luid = ap (λ (z : Record). z.pairing.luid) is ∙ (own ∙ luid); given = given }))

      new : (g : Guid) → ((j : ℕ) (y : Record) → record_at v.server.records j ≡ holds y → y.pairing.luid ≡ l → s.guid < y.guid.0)
          → (r : Option Record) → server.record_of v.server.records g ≡ r → pair_in r ≡ Some (t, l) → s.guid < g.0
      new g f None e q = never (cc)
      new g f (Some y) e q =
          let st = record_from v.server.records g y e in
          subst (λ (n : ℕ). s.guid < n) st.number (f st.place y st.here (some_pair y t l q).1)

  from_server_lem : (g : Guid) (t : Wording) → OnlyAtServer w g t → (l : Luid) × (c.luid < l.0) × (record_wording v.server g ≡ Some (t, l)) × (card_wording v.press l ≡ Some t)
  from_server_lem g t o = go (server.record_of s g) refl o.stands
    where
      go : (r : Option Record) → server.record_of s g ≡ r → pair_in r ≡ Some (t, no_luid) → (l : Luid) × (c.luid < l.0) × (record_wording v.server g ≡ Some (t, l)) × (card_wording v.press l ≡ Some t)
      go None e q = never (cc)
      go (Some y) e q =
          let st = record_from s g y e in
          let p = some_pair y t no_luid q in
          let guid : y.guid ≡ g = guid_is y.guid g st.number in
          let r = k.records st.place y st.here st.live' (ap (λ (l : Luid). not (eqb l.0 0)) p.1) (λ i x a on n. unreported i x a on (n ∙ guid)) in
          let l = r.record'.pairing.luid in
          let there : RecordStood v.server.records g.0 r.record' = record { place = r.place; here = r.here; live' = even.live_record_lem r.place r.record' r.here; number = ap (λ (n : Guid). n.0) (r.guid ∙ guid) } in
          let wording : record_wording v.server g ≡ Some (t, l) = ap pair_in (record_gives v.server.records g h'.safe.formed r.record' there) ∙ ap (λ (u : Wording). Some (u, l)) (r.wording ∙ p.0) in
          (l, r.new, wording, step.from_server_lem g t l wording)
        where
          unreported : (i : ℕ) (x : Card) → card_at c i ≡ holds x → x.report.on ≡ true → x.report.guid ≡ g → ⊥
          unreported i x a on n =
              let is = holds_is press.no_card (moves.table_of c) i x a in
              o.unreported i (holds_used press.no_card (moves.table_of c) i x a) (ap (λ (z : Card). z.report.on) is ∙ on) (ap (λ (z : Card). z.report.guid) is ∙ n)

  pub kept_cards : KeptCards w v
  kept_cards = record { from_press_lem = from_press_lem; from_server_lem = from_server_lem }
