-- The test tells exactly the presses in range: one that passes it is in range, and one in range passes it.
-- Assumes nothing.
use Prim.Native.Nat.{ℕ, ◌≤◌}
use mathlib.Core.Path.{◌≡◌, refl, sym, ap, ◌∙◌}
use mathlib.Core.Bool.{Bool, true, false, not, ◌&&◌}
use native.Mathlib.Omega.{arith}
use borrow.Author.Tests.{leb-true, le-leb, eqb-true, eq-eqb}
use lib.Dec.{eqb, leb}
use lib.ListN.{length, get_or}
use Rattle.places.specs.Set.{all_places, in_use}
use Rattle.places.proofs.Choice.{and_first, and_second, and_both, or_chosen, or_passed}
use Rattle.terms.specs.declared.Luid.{Luid}
use Rattle.terms.specs.Number.{luid}
use Rattle.text.specs.Wording.{last_station}
use Rattle.cards.specs.declared.Card.{Card}
use Rattle.cards.specs.declared.Cards.{Cards}
use Rattle.cards.specs.declared.Press.{Press}
use Rattle.cards.specs.Press.{no_card, luid_of, FineCard, WellFormed}
use Rattle.press_sends.specs.InRange.{GuidOrNone, ReportInRange, CardsInRange, PressInRange}
use Rattle.sendable.specs.Sendable.{Fingerprint}
use Rattle.ranges.specs.Range.{is_number, is_wording, once, each_used, row_of}
use Rattle.ranges.proofs.WordingLaws.{tested_wording, wording_tested}
use Rattle.ranges.proofs.NumberLaws.{tested_number, number_tested}
use Rattle.ranges.proofs.UsedLaws.{tested_each, each_tested, row_apart, apart_row}
use Rattle.press_range.specs.Range.{fine_report, fine_card, cards_in_range, press_in_range}

-- ---- one entry: what the test says of it
pub record Entry (luid fp : ℕ) (x : Card) : Type 0 where
  pub least : 1 ≤ luid_of x
  pub given : luid_of x ≤ luid
  pub fine : FineCard fp x
  pub report : ReportInRange x

same_luid_lem : (a b : Luid) → eqb a.0 b.0 ≡ true → a ≡ b
same_luid_lem a b e = ap luid (eqb-true a.0 b.0 e)

tested_report : (x : Card) → fine_report x ≡ true → x.report.on ≡ true → (x.report.luid ≡ x.luid) × GuidOrNone x.report.guid × Fingerprint x.report.fp
tested_report x e on =
    let r = x.report in
    let l = eqb r.luid.0 x.luid.0 in
    let g = leb r.guid.0 65535 in
    let f = is_number r.fp in
    let k : (l && (g && f)) ≡ true = sym (or_passed (not r.on) (l && (g && f)) (ap not on)) ∙ e in
    let m = and_second l (g && f) k in
    (same_luid_lem r.luid x.luid (and_first l (g && f) k), (omega arith, leb-true _ _ (and_first g f m)), tested_number r.fp (and_second g f m))

report_tested : (x : Card) → (x.report.on ≡ true → (x.report.luid ≡ x.luid) × GuidOrNone x.report.guid × Fingerprint x.report.fp) → fine_report x ≡ true
report_tested x f = go x.report.on refl
  where
    go : (b : Bool) → x.report.on ≡ b → fine_report x ≡ true
    go false e = or_chosen (not x.report.on) _ (ap not e)
    go true e =
        let h = f e in
        or_passed (not x.report.on) _ (ap not e)
        ∙ and_both _ _ (eq-eqb x.report.luid.0 x.luid.0 (ap (λ (l : Luid). l.0) h.0))
        (and_both _ _ (le-leb _ _ h.1.1) (number_tested x.report.fp h.2))

module _ (last fp : ℕ) (x : Card) where
  tested_entry : fine_card last fp x ≡ true → Entry last fp x
  tested_entry e =
      let w = is_wording x.wording && fine_report x in
      let c = leb x.fp fp && w in
      let b = leb 1 x.fp && c in
      let a = leb x.luid.0 last && b in
      let ea = and_second (leb 1 x.luid.0) a e in
      let eb = and_second (leb x.luid.0 last) b ea in
      let ec = and_second (leb 1 x.fp) c eb in
      let ew = and_second (leb x.fp fp) w ec in
      let r = tested_report x (and_second (is_wording x.wording) (fine_report x) ew) in
      record {
        least = leb-true _ _ (and_first (leb 1 x.luid.0) a e);
        given = leb-true _ _ (and_first (leb x.luid.0 last) b ea);
        fine = (leb-true _ _ (and_first (leb 1 x.fp) c eb), leb-true _ _ (and_first (leb x.fp fp) w ec), tested_wording x.wording (and_first (is_wording x.wording) (fine_report x) ew), λ on. (r on).0);
        report = λ on. ((r on).1, (r on).2);
      }

  entry_tested : Entry last fp x → fine_card last fp x ≡ true
  entry_tested h =
      and_both _ _ (le-leb _ _ h.least)
      (and_both _ _ (le-leb _ _ h.given)
      (and_both _ _ (le-leb _ _ h.fine.0)
      (and_both _ _ (le-leb _ _ h.fine.1)
      (and_both _ _ (wording_tested x.wording h.fine.2) (report_tested x (λ on. (h.fine.3 on, (h.report on).0, (h.report on).1)))))))

-- ---- the table, and the press
module _ (c : Cards) (long : length c.places ≡ all_places) where
  tested_cards : cards_in_range c ≡ true → WellFormed c × CardsInRange c
  tested_cards e =
      let each = each_used (fine_card c.luid c.fp) c.used 0 c.places in
      let row = once (row_of luid_of c.used 0 c.places) in
      let f = leb c.fp 4294967295 && (each && row) in
      let l = leb c.luid 65535 && f in
      let s = leb c.station last_station && l in
      let es = and_second (leb c.used 4294967295) s e in
      let el = and_second (leb c.station last_station) l es in
      let ef = and_second (leb c.luid 65535) f el in
      let er = and_second (leb c.fp 4294967295) (each && row) ef in
      let u = leb-true c.used 4294967295 (and_first (leb c.used 4294967295) s e) in
      let t : (i : ℕ) → in_use c.used i ≡ true → Entry c.luid c.fp (get_or c.places i no_card) =
      λ i h. tested_entry c.luid c.fp (get_or c.places i no_card) (tested_each _ c.used no_card c.places (omega arith) long (and_first each row er) i h) in
      let apart = row_apart luid_of c.used no_card c.places long (omega arith) (and_second each row er) in (
        record {
          station = leb-true _ _ (and_first (leb c.station last_station) l es);
          luids = record { long = long; least = λ i h. (t i h).least; given = λ i h. (t i h).given; apart = λ i j h k d. apart i j h k (λ z. absurd (omega (arith, z, (t i h).least))) d };
          cards = λ i h. (t i h).fine;
        },
        record { luid = leb-true _ _ (and_first (leb c.luid 65535) f el); fp = leb-true _ _ (and_first (leb c.fp 4294967295) (each && row) ef); reports = λ i h. (t i h).report },
      )

  cards_tested : c.used ≤ 4294967295 → WellFormed c → CardsInRange c → cards_in_range c ≡ true
  cards_tested u w r =
      and_both _ _ (le-leb _ _ u)
      (and_both _ _ (le-leb _ _ w.station)
      (and_both _ _ (le-leb _ _ r.luid)
      (and_both _ _ (le-leb _ _ r.fp)
      (and_both _ _
      (each_tested _ c.used no_card c.places (λ i h. entry_tested c.luid c.fp (get_or c.places i no_card) (record { least = w.luids.least i h; given = w.luids.given i h; fine = w.cards i h; report = r.reports i h })))
      (apart_row luid_of c.used no_card c.places long (λ i j h k z d. w.luids.apart i j h k d))))))

module _ (p : Press) (long : length p.cards.places ≡ all_places) where
  pub tested_press : press_in_range p ≡ true → PressInRange p
  unfolding press_in_range
  tested_press e =
      let c = cards_in_range p.cards in
      let rest = and_second (is_number p.anchor) (is_number p.session && c) e in
      let t = tested_cards p.cards long (and_second (is_number p.session) c rest) in
      record {
        formed = t.0;
        cards = t.1;
        anchor = tested_number p.anchor (and_first (is_number p.anchor) (is_number p.session && c) e);
        session = tested_number p.session (and_first (is_number p.session) c rest);
      }

  pub press_tested : p.cards.used ≤ 4294967295 → PressInRange p → press_in_range p ≡ true
  unfolding press_in_range
  press_tested u h =
      and_both _ _ (number_tested p.anchor h.anchor) (and_both _ _ (number_tested p.session h.session) (cards_tested p.cards long u h.formed h.cards))
