-- The test tells exactly the servers in range: one that passes it is in range, and one in range passes it.
-- Assumes nothing.
use Prim.Native.Nat.{ℕ, ◌≤◌}
use mathlib.Core.Path.{◌≡◌, sym, ap, ◌∙◌}
use mathlib.Core.Bool.{true, not, ◌&&◌}
use native.Mathlib.Omega.{arith}
use borrow.Author.Tests.{leb-true, le-leb, eqb-true, eqb-false, eq-eqb, ne_eqb, not-true}
use lib.Dec.{eqb, leb}
use lib.ListN.{length, get_or}
use Rattle.places.specs.Set.{all_places, in_use}
use Rattle.places.proofs.Choice.{and_first, and_second, and_both}
use Rattle.records.specs.declared.Record.{Record}
use Rattle.records.specs.declared.Records.{Records}
use Rattle.records.specs.declared.Server.{Server}
use Rattle.records.specs.Server.{no_record, guid_of, FineRecord}
use Rattle.record_moves.specs.Named.{is_paired, LuidsOnce}
use Rattle.server_sends.specs.InRange.{RecordInRange, RecordsInRange, ServerInRange}
use Rattle.ranges.specs.Range.{is_number, is_wording, once, each_used, row_of}
use Rattle.ranges.proofs.WordingLaws.{tested_wording, wording_tested}
use Rattle.ranges.proofs.NumberLaws.{tested_number, number_tested}
use Rattle.ranges.proofs.UsedLaws.{tested_each, each_tested, Apart, row_apart, apart_row}
use Rattle.server_range.specs.Range.{luid_of, fine_record, records_in_range, server_in_range}

-- ---- one record: what the test says of it
pub record Entry (last : ℕ) (x : Record) : Type 0 where
  pub least : 1 ≤ guid_of x
  pub given : guid_of x ≤ last
  pub fine : FineRecord x
  pub range : RecordInRange x

module _ (last : ℕ) (x : Record) where
  tested_entry : fine_record last x ≡ true → Entry last x
  tested_entry e =
      let w = is_wording x.wording in
      let k = leb x.pairing.known 4294967295 && w in
      let l = leb x.pairing.luid.0 65535 && k in
      let g = leb x.guid.0 last && l in
      let eg = and_second (leb 1 x.guid.0) g e in
      let el = and_second (leb x.guid.0 last) l eg in
      let ek = and_second (leb x.pairing.luid.0 65535) k el in
      record {
        least = leb-true _ _ (and_first (leb 1 x.guid.0) g e);
        given = leb-true _ _ (and_first (leb x.guid.0 last) l eg);
        fine = tested_wording x.wording (and_second (leb x.pairing.known 4294967295) w ek);
        range = (leb-true _ _ (and_first (leb x.pairing.luid.0 65535) k el), leb-true _ _ (and_first (leb x.pairing.known 4294967295) w ek));
      }

  entry_tested : Entry last x → fine_record last x ≡ true
  entry_tested h =
      and_both _ _ (le-leb _ _ h.least)
      (and_both _ _ (le-leb _ _ h.given) (and_both _ _ (le-leb _ _ h.range.0) (and_both _ _ (le-leb _ _ h.range.1) (wording_tested x.wording h.fine))))

-- ---- the table, and the server
module _ (c : Records) (long : length c.places ≡ all_places) where
  -- no LUID in two records, said by the test of one record and by numbers
  luids_once_lem : Apart luid_of c.used no_record c.places long → LuidsOnce c
  luids_once_lem apart i j h k e =
      let x = get_or c.places i no_record in
      let y = get_or c.places j no_record in
      let same : y.pairing.luid.0 ≡ x.pairing.luid.0 = eqb-true _ _ (and_second (is_paired y) (eqb y.pairing.luid.0 x.pairing.luid.0) e) in
      apart i j h k (λ z. eqb-false y.pairing.luid.0 0 (not-true _ (and_first (is_paired y) (eqb y.pairing.luid.0 x.pairing.luid.0) e)) (same ∙ z)) (sym same)

  once_luids : LuidsOnce c → Apart luid_of c.used no_record c.places long
  once_luids f i j h k z e =
      let x = get_or c.places i no_record in
      let y = get_or c.places j no_record in
      f i j h k (and_both (is_paired y) (eqb y.pairing.luid.0 x.pairing.luid.0) (ap not (ne_eqb y.pairing.luid.0 0 (λ w. z (e ∙ w)))) (eq-eqb y.pairing.luid.0 x.pairing.luid.0 (sym e)))

  tested_records : records_in_range c ≡ true → RecordsInRange c
  tested_records e =
      let each = each_used (fine_record c.guid) c.used 0 c.places in
      let guids = once (row_of guid_of c.used 0 c.places) in
      let luids = once (row_of luid_of c.used 0 c.places) in
      let g = leb c.guid 65535 && (each && (guids && luids)) in
      let eg = and_second (leb c.used 4294967295) g e in
      let ee = and_second (leb c.guid 65535) (each && (guids && luids)) eg in
      let er = and_second each (guids && luids) ee in
      let u = leb-true c.used 4294967295 (and_first (leb c.used 4294967295) g e) in
      let t : (i : ℕ) → in_use c.used i ≡ true → Entry c.guid (get_or c.places i no_record) =
      λ i h. tested_entry c.guid (get_or c.places i no_record) (tested_each _ c.used no_record c.places (omega arith) long (and_first each (guids && luids) ee) i h) in
      let apart = row_apart guid_of c.used no_record c.places long (omega arith) (and_first guids luids er) in
      record {
        safe = record {
          formed = record {
            guids = record { long = long; least = λ i h. (t i h).least; given = λ i h. (t i h).given; apart = λ i j h k d. apart i j h k (λ z. absurd (omega (arith, z, (t i h).least))) d };
            records = λ i h. (t i h).fine;
          };
          once = luids_once_lem (row_apart luid_of c.used no_record c.places long (omega arith) (and_second guids luids er));
        };
        guids = leb-true _ _ (and_first (leb c.guid 65535) (each && (guids && luids)) eg);
        each = λ i h. (t i h).range;
      }

  records_tested : c.used ≤ 4294967295 → RecordsInRange c → records_in_range c ≡ true
  records_tested u r =
      let w = r.safe.formed in
      and_both _ _ (le-leb _ _ u)
      (and_both _ _ (le-leb _ _ r.guids)
      (and_both _ _
      (each_tested _ c.used no_record c.places (λ i h. entry_tested c.guid (get_or c.places i no_record) (record { least = w.guids.least i h; given = w.guids.given i h; fine = w.records i h; range = r.each i h })))
      (and_both _ _
      (apart_row guid_of c.used no_record c.places long (λ i j h k z d. w.guids.apart i j h k d))
      (apart_row luid_of c.used no_record c.places long (once_luids r.safe.once)))))

module _ (s : Server) (long : length s.records.places ≡ all_places) where
  pub tested_server : server_in_range s ≡ true → ServerInRange s
  unfolding server_in_range
  tested_server e =
      let k = s.link in
      let r = records_in_range s.records in
      let rest = and_second (is_number k.anchor) (is_number k.session && r) e in
      record {
        records = tested_records s.records long (and_second (is_number k.session) r rest);
        session = tested_number k.session (and_first (is_number k.session) r rest);
        anchor = tested_number k.anchor (and_first (is_number k.anchor) (is_number k.session && r) e);
      }

  pub server_tested : s.records.used ≤ 4294967295 → ServerInRange s → server_in_range s ≡ true
  unfolding server_in_range
  server_tested u h =
      and_both _ _ (number_tested s.link.anchor h.anchor) (and_both _ _ (number_tested s.link.session h.session) (records_tested s.records long u h.records))
