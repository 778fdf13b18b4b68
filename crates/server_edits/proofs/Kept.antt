-- Every edit at the server keeps the table well-formed. Assumes nothing.
use Prim.Native.Nat.{ℕ, ◌<◌}
use mathlib.Core.Path.{◌≡◌, refl}
use mathlib.Core.List.{List}
use mathlib.Core.Bool.{true}
use native.Mathlib.Omega.{arith}
use Rattle.text.specs.Text.{text_ok}
use Rattle.text.specs.Wording.{server_station, signed_by}
use Rattle.text.proofs.WordingLaws.{signed_well}
use Rattle.places.specs.Set.{all_places, in_use}
use Rattle.places.proofs.TableLaws.{sound_new, sound_change, each_new, each_change}
use Rattle.terms.specs.declared.Guid.{Guid}
use Rattle.records.specs.declared.Mark.TheVariants.{Dirty, Deleted}
use Rattle.records.specs.declared.Records.{Records}
use Rattle.records.specs.declared.Server.{Server}
use Rattle.records.specs.Server.{no_record, guid_of, FineRecord, WellFormed}
use Rattle.records.proofs.FindLaws.{record_at_lem}
use Rattle.server_edits.specs.Edited.{Edited}
use Rattle.server_edits.specs.Edit.{new_record, with_new, server_add, changed_to, record_at, with_edit, server_edit, with_delete, server_delete}
use Rattle.server_edits.proofs.RoomLaws.{Room, room_at}
use Rattle.server_edits.proofs.Cases.{add_all, edit_all, delete_all}

module _ (c : Records) (w : WellFormed c) (i : ℕ) where
  new_kept : (s : List ℕ) → text_ok s ≡ true → Room c i → WellFormed (with_new c i s)
  new_kept s ok r =
      record {
        guids = sound_new guid_of no_record c.used c.places c.guid w.guids i r.inside (new_record c s) r.free refl;
        records =
            each_new guid_of no_record c.used c.places c.guid w.guids i r.inside (new_record c s) r.free refl FineRecord FineRecord
            (λ y f. f) (signed_well server_station s (omega arith) ok) w.records;
      }

  module _ (inside : i < all_places) where
    edit_kept : (s : List ℕ) → text_ok s ≡ true → WellFormed (with_edit c i s)
    edit_kept s ok =
        let x = changed_to (record_at c i) (signed_by server_station s) Dirty in
        record {
          guids = sound_change guid_of no_record c.used c.places c.guid w.guids i inside x refl;
          records =
              each_change guid_of no_record c.used c.places c.guid w.guids i inside x FineRecord FineRecord (λ y f. f)
              (signed_well server_station s (omega arith) ok) w.records;
        }

    delete_kept : in_use c.used i ≡ true → WellFormed (with_delete c i)
    delete_kept u =
        let x = changed_to (record_at c i) (record_at c i).wording Deleted in
        record {
          guids = sound_change guid_of no_record c.used c.places c.guid w.guids i inside x refl;
          records = each_change guid_of no_record c.used c.places c.guid w.guids i inside x FineRecord FineRecord (λ y f. f) (w.records i u) w.records;
        }

abbrev Kept : Edited → Type 0
Kept r = WellFormed r.server.records

module _ (p : Server) (w : WellFormed p.records) where
  pub server_add_kept : (s : List ℕ) → WellFormed (server_add p s).server.records
  server_add_kept s = add_all p s Kept (λ n. w) (λ i ok e. new_kept p.records w i s ok (room_at p.records i e))

  pub server_edit_kept : (g : Guid) (s : List ℕ) → WellFormed (server_edit p g s).server.records
  server_edit_kept g s = edit_all p g s Kept (λ n. w) (λ i e ok. edit_kept p.records w i (record_at_lem p.records w g i e).inside s ok)

  pub server_delete_kept : (g : Guid) → WellFormed (server_delete p g).server.records
  server_delete_kept g = delete_all p g Kept (λ n. w) (λ i e. let f = record_at_lem p.records w g i e in delete_kept p.records w i f.inside f.taken)
