-- A fresh server is in range; edits by people, refused or not, and giving up a session keep it so. Assumes nothing.
use Prim.Native.Nat.{ℕ, ◌<◌}
use mathlib.Core.Path.{◌≡◌, refl, ap, subst}
use mathlib.Core.Bool.{true}
use mathlib.Core.List.{List}
use native.Mathlib.Omega.{arith}
use lib.ListN.{set}
use Rattle.text.specs.declared.Wording.{Wording}
use Rattle.text.specs.Text.{text_ok}
use Rattle.text.specs.Wording.{server_station, signed_by, IsWording}
use Rattle.text.proofs.WordingLaws.{signed_well}
use Rattle.places.specs.Set.{all_places, in_use}
use Rattle.places.proofs.TableLaws.{none_in}
use Rattle.terms.specs.declared.Guid.{Guid}
use Rattle.records.specs.declared.Mark.{Mark}
use Rattle.records.specs.declared.Mark.TheVariants.{Dirty, Deleted}
use Rattle.records.specs.declared.Record.{Record}
use Rattle.records.specs.declared.Records.{Records}
use Rattle.records.specs.declared.Rule.{Rule}
use Rattle.records.specs.declared.Server.{Server}
use Rattle.records.specs.Server.{fresh_server, server_gives_up, server_goes_by}
use Rattle.records.proofs.FreshLaws.{fresh_kept}
use Rattle.records.proofs.FindLaws.{record_at_lem}
use Rattle.places.specs.Act.{holds, put_at}
use Rattle.places.proofs.KeptLaws.{taken_same}
use Rattle.record_moves.specs.Named.{table_of, with_table}
use Rattle.record_moves.proofs.SafeLaws.{alone_same, alone_none, safe_put, safe_new}
use Rattle.server_edits.specs.Edited.{Edited}
use Rattle.server_edits.specs.Edit.{new_record, with_new, server_add, changed_to, set_record, record_at, with_edit, server_edit, with_delete, server_delete}
use Rattle.server_edits.proofs.RoomLaws.{Room, room_at}
use Rattle.server_edits.proofs.Cases.{add_all, edit_all, delete_all}
use Rattle.server_sends.specs.InRange.{RecordInRange, RecordsInRange, ServerInRange}
use Rattle.server_sends.proofs.AllLaws.{all_of, in_range_lem, all_put, all_new}

pub fresh_in_range : ServerInRange fresh_server
fresh_in_range =
    record {
      records =
          record {
            safe = record { formed = fresh_kept; once = λ i j a b e. absurd (none_in i a) };
            guids = omega arith;
            each = λ i e. absurd (none_in i e);
          };
      session = (omega arith, omega arith);
      anchor = (omega arith, omega arith);
    }

-- ---- the table after an edit in place i
module _ (c : Records) (h : RecordsInRange c) (i : ℕ) where
  new_in_range : (s : List ℕ) → text_ok s ≡ true → Room c i → RecordsInRange (with_new c i s)
  new_in_range s ok r =
      let x = new_record c s in
      in_range_lem (with_new c i s) (safe_new c i h.safe r.inside r.free x refl (signed_well server_station s (omega arith) ok) (alone_none c i x refl))
      (all_new RecordInRange c (all_of c h) i r x refl (omega arith, omega arith))

  module _ (inside : i < all_places) (u : in_use c.used i ≡ true) where
    abbrev was : Record
    was = record_at c i

    same_place : (x : Record) → with_table c (put_at (table_of c) i (holds x)) ≡ set_record c i x
    same_place x = ap (λ (v : ℕ). record { used = v; places = set c.places i x; guid = c.guid }) (taken_same c.used i u)

    -- other text and mark
    edited_in_range : (t : Wording) (m : Mark) → IsWording t → RecordsInRange (set_record c i (changed_to was t m))
    edited_in_range t m f =
        let x = changed_to was t m in
        subst RecordsInRange (same_place x)
        (in_range_lem (with_table c (put_at (table_of c) i (holds x))) (safe_put c i h.safe inside u x refl f (alone_same c i x h.safe.once u refl))
        (all_put RecordInRange c (all_of c h) i inside u (holds x) (record { same = refl; holds = λ p. p })))

-- ---- the calls
abbrev Done : Edited → Type 0
Done r = ServerInRange r.server

module _ (p : Server) (h : ServerInRange p) where
  with_records : (c : Records) → RecordsInRange c → ServerInRange (record { records = c; link = p.link; rule = p.rule })
  with_records c r = record { records = r; session = h.session; anchor = h.anchor }

  pub add_in_range : (s : List ℕ) → ServerInRange (server_add p s).server
  add_in_range s =
      add_all p s Done (λ n. h) (λ i ok e. with_records (with_new p.records i s) (new_in_range p.records h.records i s ok (room_at p.records i e)))

  module _ (g : Guid) where
    pub edit_in_range : (s : List ℕ) → ServerInRange (server_edit p g s).server
    edit_in_range s =
        edit_all p g s Done (λ n. h)
        (λ i e ok.
        let f = record_at_lem p.records h.records.safe.formed g i e in
        with_records (with_edit p.records i s) (edited_in_range p.records h.records i f.inside f.taken (signed_by server_station s) Dirty (signed_well server_station s (omega arith) ok)))

    pub delete_in_range : ServerInRange (server_delete p g).server
    delete_in_range =
        delete_all p g Done (λ n. h)
        (λ i e.
        let f = record_at_lem p.records h.records.safe.formed g i e in
        with_records (with_delete p.records i)
        (edited_in_range p.records h.records i f.inside f.taken (record_at p.records i).wording Deleted (h.records.safe.formed.records i f.taken)))

  pub given_up_in_range : ServerInRange (server_gives_up p)
  given_up_in_range = record { records = h.records; session = h.session; anchor = h.anchor }

  pub rule_in_range : (rule : Rule) → ServerInRange (server_goes_by rule p)
  rule_in_range rule = record { records = h.records; session = h.session; anchor = h.anchor }
