-- Edits by people at the server with other wordings: done or refused as before, with the same number. Assumes nothing.
use Rattle.std.proofs.Common.{Option, Some, None}
use Prim.Native.Nat.{ℕ, ◌+◌}
use mathlib.Core.Path.{◌≡◌, refl, ap, ap₂, ◌∙◌}
use mathlib.Core.Bool.{not}
use mathlib.Core.List.{List}
use lib.ListN.{set}
use Rattle.text.specs.Text.{text_ok}
use Rattle.text.specs.declared.Wording.{Wording}
use Rattle.text.specs.Wording.{server_station, signed_by}
use Rattle.places.specs.Set.{with_place}
use Rattle.terms.specs.declared.Guid.{Guid}
use Rattle.terms.specs.Number.{guid}
use Rattle.terms.specs.Check.{checked, or_refuse}
use Rattle.records.specs.declared.Mark.TheVariants.{Dirty, Deleted}
use Rattle.records.specs.declared.Record.{Record}
use Rattle.records.specs.declared.Records.{Records}
use Rattle.records.specs.declared.Server.{Server}
use Rattle.records.specs.Server.{unpaired, is_open, wanted, find_record}
use Rattle.server_edits.specs.Edited.{Edited}
use Rattle.server_edits.specs.Edit.{refusal, done, new_record, with_new, room_for, add_if_room, server_add, changed_to, set_record, record_at, with_edit, with_delete, edit_if_found, server_edit, delete_if_found, server_delete}
use Rattle.reworded.specs.Reworded.{Rewording, RewordsText, reword_record, reword_records, reword_server}
use Rattle.places.proofs.MapLaws.{set_map, first_map}
use Rattle.terms.proofs.CheckLaws.{refuse_map}
use Rattle.server_reworded.proofs.RecordLaws.{record_at_lem, same_room}

module _ (r : Rewording) where
  abbrev pub reword_edited : Edited → Edited
  reword_edited e = record { outcome = e.outcome; server = reword_server r e.server }

  same_found : (s : Records) (g : Guid) → find_record (reword_records r s) g ≡ find_record s g
  unfolding find_record
  same_found s g = first_map (reword_record r) (wanted s.used g) 0 s.places

  set_reworded : (s : Records) (i : ℕ) (x : Record) → set_record (reword_records r s) i (reword_record r x) ≡ reword_records r (set_record s i x)
  set_reworded s i x = ap (λ (l : List Record). record { used = s.used; places = l; guid = s.guid }) (set_map (reword_record r) s.places i x)

  -- ---- delete
  delete_reworded : (s : Records) (i : ℕ) → with_delete (reword_records r s) i ≡ reword_records r (with_delete s i)
  delete_reworded s i =
      ap (λ (x : Record). set_record (reword_records r s) i (changed_to x x.wording Deleted)) (record_at_lem r s i)
      ∙ set_reworded s i (changed_to (record_at s i) (record_at s i).wording Deleted)

  pub server_delete_reworded : (p : Server) (g : Guid) → server_delete (reword_server r p) g ≡ reword_edited (server_delete p g)
  unfolding server_delete
  server_delete_reworded p g =
      refuse_map reword_edited (checked (not (is_open p.link.awaits))) (refusal 1 p) (delete_if_found p g (find_record p.records g)) refl refl
      (ap (delete_if_found (reword_server r p) g) (same_found p.records g) ∙ go (find_record p.records g))
    where
      go : (w : Option ℕ) → delete_if_found (reword_server r p) g w ≡ reword_edited (delete_if_found p g w)
      go None = refl
      go (Some i) = ap (done (reword_server r p) g) (delete_reworded p.records i)

  -- ---- add and edit: the text t is u
  module _ (t u : List ℕ) (so : RewordsText r t u) where
    new_reworded : (s : Records) (i : ℕ) → with_new (reword_records r s) i u ≡ reword_records r (with_new s i t)
    new_reworded s i =
        ap (λ (x : Wording). record { used = with_place s.used i; places = set (reword_records r s).places i (record { guid = guid (s.guid + 1); wording = x; pairing = unpaired Dirty }); guid = s.guid + 1 })
        (so.says server_station)
        ∙ ap (λ (l : List Record). record { used = with_place s.used i; places = l; guid = s.guid + 1 }) (set_map (reword_record r) s.places i (new_record s t))

    add_reworded : (p : Server) (w : Option ℕ) → add_if_room (reword_server r p) u w ≡ reword_edited (add_if_room p t w)
    add_reworded p None = refl
    add_reworded p (Some i) = ap (done (reword_server r p) (guid (p.records.guid + 1))) (new_reworded p.records i)

    pub server_add_reworded : (p : Server) → server_add (reword_server r p) u ≡ reword_edited (server_add p t)
    unfolding server_add
    server_add_reworded p =
        let add = add_if_room p t (room_for p.records) in
        refuse_map reword_edited (checked (not (is_open p.link.awaits))) (refusal 1 p) (or_refuse (checked (text_ok t)) (refusal 4 p) add) refl refl
        (refuse_map reword_edited (checked (text_ok t)) (refusal 4 p) add (ap checked so.rule) refl
        (ap (add_if_room (reword_server r p) u) (same_room r p.records) ∙ add_reworded p (room_for p.records)))

    edit_reworded : (s : Records) (i : ℕ) → with_edit (reword_records r s) i u ≡ reword_records r (with_edit s i t)
    edit_reworded s i =
        ap₂ (λ (x : Record) (w : Wording). set_record (reword_records r s) i (changed_to x w Dirty)) (record_at_lem r s i) (so.says server_station)
        ∙ set_reworded s i (changed_to (record_at s i) (signed_by server_station t) Dirty)

    pub server_edit_reworded : (p : Server) (g : Guid) → server_edit (reword_server r p) g u ≡ reword_edited (server_edit p g t)
    unfolding server_edit
    server_edit_reworded p g =
        refuse_map reword_edited (checked (not (is_open p.link.awaits))) (refusal 1 p) (edit_if_found p g t (find_record p.records g)) refl refl
        (ap (edit_if_found (reword_server r p) g u) (same_found p.records g) ∙ go (find_record p.records g))
      where
        go : (w : Option ℕ) → edit_if_found (reword_server r p) g u w ≡ reword_edited (edit_if_found p g t w)
        go None = refl
        go (Some i) = refuse_map reword_edited (checked (text_ok t)) (refusal 4 p) (done p g (with_edit p.records i t)) (ap checked so.rule) refl (ap (done (reword_server r p) g) (edit_reworded p.records i))
