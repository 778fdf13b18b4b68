-- What each number gives after an edit at the server: the edit's own number its record, and every other number what it gave. Assumes nothing.
use Rattle.std.proofs.Common.{Option, None, Some}
use Prim.Native.Nat.{ℕ, ◌+◌}
use mathlib.Core.Path.{◌≡◌, refl, sym, ap, subst, ◌∙◌}
use mathlib.Core.List.{List}
use Rattle.text.specs.Wording.{server_station, signed_by}
use Rattle.places.specs.Table.{entry_found}
use Rattle.places.proofs.TableLaws.{gives_new, beside_new, gives_changed, gives_gone, beside_changed}
use Rattle.terms.specs.declared.Guid.{Guid}
use Rattle.terms.specs.Number.{guid}
use Rattle.records.specs.declared.Mark.TheVariants.{Dirty, Deleted}
use Rattle.records.specs.declared.Record.{Record}
use Rattle.records.specs.declared.Records.{Records}
use Rattle.records.specs.declared.Server.{Server}
use Rattle.records.specs.Server.{no_record, find_record, record_of, guid_of, WellFormed}
use Rattle.records.proofs.FindLaws.{live, RecordAt, record_at_lem}
use Rattle.server_edits.specs.Edited.{Done}
use Rattle.server_edits.specs.Edited.{Edited}
use Rattle.server_edits.specs.Edit.{new_record, with_new, server_add, changed_to, record_at, with_edit, server_edit, with_delete, server_delete}
use Rattle.server_edits.proofs.RoomLaws.{Room, room_at}
use Rattle.server_edits.proofs.Cases.{add_all, edit_all, delete_all}

-- ---- the table after an edit in place i
module _ (c : Records) (w : WellFormed c) (i : ℕ) where
  module _ (s : List ℕ) (r : Room c i) where
    new_gives : record_of (with_new c i s) (guid (c.guid + 1)) ≡ Some (new_record c s)
    unfolding find_record
    new_gives = gives_new guid_of no_record c.used c.places c.guid w.guids i r.inside (new_record c s) r.free refl live refl

    new_others : (m : Guid) → (c.guid + 1 ≡ m.0 → ⊥) → record_of (with_new c i s) m ≡ record_of c m
    unfolding find_record
    new_others m = beside_new guid_of no_record c.used c.places c.guid w.guids i r.inside (new_record c s) r.free refl live m.0

  -- where the record with number g stands
  module _ (g : Guid) (f : RecordAt c g i) where
    module _ (s : List ℕ) where
      abbrev new : Record
      new = changed_to (record_at c i) (signed_by server_station s) Dirty

      edit_gives : record_of (with_edit c i s) g ≡ Some new
      unfolding find_record
      edit_gives = gives_changed guid_of no_record c.used c.places c.guid w.guids i f.inside new refl live g.0 f.taken f.number refl

      edit_others : (m : Guid) → (g.0 ≡ m.0 → ⊥) → record_of (with_edit c i s) m ≡ record_of c m
      unfolding find_record
      edit_others m ne = beside_changed guid_of no_record c.used c.places c.guid w.guids i f.inside new refl live m.0 (λ q. ne (sym f.number ∙ q))

    abbrev gone : Record
    gone = changed_to (record_at c i) (record_at c i).wording Deleted

    delete_gives : record_of (with_delete c i) g ≡ None
    unfolding find_record
    delete_gives = gives_gone guid_of no_record c.used c.places c.guid w.guids i f.inside gone refl live g.0 f.taken f.number refl

    delete_others : (m : Guid) → (g.0 ≡ m.0 → ⊥) → record_of (with_delete c i) m ≡ record_of c m
    unfolding find_record
    delete_others m ne = beside_changed guid_of no_record c.used c.places c.guid w.guids i f.inside gone refl live m.0 (λ q. ne (sym f.number ∙ q))

-- ---- the calls
-- where the call is done with a number, that number gives x
abbrev pub Gives : Guid → Option Record → Edited → Type 0
Gives g x r = r.outcome ≡ Done g → record_of r.server.records g ≡ x

-- number m gives what it gave
abbrev pub Same : Guid → Server → Edited → Type 0
Same m p r = record_of r.server.records m ≡ record_of p.records m

module _ (p : Server) (w : WellFormed p.records) where
  pub server_add_gives : (s : List ℕ) (g : Guid) → Gives g (Some (new_record p.records s)) (server_add p s)
  server_add_gives s g =
      add_all p s (Gives g (Some (new_record p.records s))) (λ n q. cc)
      (λ i ok e q.
      let same : ◌≡◌ {A = Guid} (guid (p.records.guid + 1)) g = cc in
      subst (λ (h : Guid). record_of (with_new p.records i s) h ≡ Some (new_record p.records s)) same (new_gives p.records w i s (room_at p.records i e)))

  pub server_add_others : (s : List ℕ) (m : Guid) → (p.records.guid + 1 ≡ m.0 → ⊥) → Same m p (server_add p s)
  server_add_others s m ne = add_all p s (Same m p) (λ n. refl) (λ i ok e. new_others p.records w i s (room_at p.records i e) m ne)

  module _ (g : Guid) where
    pub server_edit_gives : (s : List ℕ) (x : Record) → record_of p.records g ≡ Some x → Gives g (Some (changed_to x (signed_by server_station s) Dirty)) (server_edit p g s)
    server_edit_gives s x was =
        edit_all p g s (Gives g (Some (changed_to x (signed_by server_station s) Dirty))) (λ n q. cc)
        (λ i e ok q.
        let same : record_at p.records i ≡ x = cc (ap (entry_found no_record p.records.places) e) in
        edit_gives p.records w i g (record_at_lem p.records w g i e) s ∙ ap (λ (y : Record). Some (changed_to y (signed_by server_station s) Dirty)) same)

    pub server_edit_others : (s : List ℕ) (m : Guid) → (g.0 ≡ m.0 → ⊥) → Same m p (server_edit p g s)
    server_edit_others s m ne = edit_all p g s (Same m p) (λ n. refl) (λ i e ok. edit_others p.records w i g (record_at_lem p.records w g i e) s m ne)

    pub server_delete_gives : Gives g None (server_delete p g)
    server_delete_gives = delete_all p g (Gives g None) (λ n q. cc) (λ i e q. delete_gives p.records w i g (record_at_lem p.records w g i e))

    pub server_delete_others : (m : Guid) → (g.0 ≡ m.0 → ⊥) → Same m p (server_delete p g)
    server_delete_others m ne = delete_all p g (Same m p) (λ n. refl) (λ i e. delete_others p.records w i g (record_at_lem p.records w g i e) m ne)
