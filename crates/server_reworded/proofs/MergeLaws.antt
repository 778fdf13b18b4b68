-- The server at Pkg 3, steps 2 to 5, with other wordings: each record becomes what it became, and the codes are the same. Assumes nothing.
use Rattle.std.proofs.Common.{Option, Some, None}
use Prim.Native.Nat.{ℕ, suc, ◌+◌}
use mathlib.Core.Path.{◌≡◌, refl, ap, ap₂, ◌∙◌}
use mathlib.Core.Bool.{Bool, cond, not, ◌&&◌, ◌||◌}
use mathlib.Core.List.{List, [], ◌∷◌}
use lib.Dec.{eqb}
use lib.ListN.{get_or, take, drop}
use Rattle.places.specs.Set.{with_place}
use Rattle.places.specs.Act.{in_order, replies}
use Rattle.terms.specs.declared.Luid.{Luid}
use Rattle.terms.specs.declared.Mode.{Mode}
use Rattle.terms.specs.declared.Mode.TheVariants.{Normal, Recovery}
use Rattle.records.specs.declared.Mark.{Mark}
use Rattle.records.specs.declared.Record.{Record}
use Rattle.records.specs.declared.Records.{Records}
use Rattle.records.specs.declared.Rule.{Rule}
use Rattle.records.specs.declared.Rule.TheVariants.{PressWins, ServerWins}
use Rattle.records.specs.Server.{no_record}
use Rattle.lists.specs.declared.Entry.{Entry}
use Rattle.statuses.specs.declared.Name.{Name}
use Rattle.statuses.specs.Status.{name_of, empty_status}
use Rattle.record_moves.specs.Named.{with_record, is_paired, place_of}
use Rattle.server_edits.specs.Edit.{room_for}
use Rattle.server_reports.specs.Step1.{is_late}
use Rattle.server_deletes.specs.Step2.{lost_by, lost_code, lost, deleted, delete, delete_code_at, delete_status, is_delete, deletes_in, deletes_of, names_luid, left_out, step2}
use Rattle.server_forgets.specs.Step3.{step3}
use Rattle.server_changes.specs.Step4.{newer, changed, changed_code, made, with_made, make_at, make_code, paired, change_at, change, change_code_at, change_status}
use Rattle.server_merge.specs.Merge.{changes_of, up_to3, merged, statuses_for}
use Rattle.reworded.specs.Reworded.{Rewording, reword_record, reword_records, reword_entry, reword_entries}
use Rattle.places.proofs.MapLaws.{append_map, take_map, cond_map, drop_map, set_map, map_slot, order_map, replies_map}
use Rattle.reworded.proofs.EntryLaws.{unworded}
use Rattle.server_reworded.proofs.RecordLaws.{record_at_lem, with_record_lem, same_room, same_place, act_reworded, each_reworded, step3_reworded}

module _ (r : Rewording) where
  -- ---- step 2
  lost_by_lem : (m : Mark) (x : Record) → lost_by m (reword_record r x) ≡ map_slot (reword_record r) (lost_by m x)
  lost_by_lem Mark.Clean x = refl
  lost_by_lem Mark.Deleted x = refl
  lost_by_lem Mark.Dirty x = refl
  lost_by_lem Mark.Offered x = refl

  pub lost_reworded : (x : Record) → lost (reword_record r x) ≡ map_slot (reword_record r) (lost x)
  lost_reworded x = lost_by_lem x.pairing.mark x

  pub delete_reworded : (c : Entry) (s : Records) → delete (reword_entry r c) (reword_records r s) ≡ reword_records r (delete c s)
  unfolding delete
  delete_reworded c s = act_reworded r lost lost lost_reworded (deleted c) s

  pub delete_status_reworded : (ref : ℕ) (c : Entry) (s : Records) → delete_status ref (reword_entry r c) (reword_records r s) ≡ reword_entry r (delete_status ref c s)
  unfolding delete_status
  delete_status_reworded ref c s =
      ap (empty_status ref Name.Delete) (ap (delete_code_at (reword_records r s)) (same_place r s (deleted c)) ∙ go (place_of s (deleted c)))
      ∙ unworded r (empty_status ref Name.Delete (delete_code_at s (place_of s (deleted c)))).fields
    where
      go : (w : Option ℕ) → delete_code_at (reword_records r s) w ≡ delete_code_at s w
      go None = refl
      go (Some i) = ap (λ (x : Record). lost_code x.pairing.mark) (record_at_lem r s i)

  same_deletes : (cs : List Entry) → deletes_in (reword_entries r cs) ≡ deletes_in cs
  unfolding deletes_in
  same_deletes [] = refl
  same_deletes (c ∷ cs) = ap (λ (n : ℕ). cond (is_delete (name_of c.fields.kind)) (suc n) 0) (same_deletes cs)

  deletes_reworded : (cs : List Entry) → deletes_of (reword_entries r cs) ≡ reword_entries r (deletes_of cs)
  deletes_reworded cs = ap (λ (n : ℕ). take n (reword_entries r cs)) (same_deletes cs) ∙ take_map (reword_entry r) (deletes_in cs) cs

  changes_reworded : (cs : List Entry) → changes_of (reword_entries r cs) ≡ reword_entries r (changes_of cs)
  changes_reworded cs = ap (λ (n : ℕ). drop n (reword_entries r cs)) (same_deletes cs) ∙ drop_map (reword_entry r) (deletes_in cs) cs

  same_names : (cs : List Entry) (l : Luid) → names_luid (reword_entries r cs) l ≡ names_luid cs l
  unfolding names_luid
  same_names [] l = refl
  same_names (c ∷ cs) l = ap (λ (b : Bool). eqb c.fields.luid.0 l.0 || b) (same_names cs l)

  same_left : (cs : List Entry) (x : Record) → left_out (reword_entries r cs) (reword_record r x) ≡ left_out cs x
  unfolding left_out
  same_left cs x = ap (λ (b : Bool). is_paired x && not b) (same_names cs x.pairing.luid)

  pub step2_reworded : (m : Mode) (cs : List Entry) (s : Records) → step2 m (reword_entries r cs) (reword_records r s) ≡ reword_records r (step2 m cs s)
  unfolding step2
  step2_reworded Normal cs s = ap (λ (l : List Entry). in_order delete l (reword_records r s)) (deletes_reworded cs) ∙ order_map (reword_entry r) (reword_records r) delete delete delete_reworded (deletes_of cs) s
  step2_reworded Recovery cs s = each_reworded r lost lost lost_reworded (left_out (reword_entries r cs)) (left_out cs) (same_left cs) s

  pub up_to_3_reworded : (m : Mode) (cs : List Entry) (s : Records) → up_to3 m (reword_entries r cs) (reword_records r s) ≡ reword_records r (up_to3 m cs s)
  up_to_3_reworded m cs s = ap step3 (step2_reworded m cs s) ∙ step3_reworded r (step2 m cs s)

  -- ---- steps 4 and 5
  module _ (rule : Rule) where
    newer_reworded : (m : Mark) (rule : Rule) (c : Entry) (x : Record) → newer rule m (reword_entry r c) (reword_record r x) ≡ reword_record r (newer rule m c x)
    newer_reworded Mark.Clean rule c x = refl
    newer_reworded Mark.Deleted rule c x = refl
    newer_reworded Mark.Dirty PressWins c x = refl
    newer_reworded Mark.Dirty ServerWins c x = refl
    newer_reworded Mark.Offered PressWins c x = refl
    newer_reworded Mark.Offered ServerWins c x = refl

    pub changed_reworded : (c : Entry) (x : Record) → changed rule (reword_entry r c) (reword_record r x) ≡ reword_record r (changed rule c x)
    unfolding changed
    changed_reworded c x =
        ap (cond (is_late c x) (reword_record r x)) (newer_reworded x.pairing.mark rule c x)
        ∙ cond_map (reword_record r) (is_late c x) x (newer rule x.pairing.mark c x)

    made_reworded : (c : Entry) (s : Records) (i : ℕ) → with_made (reword_entry r c) (reword_records r s) i ≡ reword_records r (with_made c s i)
    made_reworded c s i = ap (λ (l : List Record). record { used = with_place s.used i; places = l; guid = s.guid + 1 }) (set_map (reword_record r) s.places i (made c s))

    make_reworded : (c : Entry) (s : Records) (w : Option ℕ) → make_at (reword_entry r c) (reword_records r s) w ≡ reword_records r (make_at c s w)
    make_reworded c s None = refl
    make_reworded c s (Some i) = made_reworded c s i

    pub change_reworded : (c : Entry) (s : Records) → change rule (reword_entry r c) (reword_records r s) ≡ reword_records r (change rule c s)
    unfolding change
    change_reworded c s = ap (change_at rule (reword_entry r c) (reword_records r s)) (same_place r s (paired c)) ∙ go (place_of s (paired c))
      where
        go : (w : Option ℕ) → change_at rule (reword_entry r c) (reword_records r s) w ≡ reword_records r (change_at rule c s w)
        go None = ap (make_at (reword_entry r c) (reword_records r s)) (same_room r s) ∙ make_reworded c s (room_for s)
        go (Some i) =
            ap (with_record (reword_records r s) i) (ap (changed rule (reword_entry r c)) (record_at_lem r s i) ∙ changed_reworded c (get_or s.places i no_record))
            ∙ with_record_lem r s i (changed rule c (get_or s.places i no_record))

    pub change_status_reworded : (ref : ℕ) (c : Entry) (s : Records) → change_status rule ref (reword_entry r c) (reword_records r s) ≡ reword_entry r (change_status rule ref c s)
    unfolding change_status
    change_status_reworded ref c s =
        ap (empty_status ref (name_of c.fields.kind)) (ap (change_code_at rule (reword_entry r c) (reword_records r s)) (same_place r s (paired c)) ∙ go (place_of s (paired c)))
        ∙ unworded r (empty_status ref (name_of c.fields.kind) (change_code_at rule c s (place_of s (paired c)))).fields
      where
        go : (w : Option ℕ) → change_code_at rule (reword_entry r c) (reword_records r s) w ≡ change_code_at rule c s w
        go None = ap make_code (same_room r s)
        go (Some i) = ap (changed_code rule c) (record_at_lem r s i)

    -- ---- steps 2 to 5, and the statuses
    pub merged_reworded : (m : Mode) (cs : List Entry) (s : Records) → merged rule m (reword_entries r cs) (reword_records r s) ≡ reword_records r (merged rule m cs s)
    unfolding merged
    merged_reworded m cs s =
        ap₂ (in_order (change rule)) (changes_reworded cs) (up_to_3_reworded m cs s)
        ∙ order_map (reword_entry r) (reword_records r) (change rule) (change rule) change_reworded (changes_of cs) (up_to3 m cs s)

    pub statuses_reworded : (m : Mode) (ref : ℕ) (cs : List Entry) (s : Records) → statuses_for rule m ref (reword_entries r cs) (reword_records r s) ≡ reword_entries r (statuses_for rule m ref cs s)
    unfolding statuses_for
    statuses_reworded m ref cs s =
        let first = replies delete_status delete ref (deletes_of cs) s in
        let rest = replies (change_status rule) (change rule) (ref + deletes_in cs) (changes_of cs) (up_to3 m cs s) in
        append_map (reword_entry r) first rest
        (ap (λ (l : List Entry). replies delete_status delete ref l (reword_records r s)) (deletes_reworded cs)
        ∙ replies_map (reword_entry r) (reword_records r) delete delete delete_reworded (reword_entry r) delete_status delete_status delete_status_reworded ref (deletes_of cs) s)
        (ap (λ (n : ℕ). replies (change_status rule) (change rule) (ref + n) (changes_of (reword_entries r cs)) (up_to3 m (reword_entries r cs) (reword_records r s))) (same_deletes cs)
        ∙ ap₂ (replies (change_status rule) (change rule) (ref + deletes_in cs)) (changes_reworded cs) (up_to_3_reworded m cs s)
        ∙ replies_map (reword_entry r) (reword_records r) (change rule) (change rule) change_reworded (reword_entry r) (change_status rule) (change_status rule) change_status_reworded (ref + deletes_in cs) (changes_of cs) (up_to3 m cs s))
