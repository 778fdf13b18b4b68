-- Records with other wordings: each is found where it was, and may be given the same LUIDs. Steps 1 and 3 of Pkg 3. Assumes nothing.
use Rattle.std.proofs.Common.{Option, Some, None}
use Prim.Native.Nat.{ℕ}
use mathlib.Core.Path.{◌≡◌, refl, ap, ap₂, ◌∙◌}
use mathlib.Core.Bool.{Bool, cond, not, ◌&&◌, ◌||◌}
use mathlib.Core.List.{List, map}
use lib.ListN.{get_or}
use Rattle.places.specs.Set.{with_place}
use Rattle.places.specs.Act.{Slot, free, holds, act, each, in_order, all_pass}
use Rattle.terms.specs.declared.Luid.{Luid}
use Rattle.terms.specs.Number.{no_guid}
use Rattle.terms.specs.Check.{checked}
use Rattle.records.specs.declared.Mark.TheVariants.{Clean}
use Rattle.records.specs.declared.Record.{Record}
use Rattle.records.specs.declared.Records.{Records}
use Rattle.records.specs.Server.{unpaired, no_record}
use Rattle.lists.specs.declared.Entry.{Entry}
use Rattle.record_moves.specs.Named.{Named}
use Rattle.record_moves.specs.Named.{table_of, with_table, with_record, is_paired, has_luid, is_named, place_of, is_nothing, may_have}
use Rattle.server_edits.specs.Edit.{room_for}
use Rattle.server_reports.specs.Step1.{InTurn}
use Rattle.server_reports.specs.Step1.{named_by, is_late, counted, told, report, fits_at, report_fits, all_or_none, reported}
use Rattle.server_forgets.specs.Step3.{is_forgotten, step3}
use Rattle.reworded.specs.Reworded.{Rewording, reword_record, reword_records, reword_entry, reword_entries}
use Rattle.places.proofs.MapLaws.{cond_map, set_map, map_slot, find_map, act_map, each_map, at_map, order_map, all_map}

module _ (r : Rewording) where
  pub no_record_lem : reword_record r no_record ≡ no_record
  no_record_lem = λ i. record { guid = no_guid; wording = r.past_end i; pairing = unpaired Clean }

  pub record_at_lem : (s : Records) (i : ℕ) → get_or (reword_records r s).places i no_record ≡ reword_record r (get_or s.places i no_record)
  record_at_lem s i = at_map (reword_record r) no_record no_record no_record_lem s.places i

  pub with_record_lem : (s : Records) (i : ℕ) (x : Record) → with_record (reword_records r s) i (reword_record r x) ≡ reword_records r (with_record s i x)
  with_record_lem s i x = ap (λ (l : List Record). record { used = with_place s.used i; places = l; guid = s.guid }) (set_map (reword_record r) s.places i x)

  pub same_room : (s : Records) → room_for (reword_records r s) ≡ room_for s
  unfolding room_for
  same_room s = refl

  -- ---- which record
  pub same_named : (n : Named) (x : Record) → is_named n (reword_record r x) ≡ is_named n x
  same_named (Named.ByLuid l) x = refl
  same_named (Named.ByGuid g) x = refl
  same_named (Named.Elsewhere g l) x = refl
  same_named (Named.Known g) x = refl

  pub same_place : (s : Records) (n : Named) → place_of (reword_records r s) n ≡ place_of s n
  same_place s n = find_map (reword_record r) (is_named n) (is_named n) (same_named n) (table_of s)

  pub same_may : (l : Luid) (x : Record) (s : Records) → may_have l (reword_record r x) (reword_records r s) ≡ may_have l x s
  unfolding may_have
  same_may l x s = ap (λ (w : Option ℕ). (not (is_paired x) || has_luid l x) && is_nothing w) (same_place s (Named.Elsewhere x.guid l))

  -- what a rule does to the record that it names, to each that passes
  module _ (h k : Record → Slot Record) (so : (x : Record) → h (reword_record r x) ≡ map_slot (reword_record r) (k x)) where
    pub act_reworded : (n : Named) (s : Records) → with_table (reword_records r s) (act no_record (is_named n) h (table_of (reword_records r s))) ≡ reword_records r (with_table s (act no_record (is_named n) k (table_of s)))
    act_reworded n s = ap (with_table (reword_records r s)) (act_map (reword_record r) (is_named n) (is_named n) (same_named n) no_record no_record no_record_lem h k so (table_of s))

    pub each_reworded : (q p : Record → Bool) → ((x : Record) → q (reword_record r x) ≡ p x)
        → (s : Records) → with_table (reword_records r s) (each no_record q h (table_of (reword_records r s))) ≡ reword_records r (with_table s (each no_record p k (table_of s)))
    each_reworded q p same s = ap (with_table (reword_records r s)) (each_map (reword_record r) q p same no_record no_record no_record_lem h k so (table_of s))

  -- ---- reports, one after the other (Pkg 5's answers go the same way)
  abbrev pub reword_in_turn : InTurn → InTurn
  reword_in_turn t = record { check = t.check; records = reword_records r t.records }

  pub all_or_none_lem : {A : Type 0} (a : A → A) (fits : A → Records → Bool) (take : A → Records → Records)
      → ((x : A) (s : Records) → fits (a x) (reword_records r s) ≡ fits x s) → ((x : A) (s : Records) → take (a x) (reword_records r s) ≡ reword_records r (take x s))
      → (xs : List A) (s : Records) → all_or_none fits take (map a xs) (reword_records r s) ≡ reword_in_turn (all_or_none fits take xs s)
  unfolding all_or_none
  all_or_none_lem a fits take same so xs s =
      ap₂ (λ (b : Bool) (t : Records). record { check = checked b; records = cond b t (reword_records r s) })
      (all_map a (reword_records r) take take so fits fits same xs s) (order_map a (reword_records r) take take so xs s)
      ∙ ap (λ (t : Records). record { check = checked (all_pass fits take xs s); records = t }) (cond_map (reword_records r) (all_pass fits take xs s) (in_order take xs s) s)

  pub told_reworded : (e : Entry) (x : Record) → told (reword_entry r e) (reword_record r x) ≡ reword_record r (told e x)
  unfolding told
  told_reworded e x = cond_map (reword_record r) (is_late e x) x (counted e x)

  pub report_reworded : (e : Entry) (s : Records) → report (reword_entry r e) (reword_records r s) ≡ reword_records r (report e s)
  unfolding report
  report_reworded e s = act_reworded (λ x. holds (told (reword_entry r e) x)) (λ x. holds (told e x)) (λ x. ap holds (told_reworded e x)) (named_by e) s

  pub same_report_lem : (e : Entry) (s : Records) → report_fits (reword_entry r e) (reword_records r s) ≡ report_fits e s
  unfolding report_fits
  same_report_lem e s = ap (fits_at (reword_entry r e) (reword_records r s)) (same_place s (named_by e)) ∙ go (place_of s (named_by e))
    where
      go : (w : Option ℕ) → fits_at (reword_entry r e) (reword_records r s) w ≡ fits_at e s w
      go None = refl
      go (Some i) =
          ap (λ (x : Record). is_late e x || may_have e.fields.luid x (reword_records r s)) (record_at_lem s i)
          ∙ ap (λ (b : Bool). is_late e (get_or s.places i no_record) || b) (same_may e.fields.luid (get_or s.places i no_record) s)

  pub reported_reworded : (es : List Entry) (s : Records) → reported (reword_entries r es) (reword_records r s) ≡ reword_in_turn (reported es s)
  reported_reworded es s = all_or_none_lem (reword_entry r) report_fits report same_report_lem report_reworded es s

  -- ---- deleted records without LUID
  pub step3_reworded : (s : Records) → step3 (reword_records r s) ≡ reword_records r (step3 s)
  unfolding step3
  step3_reworded s = each_reworded (λ x. free) (λ x. free) (λ x. refl) is_forgotten is_forgotten (λ x. refl) s
