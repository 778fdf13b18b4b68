-- The server's commands in Pkg 4, and the answers to them in Pkg 5, with other wordings: the same in the same order. Assumes nothing.
use Rattle.std.proofs.Common.{ℕ}
use Rattle.std.proofs.Common.{Option, Some, None}
use mathlib.Core.Path.{◌≡◌, refl, ap, ap₂, ◌∙◌}
use mathlib.Core.Bool.{Bool, true, cond, ◌&&◌}
use mathlib.Core.List.{List, ◌++◌, map}
use lib.Dec.{eqb, ltb}
use lib.ListN.{get_or}
use Rattle.places.specs.Act.{holds, with_answers}
use Rattle.records.specs.declared.Record.{Record}
use Rattle.records.specs.declared.Records.{Records}
use Rattle.records.specs.Server.{no_record}
use Rattle.lists.specs.declared.Entry.{Entry}
use Rattle.listing.specs.Listing.{by_guid}
use Rattle.statuses.specs.declared.Name.{Name}
use Rattle.statuses.specs.declared.Name.TheVariants.{Delete, Replace, Add}
use Rattle.statuses.specs.Status.{name_of}
use Rattle.record_moves.specs.Named.{place_of, may_have}
use Rattle.server_offers.specs.Offer.{is_offered_as, offer, offers_of, offers, command_of, command, commands, offered_now, dirty_here, offered}
use Rattle.server_answers.specs.Answer.{recorded, dirty_again, answered_by, offered_in, answer, gives, given_at, answer_fits, answered}
use Rattle.server_reports.specs.Step1.{all_or_none}
use Rattle.reworded.specs.Reworded.{Rewording, reword_record, reword_records, reword_entry, reword_entries, reword_both}
use Rattle.places.proofs.MapLaws.{cond_map, map_slot, append_map, each_alike, rising_those_map, answers_map}
use Rattle.reworded.proofs.EntryLaws.{unworded}
use Rattle.server_reworded.proofs.RecordLaws.{record_at_lem, same_place, same_may, act_reworded, each_reworded, reword_in_turn, all_or_none_lem}

module _ (r : Rewording) where
  -- ---- Pkg 4
  same_offered : (m : Name) (x : Record) → is_offered_as m (reword_record r x) ≡ is_offered_as m x
  same_offered Delete x = refl
  same_offered Replace x = refl
  same_offered Add x = refl

  offers_of_lem : (m : Name) (s : Records) → offers_of m (reword_records r s) ≡ reword_entries r (offers_of m s)
  unfolding offers_of
  offers_of_lem m s = rising_those_map (reword_record r) (is_offered_as m) (is_offered_as m) (same_offered m) (reword_entry r) (offer m) (offer m) (λ x. refl) by_guid by_guid (λ x. refl) s.used s.places

  pub offers_reworded : (s : Records) → offers (reword_records r s) ≡ reword_entries r (offers s)
  unfolding offers
  offers_reworded s =
      append_map (reword_entry r) (offers_of Delete s) (offers_of Replace s ++ offers_of Add s) (offers_of_lem Delete s) (append_map (reword_entry r) (offers_of Replace s) (offers_of Add s) (offers_of_lem Replace s) (offers_of_lem Add s))

  command_of_lem : (m : Name) (o : Entry) → command_of m (reword_entry r o) ≡ reword_entry r (command_of m o)
  command_of_lem Delete o = unworded r (command_of Delete o).fields
  command_of_lem Replace o = refl
  command_of_lem Add o = refl

  pub commands_reworded : (s : Records) → commands (reword_records r s) ≡ reword_entries r (commands s)
  unfolding commands
  commands_reworded s = ap (map command) (offers_reworded s) ∙ each_alike (reword_entry r) (reword_entry r) command command (λ o. command_of_lem (name_of o.fields.kind) o) (offers s)

  pub offered_reworded : (s : Records) → offered (reword_records r s) ≡ reword_records r (offered s)
  unfolding offered
  offered_reworded s = each_reworded r (λ x. holds (offered_now x)) (λ x. holds (offered_now x)) (λ x. refl) dirty_here dirty_here (λ x. refl) s

  -- ---- Pkg 5
  answered_by_lem : (m : Name) (a : Entry) (x : Record) → answered_by m (reword_entry r a) (reword_record r x) ≡ map_slot (reword_record r) (answered_by m a x)
  answered_by_lem Delete a x = refl
  answered_by_lem Replace a x = ap holds (cond_map (reword_record r) (eqb a.fields.code 200) (recorded a x) (dirty_again x))
  answered_by_lem Add a x = ap holds (cond_map (reword_record r) (eqb a.fields.code 200) (recorded a x) (dirty_again x))

  pub answer_reworded : (p : Entry × Entry) (s : Records) → answer (reword_both r p) (reword_records r s) ≡ reword_records r (answer p s)
  unfolding answer
  answer_reworded p s =
      let m = name_of p.0.fields.kind in
      act_reworded r (answered_by m (reword_entry r p.1)) (answered_by m p.1) (answered_by_lem m p.1) (offered_in p.0) s

  same_gives : (m : Name) (a : Entry) → gives m (reword_entry r a) ≡ gives m a
  same_gives Delete a = refl
  same_gives Replace a = refl
  same_gives Add a = refl

  same_given : (a : Entry) (s : Records) (w : Option ℕ) → given_at (reword_entry r a) (reword_records r s) w ≡ given_at a s w
  same_given a s None = refl
  same_given a s (Some i) =
      ap (λ (x : Record). ltb x.pairing.known a.fields.fp && may_have a.fields.luid x (reword_records r s)) (record_at_lem r s i)
      ∙ ap (λ (b : Bool). ltb (get_or s.places i no_record).pairing.known a.fields.fp && b) (same_may r a.fields.luid (get_or s.places i no_record) s)

  pub same_answer : (p : Entry × Entry) (s : Records) → answer_fits (reword_both r p) (reword_records r s) ≡ answer_fits p s
  unfolding answer_fits
  same_answer p s =
      ap₂ (λ (b c : Bool). cond b c true) (same_gives (name_of p.0.fields.kind) p.1)
      (ap (given_at (reword_entry r p.1) (reword_records r s)) (same_place r s (offered_in p.0)) ∙ same_given p.1 s (place_of s (offered_in p.0)))

  pub answered_reworded : (os xs : List Entry) (s : Records) → answered (reword_entries r os) (reword_entries r xs) (reword_records r s) ≡ reword_in_turn r (answered os xs s)
  answered_reworded os xs s =
      ap (λ (l : List (Entry × Entry)). all_or_none answer_fits answer l (reword_records r s)) (answers_map (reword_entry r) (reword_entry r) os xs)
      ∙ all_or_none_lem r (reword_both r) answer_fits answer same_answer answer_reworded (with_answers os xs) s
