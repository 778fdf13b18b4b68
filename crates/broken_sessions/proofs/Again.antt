-- The same Pkg 3 taken again, where no 420 was answered: the server stays as it is, and press and server end the session as they would have: a session broken off after Pkg 3 or Pkg 4. Assumes nothing.
use Rattle.std.proofs.Common.{Option, Some, None}
use Prim.Native.Nat.{ℕ, suc, ◌+◌}
use mathlib.Core.Path.{◌≡◌, refl, sym, ap, ap₂, ◌∙◌}
use mathlib.Core.Bool.{Bool, true, false, cond, ◌||◌, false≢true}
use mathlib.Core.List.{List, [], ◌∷◌}
use lib.Dec.{eqb}
use lib.ListN.{length, get_or}
use Rattle.places.specs.Set.{all_places}
use Rattle.places.specs.Act.{in_order, replies}
use Rattle.places.proofs.KeptLaws.{find_nothing}
use Rattle.places.proofs.Views.{holds_used}
use Rattle.places.proofs.Every.{Every}
use Rattle.places.proofs.Held.{holds_is}
use Rattle.lists.specs.declared.Entry.{Entry}
use Rattle.terms.specs.declared.Mode.{Mode}
use Rattle.cards.specs.declared.Cards.{Cards}
use Rattle.records.specs.declared.Mark.{Mark}
use Rattle.records.specs.declared.Records.{Records}
use Rattle.records.specs.declared.Rule.{Rule}
use Rattle.records.specs.Server.{no_record}
use Rattle.record_moves.specs.Named.{is_named, has_luid, place_of, table_of}
use Rattle.server_reports.specs.Step1.{is_late}
use Rattle.server_deletes.specs.Step2.{deletes_in}
use Rattle.server_forgets.specs.Step3.{step3}
use Rattle.server_changes.proofs.RuleLaws.{newer_code_all}
use Rattle.server_changes.specs.Step4.{newer_code, paired, change, change_code_at, change_status}
use Rattle.server_merge.specs.Merge.{changes_of, up_to3, merged}
use Rattle.server_offers.specs.Offer as offer
use Rattle.server_answers.specs.Answer.{answered}
use Rattle.press_tells.specs.Tell.{reports, commands}
use Rattle.press_ends.specs.End.{marks_end}
use Rattle.press_replies.specs.Reply.{answering}
use Rattle.press_takes.specs.Take.{after_command}
use Rattle.server_sends.proofs.StatusLaws.{statuses_length}
use Rattle.demand3.specs.Demand3.{any_room_refused}
use Rattle.own_packages.proofs.Offers.{commands_same}
use Rattle.own_packages.proofs.Own.{statuses4, commands4, press_at5, answers5, server6, heard_all, merged_of, server4}
use Rattle.pairs.proofs.Invariant.{Invariant}
use Rattle.server_pairs.proofs.Pkg3.{safe_merged}
use Rattle.server_pairs.proofs.Settled.{Done, Settled, reports_still, step2_still, step3_still, change_still, merged_still, server4_still}
use Rattle.server_pairs.proofs.AfterPkg3.{pkg3_settled}
use Rattle.whole_sessions.proofs.PackageLaws.{Roomy}
use Rattle.broken_sessions.proofs.Codes.{roomy_changes, statuses_roomy, marks_same}

-- ---- a change that the server knows is not answered 420
never_420 : (rule : Rule) (b : Bool) (m : Mark) → eqb (cond b 200 (newer_code rule m)) 420 ≡ false
never_420 rule true m = refl
never_420 rule false m = newer_code_all rule (λ n. eqb n 420 ≡ false) refl refl refl m

module _ (rule : Rule) (m : Mode) (c : Cards) (s : Records) (k : Settled m c s) where
  known_code : (d : Entry) → Done s d → eqb (change_code_at rule d s (place_of s (paired d))) 420 ≡ false
  known_code d w = go (place_of s (paired d)) refl
    where
      has : has_luid d.fields.luid (get_or s.places w.place no_record) ≡ true
      has = ap (has_luid d.fields.luid) (holds_is no_record (table_of s) w.place w.record' w.here) ∙ w.has

      go : (f : Option ℕ) → place_of s (paired d) ≡ f → eqb (change_code_at rule d s f) 420 ≡ false
      go None e = absurd (false≢true (sym (find_nothing no_record (is_named (paired d)) refl (table_of s) e w.place (holds_used no_record (table_of s) w.place w.record' w.here)) ∙ has))
      go (Some i) e = never_420 rule (is_late d (get_or s.places i no_record)) (get_or s.places i no_record).pairing.mark

  known_roomy : (n : ℕ) (ds : List Entry) → Every (Done s) ds → any_room_refused (replies (change_status rule) (change rule) n ds s) ≡ false
  unfolding any_room_refused replies change_status
  known_roomy n [] f = refl
  known_roomy n (d ∷ ds) f =
      ap (λ (b : Bool). b || any_room_refused (replies (change_status rule) (change rule) (suc n) ds (change rule d s))) (known_code d f.0)
      ∙ (ap (λ (r : Records). any_room_refused (replies (change_status rule) (change rule) (suc n) ds r)) (change_still m c s k rule d f.0) ∙ known_roomy (suc n) ds f.1)

  settled_roomy : any_room_refused (statuses4 rule m c s) ≡ false
  settled_roomy =
      let cs = commands m c in
      let n = 4 + length (reports c) in
      let same : up_to3 m cs (heard_all c s) ≡ s = ap (up_to3 m cs) (reports_still m c s k) ∙ (ap step3 (step2_still m c s k) ∙ step3_still m c s k) in
      statuses_roomy rule m n cs (heard_all c s) (ap (λ (r : Records). any_room_refused (replies (change_status rule) (change rule) (n + deletes_in cs) (changes_of cs) r)) same ∙ known_roomy (n + deletes_in cs) (changes_of cs) k.known)

-- ---- the session that starts where Pkg 4 was lost
module _ (rule : Rule) (m : Mode) (c : Cards) (s : Records) (h : Invariant c s) (r : Roomy rule m c s) where
  abbrev s4 : Records
  s4 = server4 rule m c s

  settled : Settled m c s4
  settled = pkg3_settled rule m c s h (roomy_changes rule m (4 + length (reports c)) (commands m c) (heard_all c s) r.at_server)

  pub again_4 : server4 rule m c s4 ≡ s4
  again_4 = server4_still m c s4 settled rule

  merged_again : merged_of rule m c s4 ≡ s4
  merged_again = ap (merged rule m (commands m c)) (reports_still m c s4 settled) ∙ merged_still m c s4 settled rule

  statuses_many : (t : Records) → length (statuses4 rule m c t) ≡ length (commands m c)
  statuses_many t = statuses_length rule m (4 + length (reports c)) (commands m c) (heard_all c t)

  commands_again : commands4 rule m c s4 ≡ commands4 rule m c s
  commands_again = ap offer.commands merged_again ∙ commands_same (merged_of rule m c s) long
    where
      long : length (merged_of rule m c s).places ≡ all_places
      long = (safe_merged rule m c s h).formed.guids.long

  marks_again : marks_end m (commands m c) (statuses4 rule m c s4) c ≡ marks_end m (commands m c) (statuses4 rule m c s) c
  marks_again = marks_same m (commands m c) (statuses4 rule m c s4) (statuses4 rule m c s) (statuses_many s4 ∙ sym (statuses_many s)) (settled_roomy rule m c s4 settled) r.at_server c

  pub again_5 : press_at5 rule m c s4 ≡ press_at5 rule m c s
  again_5 = ap₂ (in_order after_command) commands_again marks_again

  answers_again : answers5 rule m c s4 ≡ answers5 rule m c s
  answers_again =
      ap (λ (n : ℕ). replies answering after_command (4 + n) (commands4 rule m c s4) (marks_end m (commands m c) (statuses4 rule m c s4) c)) (statuses_many s4 ∙ sym (statuses_many s))
      ∙ ap₂ (replies answering after_command (4 + length (statuses4 rule m c s))) commands_again marks_again

  pub again_6 : server6 rule m c s4 ≡ server6 rule m c s
  again_6 = ap₂ (λ (t : Records) (xs : List Entry). (answered (offer.offers t) xs t).records) again_4 answers_again
