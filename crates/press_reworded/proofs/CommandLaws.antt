-- The press at Pkg 2 and Pkg 4 with other wordings: what it tells, the marks that statuses end, what each command of the server does and is answered. Assumes nothing.
use Rattle.std.proofs.Common.{Option, Some, None}
use Prim.Native.Nat.{ℕ, ◌+◌}
use mathlib.Core.Path.{◌≡◌, refl, ap, ap₂, ◌∙◌}
use mathlib.Core.Bool.{cond}
use mathlib.Core.List.{List, ◌++◌}
use lib.ListN.{get_or, set}
use Rattle.places.specs.Set.{with_place}
use Rattle.places.specs.Act.{free, holds, in_order, with_answers}
use Rattle.terms.specs.declared.Mode.{Mode}
use Rattle.terms.specs.declared.Mode.TheVariants.{Normal, Recovery}
use Rattle.terms.specs.Number.{luid, no_guid}
use Rattle.cards.specs.declared.Card.{Card}
use Rattle.cards.specs.declared.Cards.{Cards}
use Rattle.cards.specs.Press.{no_card, is_live}
use Rattle.card_moves.specs.Moves.{without_reports, without_delete_marks}
use Rattle.lists.specs.declared.Entry.{Entry}
use Rattle.listing.specs.Listing.{by_luid}
use Rattle.statuses.specs.declared.Name.{Name}
use Rattle.statuses.specs.declared.Name.TheVariants.{Delete, Replace, Add}
use Rattle.statuses.specs.Status.{name_of, empty_status, replaced, added}
use Rattle.press_tells.specs.Tell.{Tell}
use Rattle.press_tells.specs.Tell.{tells, words_of, told_of, reports, commands}
use Rattle.press_ends.specs.End.{keeps_mark, cleaned, ended, end_mark, ends, marks_end}
use Rattle.press_replies.specs.Reply.{taken_card, no_fingerprint, with_replaced, place_for, command_at, after_command, answering}
use Rattle.reworded.specs.Reworded.{Rewording, reword_card, reword_cards, reword_entry, reword_entries, reword_both}
use Rattle.places.proofs.MapLaws.{append_map, cond_map, set_map, map_slot, rising_those_map, order_map, answers_map}
use Rattle.reworded.proofs.EntryLaws.{unworded}
use Rattle.press_reworded.proofs.CardLaws.{card_at_lem, same_card_lem, same_room, act_reworded, without_reports_reworded, without_marks_reworded}

module _ (r : Rewording) where
  -- ---- what is told in Pkg 3
  same_tells : (k : Tell) (x : Card) → tells k (reword_card r x) ≡ tells k x
  same_tells Tell.Reports x = refl
  same_tells Tell.Deletes x = refl
  same_tells Tell.Replaces x = refl
  same_tells Tell.Adds x = refl
  same_tells Tell.AllCards x = refl

  words_reworded : (k : Tell) (x : Card) → words_of k (reword_card r x) ≡ reword_entry r (words_of k x)
  words_reworded Tell.Reports x = unworded r (words_of Tell.Reports x).fields
  words_reworded Tell.Deletes x = unworded r (words_of Tell.Deletes x).fields
  words_reworded Tell.Replaces x = refl
  words_reworded Tell.Adds x = refl
  words_reworded Tell.AllCards x = refl

  told_of_lem : (k : Tell) (c : Cards) → told_of k (reword_cards r c) ≡ reword_entries r (told_of k c)
  unfolding told_of
  told_of_lem k c = rising_those_map (reword_card r) (tells k) (tells k) (same_tells k) (reword_entry r) (words_of k) (words_of k) (words_reworded k) by_luid by_luid (λ x. refl) c.used c.places

  pub reports_reworded : (c : Cards) → reports (reword_cards r c) ≡ reword_entries r (reports c)
  reports_reworded c = told_of_lem Tell.Reports c

  pub commands_reworded : (m : Mode) (c : Cards) → commands m (reword_cards r c) ≡ reword_entries r (commands m c)
  unfolding commands
  commands_reworded Normal c =
      let rest = append_map (reword_entry r) (told_of Tell.Replaces c) (told_of Tell.Adds c) (told_of_lem Tell.Replaces c) (told_of_lem Tell.Adds c) in
      append_map (reword_entry r) (told_of Tell.Deletes c) (told_of Tell.Replaces c ++ told_of Tell.Adds c) (told_of_lem Tell.Deletes c) rest
  commands_reworded Recovery c = told_of_lem Tell.AllCards c

  -- ---- the statuses of Pkg 4
  ended_reworded : (x : Card) → ended (reword_card r x) ≡ map_slot (reword_card r) (ended x)
  ended_reworded x = cond_map (map_slot (reword_card r)) (is_live x.mark) (holds (cleaned x)) free

  end_reworded : (p : Entry × Entry) (c : Cards) → end_mark (reword_both r p) (reword_cards r c) ≡ reword_cards r (end_mark p c)
  unfolding end_mark
  end_reworded p c =
      let b = keeps_mark p.1.fields.code in
      ap (cond b (reword_cards r c)) (act_reworded r ended ended ended_reworded p.0.fields.luid c) ∙ cond_map (reword_cards r) b c _

  pub ends_reworded : (cs xs : List Entry) (c : Cards) → ends (reword_entries r cs) (reword_entries r xs) (reword_cards r c) ≡ reword_cards r (ends cs xs c)
  unfolding ends
  ends_reworded cs xs c =
      ap₂ (in_order end_mark) (answers_map (reword_entry r) (reword_entry r) cs xs) (without_reports_reworded r c)
      ∙ order_map (reword_both r) (reword_cards r) end_mark end_mark end_reworded (with_answers cs xs) (without_reports c)

  pub marks_end_reworded : (m : Mode) (cs xs : List Entry) (c : Cards) → marks_end m (reword_entries r cs) (reword_entries r xs) (reword_cards r c) ≡ reword_cards r (marks_end m cs xs c)
  unfolding marks_end
  marks_end_reworded Normal cs xs c = ends_reworded cs xs c
  marks_end_reworded Recovery cs xs c = ap without_delete_marks (ends_reworded cs xs c) ∙ without_marks_reworded r (ends cs xs c)

  -- ---- the server's commands
  same_for : (m : Name) (o : Entry) (c : Cards) → place_for m (reword_entry r o) (reword_cards r c) ≡ place_for m o c
  same_for Delete o c = same_card_lem r c o.fields.luid
  same_for Replace o c = same_card_lem r c o.fields.luid
  same_for Add o c = same_room r c

  -- a card put into a place, with new numbers
  abbrev put : Cards → ℕ → ℕ → ℕ → Card → Cards
  put c i l fp x = record { used = with_place c.used i; places = set c.places i x; luid = l; fp = fp; station = c.station }

  put_reworded : (c : Cards) (i l fp : ℕ) (x : Card) → put (reword_cards r c) i l fp (reword_card r x) ≡ reword_cards r (put c i l fp x)
  put_reworded c i l fp x = ap (λ (k : List Card). record { used = with_place c.used i; places = k; luid = l; fp = fp; station = c.station }) (set_map (reword_card r) c.places i x)

  replaced_reworded : (o : Entry) (c : Cards) (i : ℕ) → with_replaced (reword_entry r o) (reword_cards r c) i ≡ reword_cards r (with_replaced o c i)
  replaced_reworded o c i =
      ap (λ (x : Card). put (reword_cards r c) i c.luid (c.fp + 1) (taken_card no_guid x.luid (c.fp + 1) (r.reword o.wording))) (card_at_lem r c i)
      ∙ put_reworded c i c.luid (c.fp + 1) (taken_card no_guid (get_or c.places i no_card).luid (c.fp + 1) o.wording)

  after_by : (m : Name) (o : Entry) (c : Cards) (w : Option ℕ) → (command_at m (reword_entry r o) (reword_cards r c) w).0 ≡ reword_cards r (command_at m o c w).0
  after_by Delete o c None = refl
  after_by Delete o c (Some i) = refl
  after_by Replace o c None = refl
  after_by Replace o c (Some i) = ap (cond (no_fingerprint c) (reword_cards r c)) (replaced_reworded o c i) ∙ cond_map (reword_cards r) (no_fingerprint c) c (with_replaced o c i)
  after_by Add o c None = refl
  after_by Add o c (Some i) = put_reworded c i (c.luid + 1) (c.fp + 1) (taken_card o.fields.guid (luid (c.luid + 1)) (c.fp + 1) o.wording)

  answer_by : (m : Name) (ref : ℕ) (o : Entry) (c : Cards) (w : Option ℕ) → (command_at m (reword_entry r o) (reword_cards r c) w).1 ref ≡ reword_entry r ((command_at m o c w).1 ref)
  answer_by Delete ref o c None = unworded r (empty_status ref Delete 211).fields
  answer_by Delete ref o c (Some i) = unworded r (empty_status ref Delete 200).fields
  answer_by Replace ref o c None = unworded r (empty_status ref Replace 404).fields
  answer_by Replace ref o c (Some i) =
      ap₂ (cond (no_fingerprint c)) (unworded r (empty_status ref Replace 420).fields) (unworded r (replaced ref o.fields.luid (c.fp + 1)).fields)
      ∙ cond_map (reword_entry r) (no_fingerprint c) (empty_status ref Replace 420) (replaced ref o.fields.luid (c.fp + 1))
  answer_by Add ref o c None = unworded r (empty_status ref Add 420).fields
  answer_by Add ref o c (Some i) = unworded r (added ref o.fields.guid (luid (c.luid + 1)) (c.fp + 1)).fields

  pub after_command_reworded : (o : Entry) (c : Cards) → after_command (reword_entry r o) (reword_cards r c) ≡ reword_cards r (after_command o c)
  unfolding after_command
  after_command_reworded o c =
      let m = name_of o.fields.kind in
      ap (λ (w : Option ℕ). (command_at m (reword_entry r o) (reword_cards r c) w).0) (same_for m o c) ∙ after_by m o c (place_for m o c)

  pub answering_reworded : (ref : ℕ) (o : Entry) (c : Cards) → answering ref (reword_entry r o) (reword_cards r c) ≡ reword_entry r (answering ref o c)
  unfolding answering
  answering_reworded ref o c =
      let m = name_of o.fields.kind in
      ap (λ (w : Option ℕ). (command_at m (reword_entry r o) (reword_cards r c) w).1 ref) (same_for m o c) ∙ answer_by m ref o c (place_for m o c)
