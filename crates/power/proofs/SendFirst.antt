-- The other order is shut out, by courses computed on the rules: an answer that was sent, and an edit that a person was told of, are not in the store after a cut. Assumes nothing.
use Rattle.std.proofs.Common.{Option, None, Some}
use Prim.Native.Nat.{ℕ}
use mathlib.Core.Path.{◌≡◌, refl, sym, ap, ◌∙◌}
use mathlib.Core.Bool.{true}
use mathlib.Core.List.{List, [], ◌∷◌}
use native.Mathlib.Omega.{arith}
use lib.ListN.{length, drop}
use Rattle.places.specs.Set.{lowest_free, free_from, with_place, without_place}
use Rattle.places.specs.First.{first_from}
use Rattle.places.specs.Act.{find, act, each_from, in_order, replies, all_pass, with_answers}
use Rattle.places.specs.Rising.{those, insert, rising}
use Rattle.token.specs.Text.{bytes}
use Rattle.text.specs.declared.Wording.{Wording}
use Rattle.text.specs.Text.{text_ok, all_ok}
use Rattle.text.specs.Wording.{server_station}
use Rattle.terms.specs.Number.{luid, guid}
use Rattle.message.specs.declared.Content.{Content}
use Rattle.cards.specs.Press.{find_card, card_of, no_report}
use Rattle.cards.specs.declared.Mark as card
use Rattle.records.specs.Server.{find_record, record_of}
use Rattle.records.specs.declared.Mark as rec
use Rattle.statuses.specs.Code.{is_one_of}
use Rattle.statuses.specs.Status.{all_fit}
use Rattle.ranks.specs.Rank.{ranked, some_same, luids_once, only_replaces}
use Rattle.record_moves.specs.Named.{may_have}
use Rattle.card_moves.specs.Moves.{without_reports, without_delete_marks}
use Rattle.server_reports.specs.Step1.{told, report, report_fits, all_or_none}
use Rattle.server_deletes.specs.Step2.{delete, delete_status, deletes_in, names_luid, left_out, step2}
use Rattle.server_forgets.specs.Step3.{step3}
use Rattle.server_changes.specs.Step4.{changed, change, change_status}
use Rattle.server_merge.specs.Merge.{merged, statuses_for}
use Rattle.server_offers.specs.Offer.{offers_of, offers, commands as server_commands, offered}
use Rattle.server_answers.specs.Answer.{answer, answer_fits}
use Rattle.server_judges.specs.Lawful.{lawful3}
use Rattle.server_rules.specs.Pkg1.{server_takes1}
use Rattle.server_rules.specs.Pkg3.{server_takes3}
use Rattle.server_rules.specs.Pkg5.{server_takes5, fits5}
use Rattle.press_edits.specs.Edit.{press_add, room_for as pressRoom}
use Rattle.server_edits.specs.Edit.{server_add, server_edit, room_for as serverRoom}
use Rattle.press_tells.specs.Tell.{told_of, commands}
use Rattle.press_ends.specs.End.{end_mark, ends, marks_end}
use Rattle.press_replies.specs.Reply.{answering}
use Rattle.press_takes.specs.Take.{after_command, taken_all}
use Rattle.press_judges.specs.Lawful.{lawful4}
use Rattle.press_rules.specs.Pkg1.{press_starts}
use Rattle.press_rules.specs.Pkg2.{press_takes2}
use Rattle.press_rules.specs.Pkg4.{press_takes4}
use Rattle.press_rules.specs.Pkg6.{press_takes6}
use Rattle.course.specs.Course.{Sides, World, fresh_world, Turn, press_adds, server_adds, server_edits, start, step, lose, press_give_up, server_give_up, alone, does, handings, tries}
use Rattle.course.specs.OnContent.{on_content}
use Rattle.bench_table.specs.Tables.{press_station, by_press, by_server, card_with, record_with}
use Rattle.demand3.specs.Demand3.{both_closed, PressClosed, ServerClosed, wording_in, card_wording, pair_in, InStep, any_room_refused, room_refused, at_once}
use Rattle.shut_out.specs.Faults.{brown}
use Rattle.shut_out.proofs.Tests.{none_of, none_law, apart_law, of_card}
use Rattle.power.specs.Power.{tell_first, boots, the_press, cut_in}
use Rattle.power.specs.WithCuts.{Event, goes_on, cut_after, happen, ReachedWithCuts, ToldStands, Demand3WithCuts}

abbrev beige : List ℕ
beige = bytes "Beige"

-- ---- short courses in which an answer is sent, and the power cut before the store; everything else goes well
-- Pkg 1 is out; the server takes it, and nothing more comes
abbrev pub same_number : List Event
same_number = cut_after 1 start ∷ goes_on (step ∷ lose ∷ server_give_up ∷ []) ∷ []

-- the press adds Brown, and the server's Pkg 4 is out; the press takes it, and nothing more comes
abbrev pub one_sided : List Event
one_sided = goes_on (alone (press_adds brown)) ∷ goes_on (start ∷ handings 2) ∷ cut_after 1 step ∷ goes_on (step ∷ lose ∷ press_give_up ∷ []) ∷ []

-- the server adds Brown, and the press's Pkg 5 is out
abbrev pub sent5 : List Event → List Event
sent5 es = goes_on (alone (server_adds brown)) ∷ goes_on (start ∷ handings 3) ∷ cut_after 1 step ∷ es

-- a person adds Beige at the press, which gets the number that was given away; the server takes Pkg 5
abbrev pub swapped : List Event
swapped = sent5 (goes_on (alone (press_adds beige)) ∷ goes_on (alone step) ∷ [])

-- the server takes Pkg 5, and then Brown is edited there
abbrev pub unknown_card : List Event
unknown_card = sent5 (goes_on (alone step) ∷ goes_on (alone (server_edits (guid 1) brown)) ∷ [])

-- ---- what a session after each of them comes to
pub point : List Event → World Content
point es = happen on_content tell_first es (fresh_world press_station)

abbrev pub after : List Event → Turn Content
after es = at_once on_content room_refused (point es)

-- card 1 and its record are clean, a pair, and say two things
pub record TwoTexts (w : World Content) : Type 0 where
  pub at_press : card_of w.press.cards (luid 1) ≡ Some (card_with card.Mark.Clean (luid 1) 1 no_report (by_press beige))
  pub at_server : record_of w.server.records (guid 1) ≡ Some (record_with rec.Mark.Clean (guid 1) (luid 1) 1 (by_server brown))

pub record GoesWrong : Type 0 where
  pub refused_6 : (after same_number).refusal ≡ 6
  -- the press's card is clean, and the server has none
  pub only_at_press : card_of (after one_sided).world.press.cards (luid 1) ≡ Some (card_with card.Mark.Clean (luid 1) 1 no_report (by_press brown))
  pub not_at_server : (after one_sided).world.server.records.used ≡ 0
  pub refused_8 : (after unknown_card).refusal ≡ 8
  -- with no session open and no 420; after one more session too
  pub press_closed : PressClosed (point swapped)
  pub server_closed : ServerClosed (point swapped)
  pub through : (after swapped).refusal ≡ 0
  pub room : none_of room_refused (drop (length (point swapped).written) (after swapped).world.written) ≡ true
  pub two_texts : TwoTexts (after swapped).world
  pub stay_so : TwoTexts (at_once on_content room_refused (after swapped).world).world

pub goes_wrong : GoesWrong
unfolding point happen tries press_add pressRoom serverRoom server_add server_edit text_ok all_ok lowest_free free_from with_place without_place first_from find_card find_record find act each_from in_order replies all_pass with_answers those insert rising is_one_of all_fit ranked some_same luids_once only_replaces may_have told report report_fits all_or_none delete delete_status deletes_in names_luid left_out step2 step3 changed change change_status offers_of offers server_commands offered answer answer_fits merged statuses_for lawful3 server_takes1 server_takes3 server_takes5 fits5 without_reports without_delete_marks told_of commands end_mark ends marks_end answering after_command taken_all lawful4 press_starts press_takes2 press_takes4 press_takes6 any_room_refused none_of
goes_wrong =
    record {
      refused_6 = refl;
      only_at_press = refl;
      not_at_server = refl;
      refused_8 = refl;
      press_closed = refl;
      server_closed = refl;
      through = refl;
      room = refl;
      two_texts = record { at_press = refl; at_server = refl };
      stay_so = record { at_press = refl; at_server = refl };
    }

-- ---- so the order is shut out: after `swapped` the two sides are not in step
station_in : Option Wording → ℕ
station_in None = server_station
station_in (Some w) = w.station

pub not_in_step : InStep (after swapped).world → ⊥
unfolding station_in
not_in_step h =
    let there = h.from_server_lem (guid 1) (by_server brown) (luid 1) (ap pair_in goes_wrong.two_texts.at_server) in
    apart_law station_in (Some (by_press beige)) (Some (by_server brown)) refl (sym (ap wording_in goes_wrong.two_texts.at_press) ∙ there)

reached : ReachedWithCuts on_content tell_first (point swapped)
unfolding point
reached =
    record {
      station = press_station;
      numbered = omega arith;
      events = swapped;
      ours = ((refl, tt), ((refl, (refl, (refl, (refl, tt)))), ((refl, tt), ((refl, tt), ((refl, tt), tt)))));
      there = refl;
    }

pub tell_first_shut_out : Demand3WithCuts on_content tell_first room_refused → ⊥
unfolding happen
tell_first_shut_out d =
    let none-refused = none_law room_refused (drop (length (point swapped).written) (after swapped).world.written) goes_wrong.room in
    not_in_step (d.in_step (point swapped) reached (both_closed goes_wrong.press_closed goes_wrong.server_closed) [] tt goes_wrong.through goes_wrong.through none-refused).0

-- ---- a person told before the store: of card 1, which nobody has after the cut; whatever the two sides do with messages
pub told_lost : {M : Type 0} (s : Sides M) → ToldStands s tell_first → ⊥
unfolding press_add pressRoom text_ok all_ok lowest_free free_from with_place first_from find_card
told_lost {M} s h =
    let x = press_adds brown in
    let w : World M = fresh_world press_station in
    let whole = (does s x w).world in
    apart_law (λ (v : World M). of_card (card_wording v.press (luid 1))) (cut_in s tell_first 1 x w) (boots the_press whole) refl (h x w 1 refl refl)
