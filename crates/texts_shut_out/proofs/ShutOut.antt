-- Sides that look at texts do not meet request 10, and none is opaque: one table, and one computed test over it. Assumes nothing.
use Prim.Native.Nat.{ℕ, ◌+◌}
use mathlib.Core.Path.{◌≡◌, refl}
use mathlib.Core.Bool.{Bool, true, ◌&&◌}
use mathlib.Core.List.{List, [], ◌∷◌, map}
use native.Mathlib.Omega.{arith}
use Rattle.places.specs.Set.{lowest_free, free_from, with_place, without_place}
use Rattle.places.specs.First.{first_from}
use Rattle.places.proofs.Choice.{and_first, and_second}
use Rattle.places.specs.Act.{find, act, each_from, in_order, replies, all_pass, with_answers}
use Rattle.places.specs.Rising.{those, insert, rising}
use Rattle.places.proofs.Every.{Every, every}
use Rattle.text.specs.Text.{text_ok, all_ok}
use Rattle.lists.specs.declared.Entry.{Entry}
use Rattle.message.specs.declared.Content.{Content}
use Rattle.cards.specs.Press.{find_card}
use Rattle.records.specs.Server.{find_record}
use Rattle.press_edits.specs.Edit.{press_add, press_edit, room_for as pressRoom}
use Rattle.server_edits.specs.Edit.{server_add, server_edit, room_for as serverRoom}
use Rattle.statuses.specs.Code.{is_one_of}
use Rattle.statuses.specs.Status.{all_fit}
use Rattle.ranks.specs.Rank.{ranked, some_same, luids_once, only_replaces}
use Rattle.record_moves.specs.Named.{may_have}
use Rattle.card_moves.specs.Moves.{without_reports, without_delete_marks}
use Rattle.server_reports.specs.Step1.{told, report, report_fits, all_or_none}
use Rattle.server_deletes.specs.Step2.{delete, delete_status, deletes_in, names_luid, left_out, step2}
use Rattle.server_forgets.specs.Step3.{step3}
use Rattle.server_changes.specs.Step4.{changed, change, change_status}
use Rattle.server_merge.specs.Merge.{merged, statuses_for}
use Rattle.server_offers.specs.Offer.{offers_of, offers, commands as server_commands, offered}
use Rattle.server_answers.specs.Answer.{answer, answer_fits}
use Rattle.server_judges.specs.Lawful.{lawful3}
use Rattle.server_rules.specs.Pkg1.{server_takes1}
use Rattle.server_rules.specs.Pkg3.{server_takes3}
use Rattle.server_rules.specs.Pkg5.{server_takes5, fits5}
use Rattle.press_tells.specs.Tell.{told_of, commands}
use Rattle.press_ends.specs.End.{end_mark, ends, marks_end}
use Rattle.press_replies.specs.Reply.{answering}
use Rattle.press_takes.specs.Take.{after_command, taken_all}
use Rattle.press_judges.specs.Lawful.{lawful4}
use Rattle.press_rules.specs.Pkg1.{press_starts}
use Rattle.press_rules.specs.Pkg2.{press_takes2}
use Rattle.press_rules.specs.Pkg4.{press_takes4}
use Rattle.press_rules.specs.Pkg6.{press_takes6}
use Rattle.course.specs.Course.{Sides, Turn, Doing, tries, fresh_world}
use Rattle.reworded.specs.Reworded.{reword_content}
use Rattle.shut_out.specs.Shortcuts.{same_bytes}
use Rattle.shut_out.proofs.Tests.{none_of, none_inside, apart, apart_law}
use Rattle.texts.specs.Opaque.{Opaque}
use Rattle.texts.specs.Texts.{textless_step, points, textless, reword_turn, TextsDecideNothing}
use Rattle.texts.proofs.OnContent.{opaque_texts}
use Rattle.texts_shut_out.specs.LooksAtTexts.{Wrong, wrong_sides}
use Rattle.texts_shut_out.proofs.Tests.{unlawful, lawful_law}

-- ---- refusals, GUIDs given and codes of all points, as one number
codes : List Entry → ℕ
codes [] = 0
codes (e ∷ es) = e.fields.code + codes es

codes_in : List Content → ℕ
codes_in [] = 0
codes_in (x ∷ xs) = codes x.answers + codes_in xs

tally : List (Turn Content) → ℕ
tally [] = 0
tally (t ∷ ts) = t.refusal + t.world.server.records.guid + codes_in t.world.written + tally ts

-- ---- the points of a course from fresh, without texts; both courses of a wrong side are lawful, and do not go the same way
abbrev seen : Sides Content → List Doing → List (Turn Content)
seen s ds = map (reword_turn textless (reword_content textless)) (points s ds (fresh_world 1))

abbrev shows : Wrong → Bool
shows w = none_inside unlawful w.one && (none_inside unlawful w.other && apart tally (seen w.sides w.one) (seen w.sides w.other))

all_show : List Wrong → Bool
all_show [] = true
all_show (w ∷ ws) = shows w && all_show ws

computed : all_show wrong_sides ≡ true
unfolding all_show tally codes_in codes points tries none_of none_inside press_add press_edit pressRoom serverRoom server_add server_edit text_ok all_ok lowest_free free_from with_place without_place first_from find_card find_record find act each_from in_order replies all_pass with_answers those insert rising is_one_of all_fit ranked some_same luids_once only_replaces may_have told report report_fits all_or_none delete delete_status deletes_in names_luid left_out step2 step3 changed change change_status offers_of offers server_commands offered answer answer_fits merged statuses_for lawful3 server_takes1 server_takes3 server_takes5 fits5 without_reports without_delete_marks told_of commands end_mark ends marks_end answering after_command taken_all lawful4 press_starts press_takes2 press_takes4 press_takes6 same_bytes
computed = refl

-- ---- without texts they are one
abbrev OneCourse : Wrong → Type 0
OneCourse w = map (map textless_step) w.one ≡ map (map textless_step) w.other

one_course : Every OneCourse wrong_sides
one_course = (refl, (refl, (refl, (refl, (refl, (refl, tt))))))

abbrev ShutOut : Wrong → Type 0
ShutOut w = TextsDecideNothing w.sides (reword_content textless) → ⊥

one_law : (w : Wrong) → shows w ≡ true → OneCourse w → ShutOut w
one_law w e c d =
    let a = seen w.sides w.one in
    let b = seen w.sides w.other in
    let rest = and_second (none_inside unlawful w.one) (none_inside unlawful w.other && apart tally a b) e in
    let first = lawful_law w.one (and_first (none_inside unlawful w.one) (none_inside unlawful w.other && apart tally a b) e) in
    let second = lawful_law w.other (and_first (none_inside unlawful w.other) (apart tally a b) rest) in
    apart_law tally a b (and_second (none_inside unlawful w.other) (apart tally a b) rest) (d 1 (omega arith) w.one w.other (record { same = c; lawful = (first, second) }))

all_law : (ws : List Wrong) → all_show ws ≡ true → Every OneCourse ws → Every ShutOut ws
unfolding all_show
all_law [] e c = tt
all_law (w ∷ ws) e c = (one_law w (and_first (shows w) (all_show ws) e) c.0, all_law ws (and_second (shows w) (all_show ws) e) c.1)

pub shut_out : Every ShutOut wrong_sides
shut_out = all_law wrong_sides computed one_course

-- so each has a rule that some change of wordings shows
pub none_opaque : Every (λ w. Opaque w.sides → ⊥) wrong_sides
none_opaque = every ShutOut (λ w. Opaque w.sides → ⊥) (λ w out o. out (opaque_texts w.sides o)) wrong_sides shut_out
