-- Every row of the bench table holds, on content. Assumes nothing.
use mathlib.Core.Bool.{Bool, true, ◌&&◌}
use mathlib.Core.Path.{◌≡◌, refl}
use mathlib.Core.List.{List, [], ◌∷◌}
use Rattle.text.specs.Text.{text_ok, all_ok}
use Rattle.places.proofs.Choice.{and_first, and_second}
use Rattle.places.specs.Set.{lowest_free, free_from, with_place, without_place}
use Rattle.places.specs.First.{first_from}
use Rattle.cards.specs.Press.{find_card}
use Rattle.records.specs.Server.{find_record}
use Rattle.places.specs.Act.{find, act, each_from, in_order, replies, all_pass, with_answers}
use Rattle.message.specs.declared.Content.{Content}
use Rattle.places.specs.Rising.{those, insert, rising}
use Rattle.places.proofs.Every.{Every}
use Rattle.statuses.specs.Code.{is_one_of}
use Rattle.statuses.specs.Status.{all_fit}
use Rattle.ranks.specs.Rank.{ranked, some_same, luids_once, only_replaces}
use Rattle.record_moves.specs.Named.{may_have}
use Rattle.server_reports.specs.Step1.{told, report, report_fits, all_or_none}
use Rattle.server_deletes.specs.Step2.{delete, delete_status, deletes_in, names_luid, left_out, step2}
use Rattle.server_forgets.specs.Step3.{step3}
use Rattle.server_changes.specs.Step4.{changed, change, change_status}
use Rattle.server_offers.specs.Offer.{offers_of, offers, commands as server_commands, offered}
use Rattle.server_answers.specs.Answer.{answer, answer_fits}
use Rattle.server_edits.specs.Edit.{server_add, server_edit, server_delete, room_for as serverRoom}
use Rattle.server_merge.specs.Merge.{merged, statuses_for}
use Rattle.server_judges.specs.Lawful.{lawful3}
use Rattle.server_rules.specs.Pkg1.{server_takes1}
use Rattle.server_rules.specs.Pkg3.{server_takes3}
use Rattle.server_rules.specs.Pkg5.{server_takes5, fits5}
use Rattle.card_moves.specs.Moves.{without_reports, without_delete_marks}
use Rattle.press_edits.specs.Edit.{press_add, press_edit, press_delete, room_for}
use Rattle.press_tells.specs.Tell.{told_of, commands}
use Rattle.press_ends.specs.End.{end_mark, ends, marks_end}
use Rattle.press_replies.specs.Reply.{answering}
use Rattle.press_takes.specs.Take.{after_command, taken_all}
use Rattle.press_judges.specs.Lawful.{lawful4}
use Rattle.press_rules.specs.Pkg1.{press_starts}
use Rattle.press_rules.specs.Pkg2.{press_takes2}
use Rattle.press_rules.specs.Pkg4.{press_takes4}
use Rattle.press_rules.specs.Pkg6.{press_takes6}
use Rattle.course.specs.Course.{fresh_world, tries, goes}
use Rattle.course.specs.OnContent.{on_content}
use Rattle.bench_table.specs.Tables.{press_station}
use Rattle.bench_table.specs.Rows.{Row, Seen, seen, said_by, Holds, added_from, dirty_from, rows}
use Rattle.bench_table.proofs.Same.{Same, number, both, list, by, test_list}
use Rattle.bench_table.proofs.SameSides.{same_press, same_server, same_content}

-- ---- a row as a test that computes
same_seen : Same (Seen Content)
same_seen =
    by (λ x. (x.answers, (x.press, (x.server, x.written)))) (λ y. record { answers = y.0; press = y.1.0; server = y.1.1.0; written = y.1.1.1 })
    (λ x. refl)
    (both (list number) (both same_press (both same_server (list same_content))))

passes : Row → Bool
passes r = same_seen.test (seen (goes on_content r.course (fresh_world press_station))) (said_by on_content r)

all_passing : List Row → Bool
all_passing [] = true
all_passing (r ∷ rs) = passes r && all_passing rs

all_hold : (rs : List Row) → all_passing rs ≡ true → Every (Holds on_content) rs
unfolding all_passing passes
all_hold [] e = tt
all_hold (r ∷ rs) e =
    (same_seen.law (seen (goes on_content r.course (fresh_world press_station))) (said_by on_content r) (and_first (passes r) (all_passing rs) e), all_hold rs (and_second (passes r) (all_passing rs) e))

-- ---- every row of the table holds
pub table : Every (Holds on_content) rows
unfolding added_from dirty_from same_seen passes all_passing tries goes press_add press_edit press_delete room_for serverRoom server_add server_edit server_delete text_ok all_ok lowest_free free_from with_place without_place first_from find_card find_record find act each_from in_order replies all_pass with_answers those insert rising is_one_of all_fit ranked some_same luids_once only_replaces may_have told report report_fits all_or_none delete delete_status deletes_in names_luid left_out step2 step3 changed change change_status offers_of offers server_commands offered answer answer_fits merged statuses_for lawful3 server_takes1 server_takes3 server_takes5 fits5 without_reports without_delete_marks told_of commands end_mark ends marks_end answering after_command taken_all lawful4 press_starts press_takes2 press_takes4 press_takes6 test_list
table = all_hold rows refl
