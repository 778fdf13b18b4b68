-- Each step of the server at Pkg 3 and Pkg 5 keeps the records' numbers in range, if those of the package have their ranges. Assumes nothing.
use Rattle.std.proofs.Common.{ℕ}
use Rattle.std.proofs.Common.{Option, Some, None}
use mathlib.Core.Path.{◌≡◌, refl}
use mathlib.Core.Bool.{Bool, true, false, cond}
use mathlib.Core.List.{List}
use native.Mathlib.Omega.{arith}
use lib.ListN.{get_or}
use Rattle.terms.specs.declared.Mode.{Mode}
use Rattle.terms.specs.declared.Mode.TheVariants.{Normal, Recovery}
use Rattle.records.specs.declared.Record.{Record}
use Rattle.records.specs.declared.Records.{Records}
use Rattle.records.specs.declared.Rule.{Rule}
use Rattle.records.specs.Server.{no_record}
use Rattle.lists.specs.declared.Entry.{Entry}
use Rattle.statuses.specs.Status.{name_of}
use Rattle.places.specs.Act.{holds, in_order, all_pass, with_answers}
use Rattle.places.proofs.Every.{Every, every_drop}
use Rattle.places.proofs.KeptLaws.{find_hit, order_keeps}
use Rattle.record_moves.specs.Named.{table_of, is_named, place_of}
use Rattle.places.proofs.OrderLaws.{order_each, answers_known}
use Rattle.server_edits.specs.Edit.{room_for}
use Rattle.server_edits.proofs.RoomLaws.{room_at}
use Rattle.server_reports.specs.Step1.{named_by, told, report, report_fits, all_or_none, reported}
use Rattle.server_deletes.specs.Step2.{lost, deleted, delete, deletes_in, deletes_of, left_out, step2}
use Rattle.server_changes.specs.Step4.{changed, made, make_at, paired, change_at, change}
use Rattle.server_merge.specs.Merge.{changes_of, up_to3, merged}
use Rattle.server_offers.specs.Offer.{dirty_here, offered_now, offered}
use Rattle.server_answers.specs.Answer.{answered_by, offered_in, answer, answer_fits, answered}
use Rattle.server_sends.specs.InRange.{RecordInRange}
use Rattle.server_sends.proofs.AllLaws.{All, Kept, all_act, all_each, all_put, all_new}
use Rattle.server_sends.proofs.RecordLaws.{EntryInRange, told_kept, lost_kept, changed_kept, offered_kept, answered_kept}
use Rattle.server_sends.proofs.ForgottenLaws.{Remembered, all_remembered, changed_remembered}

-- each record is in range
abbrev pub Ranged : Records → Type 0
Ranged = All RecordInRange

-- and each deleted record has a LUID, which the Delete of Pkg 4 names
abbrev ReadyRecord : Record → Type 0
ReadyRecord x = RecordInRange x × Remembered x

abbrev pub Ready : Records → Type 0
Ready = All ReadyRecord

-- ---- taken one after the other, or not at all
none_or_all : {A : Type 0} (fits : A → Records → Bool) (take : A → Records → Records) (Q : A → Type 0) → ((x : A) (s : Records) → Q x → Ranged s → Ranged (take x s))
    → (xs : List A) (s : Records) → Every Q xs → Ranged s → Ranged (all_or_none fits take xs s).records
unfolding all_or_none
none_or_all fits take Q k xs s q h = go (all_pass fits take xs s)
  where
    go : (b : Bool) → Ranged (cond b (in_order take xs s) s)
    go false = h
    go true = order_each take Q Ranged k xs s q h

-- ---- step 1
report_ranged : (r : Entry) (s : Records) → EntryInRange r → Ranged s → Ranged (report r s)
unfolding report
report_ranged r s e h = all_act RecordInRange s h (is_named (named_by r)) (λ x. holds (told r x)) (told_kept r e)

pub reported_ranged : (rs : List Entry) (s : Records) → Every EntryInRange rs → Ranged s → Ranged (reported rs s).records
reported_ranged = none_or_all report_fits report EntryInRange report_ranged

-- ---- step 2
delete_ranged : (c : Entry) (s : Records) → Ranged s → Ranged (delete c s)
unfolding delete
delete_ranged c s h = all_act RecordInRange s h (is_named (deleted c)) lost (λ x. lost_kept x.pairing.mark x)

step2_ranged : (m : Mode) (cs : List Entry) (s : Records) → Ranged s → Ranged (step2 m cs s)
unfolding step2
step2_ranged Normal cs s h = order_keeps delete Ranged delete_ranged (deletes_of cs) s h
step2_ranged Recovery cs s h = all_each RecordInRange s h (left_out cs) lost (λ x. lost_kept x.pairing.mark x)

-- ---- steps 4 and 5
ready_kept : (rule : Rule) (c : Entry) → EntryInRange c → (x : Record) → Kept ReadyRecord x (holds (changed rule c x))
ready_kept rule c e x = let k = changed_kept rule c e x in record { same = k.same; holds = λ p. (k.holds p.0, changed_remembered rule c x p.1) }

change_ready : (rule : Rule) (c : Entry) (s : Records) → EntryInRange c → Ready s → Ready (change rule c s)
unfolding change
change_ready rule c s e h = go (place_of s (paired c)) refl
  where
    make : (f : Option ℕ) → room_for s ≡ f → Ready (make_at c s f)
    make None q = h
    make (Some i) q = all_new ReadyRecord s h i (room_at s i q) (made c s) refl (e, refl)

    go : (f : Option ℕ) → place_of s (paired c) ≡ f → Ready (change_at rule c s f)
    go None q = make (room_for s) refl
    go (Some i) q =
        let w = find_hit no_record (is_named (paired c)) (table_of s) i q in
        let x = get_or s.places i no_record in
        all_put ReadyRecord s h i (omega (arith, w.inside, h.fine.sound.long)) w.used (holds (changed rule c x)) (ready_kept rule c e x)

-- ---- steps 2 to 5
pub merged_ready : (rule : Rule) (m : Mode) (cs : List Entry) (s : Records) → Every EntryInRange cs → Ranged s → Ready (merged rule m cs s)
unfolding merged
merged_ready rule m cs s e h =
    order_each (change rule) EntryInRange Ready (change_ready rule) (changes_of cs) (up_to3 m cs s) (every_drop EntryInRange (deletes_in cs) cs e)
    (all_remembered RecordInRange (step2 m cs s) (step2_ranged m cs s h))

pub ready_ranged : (s : Records) → Ready s → Ranged s
ready_ranged s h = record { fine = record { sound = h.fine.sound; each = λ i u. (h.fine.each i u).0 }; guids = h.guids }

-- ---- Pkg 4: all dirty become offered
pub offered_ranged : (s : Records) → Ranged s → Ranged (offered s)
unfolding offered
offered_ranged s h = all_each RecordInRange s h dirty_here (λ x. holds (offered_now x)) offered_kept

-- ---- Pkg 5
answer_ranged : (p : Entry × Entry) (s : Records) → EntryInRange p.1 → Ranged s → Ranged (answer p s)
unfolding answer
answer_ranged p s e h =
    let m = name_of p.0.fields.kind in
    all_act RecordInRange s h (is_named (offered_in p.0)) (answered_by m p.1) (answered_kept m p.1 e)

pub answered_ranged : (os xs : List Entry) (s : Records) → Every EntryInRange xs → Ranged s → Ranged (answered os xs s).records
answered_ranged os xs s e h = none_or_all answer_fits answer (λ p. EntryInRange p.1) answer_ranged (with_answers os xs) s (answers_known EntryInRange os xs e) h
