-- The server at Pkg 5: the answers to its commands (01, "The six packages"; row 8 of "Refusal numbers" as far as it speaks of Pkg 5 answers).
use Rattle.std.specs.Prelude.{ℕ}
use Rattle.std.specs.Prelude.{Option, Some, None}
use Rattle.std.specs.Prelude.{Bool, true, false, cond, ◌&&◌, List, eqb, ltb, get_or}
use Rattle.records.specs.declared.Mark.{Mark}
use Rattle.records.specs.declared.Record.{Record}
use Rattle.records.specs.declared.Records.{Records}
use Rattle.records.specs.Server.{no_record}
use Rattle.lists.specs.declared.Entry.{Entry}
use Rattle.places.specs.Act.{Slot, free, holds, act, with_answers}
use Rattle.statuses.specs.declared.Name.{Name}
use Rattle.statuses.specs.declared.Name.TheVariants.{Delete, Replace, Add}
use Rattle.statuses.specs.Status.{name_of}
use Rattle.record_moves.specs.Named.{Named}
use Rattle.record_moves.specs.Named.{table_of, with_table, is_named, place_of, may_have}
use Rattle.server_reports.specs.Step1.{InTurn}
use Rattle.server_reports.specs.Step1.{all_or_none}

-- ---- an offer with its answer. Delete 200 or 211 removes; Replace or Add 200 records LUID and fingerprint, clean; 404 or 420 makes the record dirty; its text and station stay (02, 5)
abbrev pub recorded : Entry → Record → Record
recorded a x = record { guid = x.guid; wording = x.wording; pairing = record { luid = a.fields.luid; known = a.fields.fp; mark = Mark.Clean } }

abbrev pub dirty_again : Record → Record
dirty_again x = record { guid = x.guid; wording = x.wording; pairing = record { luid = x.pairing.luid; known = x.pairing.known; mark = Mark.Dirty } }

-- (the code is one that is named for its place)
abbrev pub answered_by : Name → Entry → Record → Slot Record
answered_by Delete a x = free
answered_by Replace a x = holds (cond (eqb a.fields.code 200) (recorded a x) (dirty_again x))
answered_by Add a x = holds (cond (eqb a.fields.code 200) (recorded a x) (dirty_again x))

-- the record that was offered
abbrev pub offered_in : Entry → Named
offered_in o = Named.ByGuid o.fields.guid

unfoldable pub answer : Entry × Entry → Records → Records
answer p s = with_table s (act no_record (is_named (offered_in p.0)) (answered_by (name_of p.0.fields.kind) p.1) (table_of s))

-- ---- 8: an answer that gives a LUID bound elsewhere, gives a paired record another LUID, or has a fingerprint not above the known one
abbrev pub gives : Name → Entry → Bool
gives Delete a = false
gives Replace a = eqb a.fields.code 200
gives Add a = eqb a.fields.code 200

abbrev pub given_at : Entry → Records → Option ℕ → Bool
given_at a s None = true
given_at a s (Some i) = ltb (get_or s.places i no_record).pairing.known a.fields.fp && may_have a.fields.luid (get_or s.places i no_record) s

unfoldable pub answer_fits : Entry × Entry → Records → Bool
answer_fits p s = cond (gives (name_of p.0.fields.kind) p.1) (given_at p.1 s (place_of s (offered_in p.0))) true

-- ---- taken one after the other; where one does not fit, nothing is taken
abbrev pub answered : List Entry → List Entry → Records → InTurn
answered os xs s = all_or_none answer_fits answer (with_answers os xs) s
