-- Steps 4 and 5 of the server at Pkg 3: Replace or Add of a paired LUID, and of an unpaired one (01, "The six packages").
use Rattle.std.specs.Prelude.{Option, Some, None}
use Rattle.std.specs.Prelude.{ℕ, suc, ◌+◌, cond, List, [], ◌∷◌, ◌++◌, get_or}
use Rattle.terms.specs.declared.Guid.{Guid}
use Rattle.terms.specs.Number.{guid}
use Rattle.records.specs.declared.Mark.{Mark}
use Rattle.records.specs.declared.Mark.TheVariants.{Clean, Dirty, Offered, Deleted}
use Rattle.records.specs.declared.Record.{Record}
use Rattle.records.specs.declared.Records.{Records}
use Rattle.records.specs.declared.Rule.{Rule}
use Rattle.records.specs.declared.Rule.TheVariants.{PressWins, ServerWins}
use Rattle.records.specs.Server.{no_record}
use Rattle.lists.specs.declared.Entry.{Entry}
use Rattle.places.specs.Act.{holds, put_at, in_order, replies}
use Rattle.statuses.specs.Status.{name_of, empty_status}
use Rattle.listing.specs.declared.Listing.{Listing}
use Rattle.listing.specs.Listing.{items_of, holding}
use Rattle.record_moves.specs.Named.{Named}
use Rattle.record_moves.specs.Named.{table_of, with_record, place_of}
use Rattle.server_edits.specs.Edit.{room_for}
use Rattle.server_reports.specs.Step1.{is_late}

-- ---- step 4: of a paired LUID. The known fingerprint is raised, and the text taken or the server's kept; the station goes with the text (02, 5)
abbrev pub taking : Entry → Record → Record
taking c x = record { guid = x.guid; wording = c.wording; pairing = record { luid = x.pairing.luid; known = c.fields.fp; mark = Clean } }

-- (a record whose text is kept keeps its mark)
abbrev pub keeping : Entry → Record → Record
keeping c x = record { guid = x.guid; wording = x.wording; pairing = record { luid = x.pairing.luid; known = c.fields.fp; mark = x.pairing.mark } }

-- both sides have changed the card: the server's rule says whose text it has then, and the code (02, 7; server wins is 01's rule)
abbrev pub both_changed : Rule → (Entry → Record → Record) × ℕ
both_changed PressWins = (taking, 208)
both_changed ServerWins = (keeping, 419)

-- what becomes of the record, and the code of the Replace or Add
abbrev pub at_change : Rule → Mark → (Entry → Record → Record) × ℕ
at_change rule Clean = (taking, 200)
at_change rule Deleted = (taking, 208)
at_change rule Dirty = both_changed rule
at_change rule Offered = both_changed rule

abbrev pub newer : Rule → Mark → Entry → Record → Record
newer rule m c x = (at_change rule m).0 c x

abbrev pub newer_code : Rule → Mark → ℕ
newer_code rule m = (at_change rule m).1

-- a fingerprint not above the known one changes nothing, 200
unfoldable pub changed : Rule → Entry → Record → Record
changed rule c x = cond (is_late c x) x (newer rule x.pairing.mark c x)

abbrev pub changed_code : Rule → Entry → Record → ℕ
changed_code rule c x = cond (is_late c x) 200 (newer_code rule x.pairing.mark)

-- ---- step 5: of an unpaired LUID. A new record with the next GUID in the lowest free place, clean, paired, known the fingerprint given, text and station those of the command
abbrev pub made_as : Guid → Entry → Record
made_as g c = record { guid = g; wording = c.wording; pairing = record { luid = c.fields.luid; known = c.fields.fp; mark = Clean } }

abbrev pub made : Entry → Records → Record
made c s = made_as (guid (s.guid + 1)) c

abbrev pub with_made : Entry → Records → ℕ → Records
with_made c s i = let t = put_at (table_of s) i (holds (made c s)) in record { used = t.used; places = t.places; guid = s.guid + 1 }

-- what becomes of the records, and the code: there is no place where 32 are in use or GUIDs are spent (`room_for`)
abbrev pub at_room : Option ℕ → (Entry → Records → Records) × ℕ
at_room None = ((λ c s. s), 420)
at_room (Some i) = ((λ c s. with_made c s i), 200)

abbrev pub make_at : Entry → Records → Option ℕ → Records
make_at c s r = (at_room r).0 c s

abbrev pub make_code : Option ℕ → ℕ
make_code r = (at_room r).1

-- ---- a Replace or Add, by the place of its LUID
abbrev pub paired : Entry → Named
paired c = Named.ByLuid c.fields.luid

abbrev pub change_at : Rule → Entry → Records → Option ℕ → Records
change_at rule c s None = make_at c s (room_for s)
change_at rule c s (Some i) = with_record s i (changed rule c (get_or s.places i no_record))

unfoldable pub change : Rule → Entry → Records → Records
change rule c s = change_at rule c s (place_of s (paired c))

abbrev pub change_code_at : Rule → Entry → Records → Option ℕ → ℕ
change_code_at rule c s None = make_code (room_for s)
change_code_at rule c s (Some i) = changed_code rule c (get_or s.places i no_record)

unfoldable pub change_status : Rule → ℕ → Entry → Records → Entry
change_status rule ref c s = empty_status ref (name_of c.fields.kind) (change_code_at rule c s (place_of s (paired c)))

-- ---- the records after steps 4 and 5, and all statuses so far
pub record Changed : Type 0 where
  pub records : Records
  pub statuses : Listing

-- ---- one after the other: the records, and the statuses after those told before; the first has number ref
abbrev pub changed_by : Rule → Listing → ℕ → List Entry → Records → Changed
changed_by rule told ref cs s = record { records = in_order (change rule) cs s; statuses = holding (items_of told ++ replies (change_status rule) (change rule) ref cs s) told }

-- ---- the two steps apart, as 01 has them: first all commands of a paired LUID, then all of an unpaired one, each in order
-- (`change` takes the commands in one pass; that this is the same is shown in server_each, where no LUID stands twice)
abbrev pub change4_at : Rule → Entry → Records → Option ℕ → Records
change4_at rule c s None = s
change4_at rule c s (Some i) = change_at rule c s (Some i)

abbrev pub change5_at : Entry → Records → Option ℕ → Records
change5_at c s None = make_at c s (room_for s)
change5_at c s (Some i) = s

unfoldable pub change4 : Rule → Entry → Records → Records
change4 rule c s = change4_at rule c s (place_of s (paired c))

unfoldable pub change5 : Entry → Records → Records
change5 c s = change5_at c s (place_of s (paired c))

abbrev pub step4 : Rule → List Entry → Records → Records
step4 rule = in_order (change4 rule)

abbrev pub step5 : List Entry → Records → Records
step5 = in_order change5

-- the code of a command, where step 4 comes to it with the records s and step 5 with the records t
abbrev pub code_at : Rule → Entry → Records → Records → Option ℕ → ℕ
code_at rule c s t None = change_code_at rule c t None
code_at rule c s t (Some i) = change_code_at rule c s (Some i)

-- the statuses in the order of the commands
unfoldable pub statuses45 : Rule → ℕ → List Entry → Records → Records → List Entry
statuses45 rule ref [] s t = []
statuses45 rule ref (c ∷ cs) s t =
    empty_status ref (name_of c.fields.kind) (code_at rule c s t (place_of s (paired c)))
    ∷ statuses45 rule (suc ref) cs (change4 rule c s) (change5 c t)
