-- Edits by people at the server (01, "Edits by people, between sessions"; refusals 1, 3, 4, 2 as far as each applies).
use Rattle.std.specs.Prelude.{Option, Some, None}
use Rattle.std.specs.Prelude.{ℕ, ◌+◌, cond, not, List, get_or, set, leb}
use Rattle.text.specs.declared.Wording.{Wording}
use Rattle.text.specs.Text.{text_ok}
use Rattle.text.specs.Wording.{server_station, signed_by}
use Rattle.places.specs.Set.{lowest_free, with_place}
use Rattle.terms.specs.Check.{checked, or_refuse}
use Rattle.terms.specs.declared.Guid.{Guid}
use Rattle.terms.specs.Number.{guid}
use Rattle.records.specs.declared.Mark.{Mark}
use Rattle.records.specs.declared.Mark.TheVariants.{Dirty, Deleted}
use Rattle.records.specs.declared.Pairing.{Pairing}
use Rattle.records.specs.declared.Record.{Record}
use Rattle.records.specs.declared.Records.{Records}
use Rattle.records.specs.declared.Server.{Server}
use Rattle.server_edits.specs.Edited.{Edited, Done, Refused}
use Rattle.records.specs.Server.{unpaired, no_record, is_open, find_record}

-- ---- refused with a number, and the server as it was
abbrev pub refusal : ℕ → Server → Edited
refusal n p = record { outcome = Refused n; server = p }

-- done, with the table c in the server
abbrev pub done : Server → Guid → Records → Edited
done p g c = record { outcome = Done g; server = record { records = c; link = p.link; rule = p.rule } }

-- ---- add: a new record with the next GUID, unpaired and dirty, in the lowest free place; its station is the server's (02, 5)
abbrev pub new_record : Records → List ℕ → Record
new_record c s = record { guid = guid (c.guid + 1); wording = signed_by server_station s; pairing = unpaired Dirty }

abbrev pub with_new : Records → ℕ → List ℕ → Records
with_new c i s = record { used = with_place c.used i; places = set c.places i (new_record c s); guid = c.guid + 1 }

-- the lowest free place, where a GUID is left
unfoldable pub room_for : Records → Option ℕ
room_for c = cond (leb 65535 c.guid) None (lowest_free c.used)

abbrev pub add_if_room : Server → List ℕ → Option ℕ → Edited
add_if_room p s None = refusal 2 p
add_if_room p s (Some i) = done p (guid (p.records.guid + 1)) (with_new p.records i s)

-- 1 while the server is open, 4 by the text rule, 2 where place or number is spent
unfoldable pub server_add : Server → List ℕ → Edited
server_add p s = or_refuse (checked (not (is_open p.link.awaits))) (refusal 1 p) (or_refuse (checked (text_ok s)) (refusal 4 p) (add_if_room p s (room_for p.records)))

-- ---- edit: new text, signed by the server's people, dirty. delete: mark deleted, paired or not
abbrev pub marked_as : Pairing → Mark → Pairing
marked_as x m = record { luid = x.luid; known = x.known; mark = m }

abbrev pub changed_to : Record → Wording → Mark → Record
changed_to x w m = record { guid = x.guid; wording = w; pairing = marked_as x.pairing m }

abbrev pub set_record : Records → ℕ → Record → Records
set_record c i x = record { used = c.used; places = set c.places i x; guid = c.guid }

abbrev pub record_at : Records → ℕ → Record
record_at c i = get_or c.places i no_record

abbrev pub with_edit : Records → ℕ → List ℕ → Records
with_edit c i s = set_record c i (changed_to (record_at c i) (signed_by server_station s) Dirty)

abbrev pub with_delete : Records → ℕ → Records
with_delete c i = set_record c i (changed_to (record_at c i) (record_at c i).wording Deleted)

abbrev pub edit_if_found : Server → Guid → List ℕ → Option ℕ → Edited
edit_if_found p g s None = refusal 3 p
edit_if_found p g s (Some i) = or_refuse (checked (text_ok s)) (refusal 4 p) (done p g (with_edit p.records i s))

-- 1 while the server is open, 3 where there is no such record, 4 by the text rule
unfoldable pub server_edit : Server → Guid → List ℕ → Edited
server_edit p g s = or_refuse (checked (not (is_open p.link.awaits))) (refusal 1 p) (edit_if_found p g s (find_record p.records g))

abbrev pub delete_if_found : Server → Guid → Option ℕ → Edited
delete_if_found p g None = refusal 3 p
delete_if_found p g (Some i) = done p g (with_delete p.records i)

-- 1 while the server is open, 3 where there is no such record
unfoldable pub server_delete : Server → Guid → Edited
server_delete p g = or_refuse (checked (not (is_open p.link.awaits))) (refusal 1 p) (delete_if_found p g (find_record p.records g))
