-- The server's commands in Pkg 4 (01, "The six packages").
use Rattle.std.specs.Prelude.{ℕ, Bool, true, false, not, ◌&&◌, List, ◌++◌, map}
use Rattle.elements.specs.Kinds.{server_delete_kind, server_replace_kind, server_add_kind}
use Rattle.text.specs.declared.Wording.{Wording}
use Rattle.text.specs.Wording.{no_wording}
use Rattle.terms.specs.declared.Luid.{Luid}
use Rattle.terms.specs.declared.Guid.{Guid}
use Rattle.terms.specs.Number.{no_luid, no_guid}
use Rattle.records.specs.declared.Mark.{Mark}
use Rattle.records.specs.declared.Record.{Record}
use Rattle.records.specs.declared.Records.{Records}
use Rattle.records.specs.Server.{no_record, is_live}
use Rattle.lists.specs.declared.Entry.{Entry}
use Rattle.places.specs.Act.{hit, holds, each}
use Rattle.places.specs.Rising.{those, rising}
use Rattle.statuses.specs.declared.Name.{Name}
use Rattle.statuses.specs.declared.Name.TheVariants.{Delete, Replace, Add}
use Rattle.statuses.specs.Status.{name_of}
use Rattle.listing.specs.Listing.{by_guid}
use Rattle.record_moves.specs.Named.{table_of, with_table, is_paired}

-- ---- Delete for deleted, Replace for paired dirty or offered, Add for unpaired dirty or offered
abbrev pub is_waiting : Mark → Bool
is_waiting Mark.Clean = false
is_waiting Mark.Dirty = true
is_waiting Mark.Offered = true
is_waiting Mark.Deleted = false

abbrev pub is_offered_as : Name → Record → Bool
is_offered_as Delete x = not (is_live x.pairing.mark)
is_offered_as Replace x = is_waiting x.pairing.mark && is_paired x
is_offered_as Add x = is_waiting x.pairing.mark && not (is_paired x)

-- ---- what is offered: which command, and all that the server knows of the record; text and station go together (02, 5)
abbrev pub kind_of : Name → ℕ
kind_of Delete = server_delete_kind
kind_of Replace = server_replace_kind
kind_of Add = server_add_kind

abbrev pub worded_as : ℕ → Guid → Luid → Wording → Entry
worded_as kind guid luid w =
    record {
      fields = record { kind = kind; msgref = 0; cmdref = 0; cmd = 0; code = 0; guid = guid; luid = luid; fp = 0 };
      wording = w;
    }

abbrev pub offer : Name → Record → Entry
offer m x = worded_as (kind_of m) x.guid x.pairing.luid x.wording

-- each by rising GUID
unfoldable pub offers_of : Name → Records → List Entry
offers_of m s = rising by_guid (map (offer m) (those (hit s.used (is_offered_as m)) 0 s.places))

unfoldable pub offers : Records → List Entry
offers s = offers_of Delete s ++ (offers_of Replace s ++ offers_of Add s)

-- ---- what the command says of it: Delete and Replace name the LUID, Add the GUID; Delete has no text and no station
abbrev pub command_of : Name → Entry → Entry
command_of Delete o = worded_as server_delete_kind no_guid o.fields.luid no_wording
command_of Replace o = worded_as server_replace_kind no_guid o.fields.luid o.wording
command_of Add o = worded_as server_add_kind o.fields.guid no_luid o.wording

abbrev pub command : Entry → Entry
command o = command_of (name_of o.fields.kind) o

unfoldable pub commands : Records → List Entry
commands s = map command (offers s)

-- ---- all dirty become offered
abbrev pub is_dirty : Mark → Bool
is_dirty Mark.Clean = false
is_dirty Mark.Dirty = true
is_dirty Mark.Offered = false
is_dirty Mark.Deleted = false

abbrev pub offered_now : Record → Record
offered_now x = record { guid = x.guid; wording = x.wording; pairing = record { luid = x.pairing.luid; known = x.pairing.known; mark = Mark.Offered } }

abbrev pub dirty_here : Record → Bool
dirty_here x = is_dirty x.pairing.mark

unfoldable pub offered : Records → Records
offered s = with_table s (each no_record dirty_here (λ x. holds (offered_now x)) (table_of s))
