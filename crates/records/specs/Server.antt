-- The server's table (01, "The two tables").
use Rattle.std.specs.Prelude.{Option}
use Rattle.std.specs.Prelude.{ℕ, Bool, true, false, ◌&&◌, [], replicate, eqb}
use Rattle.text.specs.Wording.{no_wording, IsWording}
use Rattle.places.specs.Set.{all_places, in_use}
use Rattle.places.specs.First.{first_from}
use Rattle.places.specs.Table.{entry_found, Sound, Each}
use Rattle.terms.specs.declared.Guid.{Guid}
use Rattle.terms.specs.Number.{no_luid, no_guid}
use Rattle.records.specs.declared.Mark.{Mark}
use Rattle.records.specs.declared.Mark.TheVariants.{Clean, Dirty, Offered, Deleted}
use Rattle.records.specs.declared.Pairing.{Pairing}
use Rattle.records.specs.declared.Record.{Record}
use Rattle.records.specs.declared.Records.{Records}
use Rattle.records.specs.declared.Awaits.{Awaits}
use Rattle.records.specs.declared.Rule.{Rule}
use Rattle.records.specs.declared.Rule.TheVariants.{PressWins}
use Rattle.records.specs.declared.Server.{Server}

-- ---- fresh: 32 free places, no GUID given; anchor and last session number start at 1; closed; of two edits of one card the press's wins (02, 7)
abbrev pub unpaired : Mark → Pairing
unpaired m = record { luid = no_luid; known = 0; mark = m }

abbrev pub blank_record : Record
blank_record = record { guid = no_guid; wording = no_wording; pairing = unpaired Clean }

abbrev pub fresh_server : Server
fresh_server =
    record {
      records = record { used = 0; places = replicate all_places blank_record; guid = 0 };
      link = record { anchor = 1; session = 1; awaits = Awaits.Nothing };
      rule = PressWins;
    }

-- open: a package is awaited
abbrev pub is_open : Awaits → Bool
is_open Awaits.Nothing = false
is_open (Awaits.Three m) = true
is_open (Awaits.Five n) = true

-- giving up a session: only the open state changes
abbrev pub server_gives_up : Server → Server
server_gives_up p = record { records = p.records; link = record { anchor = p.link.anchor; session = p.link.session; awaits = Awaits.Nothing }; rule = p.rule }

-- the server's people set the rule for two edits of one card, the server open or not: only the rule changes (02, 7)
abbrev pub server_goes_by : Rule → Server → Server
server_goes_by rule p = record { records = p.records; link = p.link; rule = rule }

-- ---- the record of a number
-- a deleted record occupies its place, and is unknown to people
abbrev pub is_live : Mark → Bool
is_live Clean = true
is_live Dirty = true
is_live Offered = true
is_live Deleted = false

abbrev pub is_record : Guid → Record → Bool
is_record g x = is_live x.pairing.mark && eqb x.guid.0 g.0

-- (what `get_or` gives past the end of the places: no rule uses it)
abbrev pub no_record : Record
no_record = record { guid = no_guid; wording = record { text = record { len = 0; bytes = [] }; station = 0 }; pairing = unpaired Clean }

-- place i is in use and holds the record
abbrev pub wanted : ℕ → Guid → ℕ → Record → Bool
wanted used g i x = in_use used i && is_record g x

unfoldable pub find_record : Records → Guid → Option ℕ
find_record c g = first_from (wanted c.used g) 0 c.places

-- the record itself, or none
abbrev pub record_of : Records → Guid → Option Record
record_of c g = entry_found no_record c.places (find_record c g)

-- ---- well-formed: what a fresh server has and every call keeps
abbrev pub guid_of : Record → ℕ
guid_of x = x.guid.0

-- a record's text keeps the text rule, and its station is one
abbrev pub FineRecord : Record → Type 0
FineRecord x = IsWording x.wording

pub record WellFormed (c : Records) : Type 0 where
  -- 32 places; the GUIDs in use were given and stand once
  pub guids : Sound guid_of no_record c.used c.places c.guid
  pub records : Each FineRecord no_record c.used c.places
