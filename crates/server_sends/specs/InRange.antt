-- A server whose numbers have their ranges (01, "The two tables" and "Written form"): what a fresh server has and every call keeps.
use Rattle.std.specs.Prelude.{◌≤◌}
use Rattle.places.specs.Table.{Each}
use Rattle.records.specs.declared.Record.{Record}
use Rattle.records.specs.declared.Records.{Records}
use Rattle.records.specs.declared.Server.{Server}
use Rattle.records.specs.Server.{no_record}
use Rattle.record_moves.specs.Named.{Safe}
use Rattle.sendable.specs.Sendable.{Number}

-- a record's LUID is none (0) or 1 to 65535, and its known fingerprint 0 (at first) to 4294967295
abbrev pub RecordInRange : Record → Type 0
RecordInRange x = (x.pairing.luid.0 ≤ 65535) × (x.pairing.known ≤ 4294967295)

-- the table is safe, GUIDs were given to 65535 at most, and each record is in range
pub record RecordsInRange (c : Records) : Type 0 where
  pub safe : Safe c
  pub guids : c.guid ≤ 65535
  pub each : Each RecordInRange no_record c.used c.places

-- so are the session number and the anchor
pub record ServerInRange (s : Server) : Type 0 where
  pub records : RecordsInRange s.records
  pub session : Number s.link.session
  pub anchor : Number s.link.anchor
