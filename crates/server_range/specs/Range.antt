-- Whether a server is in range, as a test: exactly what `ServerInRange` says (server_sends, InRange.antt; the laws stand in RangeLaws.antt).
use Rattle.std.specs.Prelude.{ℕ, Bool, ◌&&◌, leb}
use Rattle.records.specs.declared.Record.{Record}
use Rattle.records.specs.declared.Records.{Records}
use Rattle.records.specs.declared.Server.{Server}
use Rattle.records.specs.Server.{guid_of}
use Rattle.ranges.specs.Range.{is_number, is_wording, once, each_used, row_of}

-- a record's LUID (0: none)
abbrev pub luid_of : Record → ℕ
luid_of x = x.pairing.luid.0

-- its GUID was given, LUID and known fingerprint are in their ranges, and its wording is one
abbrev pub fine_record : ℕ → Record → Bool
fine_record guid x = leb 1 x.guid.0 && (leb x.guid.0 guid && (leb x.pairing.luid.0 65535 && (leb x.pairing.known 4294967295 && is_wording x.wording)))

-- the table: the last GUID in its range, each record in use is fine, and neither a GUID nor a LUID stands twice
abbrev pub records_in_range : Records → Bool
records_in_range c =
    leb c.used 4294967295
    && (leb c.guid 65535
    && (each_used (fine_record c.guid) c.used 0 c.places && (once (row_of guid_of c.used 0 c.places) && once (row_of luid_of c.used 0 c.places))))

-- the server: anchor and session number are 1 to 4294967295
unfoldable pub server_in_range : Server → Bool
server_in_range s = is_number s.link.anchor && (is_number s.link.session && records_in_range s.records)
