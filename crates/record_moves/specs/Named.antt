-- The records that a rule names, and a place of the server's table put or freed.
use Rattle.std.specs.Prelude.{Option, Some, None}
use Rattle.std.specs.Prelude.{ℕ, Bool, true, false, not, ◌&&◌, ◌||◌, ◌≡◌, eqb, get_or}
use Rattle.places.specs.Set.{in_use}
use Rattle.terms.specs.declared.Luid.{Luid}
use Rattle.terms.specs.declared.Guid.{Guid}
use Rattle.records.specs.declared.Record.{Record}
use Rattle.records.specs.declared.Records.{Records}
use Rattle.records.specs.Server.{no_record, WellFormed, is_record}
use Rattle.places.specs.Act.{Table, free, holds, find, put_at}

-- which record is meant: the one with a LUID, the one with a GUID, one that has a LUID and is not the one with that GUID, or the one with a GUID that people know
pub data Named : Type 0 where
  ByLuid : Luid → Named
  ByGuid : Guid → Named
  Elsewhere : Guid → Luid → Named
  Known : Guid → Named

abbrev pub table_of : Records → Table Record
table_of s = record { used = s.used; places = s.places }

abbrev pub with_table : Records → Table Record → Records
with_table s t = record { used = t.used; places = t.places; guid = s.guid }

abbrev pub with_record : Records → ℕ → Record → Records
with_record s i x = with_table s (put_at (table_of s) i (holds x))

abbrev pub without_record : Records → ℕ → Records
without_record s i = with_table s (put_at (table_of s) i free)

-- ---- which record: deleted ones count too, but for what people know
abbrev pub is_paired : Record → Bool
is_paired x = not (eqb x.pairing.luid.0 0)

abbrev pub has_luid : Luid → Record → Bool
has_luid l x = is_paired x && eqb x.pairing.luid.0 l.0

abbrev pub has_guid : Guid → Record → Bool
has_guid g x = eqb x.guid.0 g.0

-- the one with a LUID; the one with a GUID; one that has a LUID and is not the one with that GUID; the one with a GUID that people know
abbrev pub is_named : Named → Record → Bool
is_named (Named.ByLuid l) x = has_luid l x
is_named (Named.ByGuid g) x = has_guid g x
is_named (Named.Elsewhere g l) x = has_luid l x && not (has_guid g x)
is_named (Named.Known g) x = is_record g x

abbrev pub place_of : Records → Named → Option ℕ
place_of s n = find (is_named n) (table_of s)

-- ---- whether a record may be given a LUID (01, "Refusal numbers", row 8): not one bound elsewhere, and to a paired record not another one
abbrev pub is_nothing : Option ℕ → Bool
is_nothing None = true
is_nothing (Some i) = false

unfoldable pub may_have : Luid → Record → Records → Bool
may_have l x s = (not (is_paired x) || has_luid l x) && is_nothing (place_of s (Named.Elsewhere x.guid l))

-- ---- what no message can break (01, "The two tables"): the table is well-formed, and no LUID stands in two records
abbrev pub LuidsOnce : Records → Type 0
LuidsOnce s = (i j : ℕ) → in_use s.used i ≡ true → in_use s.used j ≡ true → has_luid (get_or s.places i no_record).pairing.luid (get_or s.places j no_record) ≡ true → i ≡ j

pub record Safe (s : Records) : Type 0 where
  pub formed : WellFormed s
  pub once : LuidsOnce s
