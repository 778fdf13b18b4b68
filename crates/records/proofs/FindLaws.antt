-- What the place of a record tells. Assumes nothing.
use Rattle.std.proofs.Common.{Some}
use Prim.Native.Nat.{ℕ}
use mathlib.Core.Path.{◌≡◌}
use mathlib.Core.Bool.{Bool}
use Rattle.places.proofs.TableLaws.{Stands, stands}
use Rattle.terms.specs.declared.Guid.{Guid}
use Rattle.records.specs.declared.Record.{Record}
use Rattle.records.specs.declared.Records.{Records}
use Rattle.records.specs.Server.{no_record, is_live, find_record, guid_of, WellFormed}

abbrev pub live : Record → Bool
live x = is_live x.pairing.mark

abbrev pub RecordAt : Records → Guid → ℕ → Type 0
RecordAt c g i = Stands guid_of live no_record c.used c.places g.0 i

pub record_at_lem : (c : Records) → WellFormed c → (g : Guid) (i : ℕ) → find_record c g ≡ Some i → RecordAt c g i
unfolding find_record
record_at_lem c w g i = stands guid_of no_record c.used c.places c.guid w.guids live g.0 i
