-- A fresh server is well-formed. Assumes nothing.
use Rattle.places.proofs.TableLaws.{none_in, sound_fresh}
use Rattle.records.specs.Server.{no_record, blank_record, fresh_server, guid_of, WellFormed}

pub fresh_kept : WellFormed fresh_server.records
fresh_kept = record { guids = sound_fresh guid_of no_record blank_record; records = λ i e. absurd (none_in i e) }
