use Rattle.std.proofs.Common.{take}
use Rattle.places.specs.Every.{Every}
use Rattle.token.specs.Put.{Put}
use Rattle.server_image.specs.Image.{records_bytes, StorableRecord}
use Rattle.server_image.proofs.put_records.Given as goal

abbrev pub invariant-loop-x : goal.invariant-loop-x
invariant-loop-x l = Put l.initial.out l.out l.at l.p (records_bytes (take l.x-index l.places)) × Every StorableRecord (take l.x-index l.places)
