-- Step 3 of the server at Pkg 3: deleted records without LUID are removed (01, "The six packages").
use Rattle.std.specs.Prelude.{Bool, not, ◌&&◌}
use Rattle.records.specs.declared.Record.{Record}
use Rattle.records.specs.declared.Records.{Records}
use Rattle.records.specs.Server.{no_record, is_live}
use Rattle.places.specs.Act.{free, each}
use Rattle.record_moves.specs.Named.{table_of, with_table, is_paired}

abbrev pub is_forgotten : Record → Bool
is_forgotten x = not (is_live x.pairing.mark) && not (is_paired x)

unfoldable pub step3 : Records → Records
step3 s = with_table s (each no_record is_forgotten (λ x. free) (table_of s))
