-- The server at Pkg 3, steps 2 to 5 in their order, with the statuses of the commands (01, "The six packages").
use Rattle.std.specs.Prelude.{ℕ, ◌+◌, List, ◌++◌, drop}
use Rattle.terms.specs.declared.Mode.{Mode}
use Rattle.records.specs.declared.Records.{Records}
use Rattle.records.specs.declared.Rule.{Rule}
use Rattle.lists.specs.declared.Entry.{Entry}
use Rattle.places.specs.Act.{in_order, replies}
use Rattle.listing.specs.Listing.{listing}
use Rattle.server_deletes.specs.Step2.{delete, delete_status, deletes_in, deletes_of, step2}
use Rattle.server_forgets.specs.Step3.{step3}
use Rattle.server_changes.specs.Step4.{change, change_status}
use Rattle.server_changes.specs.Step4.{Changed}

-- the Replaces and Adds stand after the Deletes
abbrev pub changes_of : List Entry → List Entry
changes_of cs = drop (deletes_in cs) cs

-- s are the records after the reports
abbrev pub up_to3 : Mode → List Entry → Records → Records
up_to3 m cs s = step3 (step2 m cs s)

unfoldable pub merged : Rule → Mode → List Entry → Records → Records
merged rule m cs s = in_order (change rule) (changes_of cs) (up_to3 m cs s)

-- a status for each command in order; the first command has number ref
unfoldable pub statuses_for : Rule → Mode → ℕ → List Entry → Records → List Entry
statuses_for rule m ref cs s =
    replies delete_status delete ref (deletes_of cs) s
    ++ replies (change_status rule) (change rule) (ref + deletes_in cs) (changes_of cs) (up_to3 m cs s)

abbrev pub merged_by : Rule → Mode → ℕ → List Entry → Records → Changed
merged_by rule m ref cs s = record { records = merged rule m cs s; statuses = listing (statuses_for rule m ref cs s) }
