-- Step 2 of the server at Pkg 3: deletes (01, "The six packages").
use Rattle.std.specs.Prelude.{Option, Some, None}
use Rattle.std.specs.Prelude.{ℕ, suc, Bool, true, false, cond, not, ◌&&◌, ◌||◌, List, [], ◌∷◌, eqb, get_or, take}
use Rattle.terms.specs.declared.Luid.{Luid}
use Rattle.terms.specs.Number.{no_luid}
use Rattle.terms.specs.declared.Mode.{Mode}
use Rattle.terms.specs.declared.Mode.TheVariants.{Normal, Recovery}
use Rattle.records.specs.declared.Mark.{Mark}
use Rattle.records.specs.declared.Record.{Record}
use Rattle.records.specs.declared.Records.{Records}
use Rattle.records.specs.Server.{no_record}
use Rattle.lists.specs.declared.Entry.{Entry}
use Rattle.places.specs.Act.{Slot, free, holds, act, each, in_order, replies}
use Rattle.statuses.specs.declared.Name.{Name}
use Rattle.statuses.specs.Status.{name_of, empty_status}
use Rattle.record_moves.specs.Named.{Named}
use Rattle.record_moves.specs.Named.{table_of, with_table, is_paired, is_named, place_of}
use Rattle.listing.specs.Listing.{listing}
use Rattle.listing.specs.declared.Listing.{Listing}

-- ---- a record that the press has deleted: clean or deleted, it is removed; dirty or offered, it loses its LUID and becomes dirty
-- (the known fingerprint stays, and text and station together: 02, 5)
abbrev pub unpaired_now : Record → Record
unpaired_now x = record { guid = x.guid; wording = x.wording; pairing = record { luid = no_luid; known = x.pairing.known; mark = Mark.Dirty } }

-- what becomes of the record, and the code of the Delete
abbrev pub at_delete : Mark → (Record → Slot Record) × ℕ
at_delete Mark.Clean = ((λ x. free), 200)
at_delete Mark.Deleted = ((λ x. free), 200)
at_delete Mark.Dirty = ((λ x. holds (unpaired_now x)), 419)
at_delete Mark.Offered = ((λ x. holds (unpaired_now x)), 419)

abbrev pub lost_by : Mark → Record → Slot Record
lost_by m x = (at_delete m).0 x

abbrev pub lost_code : Mark → ℕ
lost_code m = (at_delete m).1

abbrev pub lost : Record → Slot Record
lost x = lost_by x.pairing.mark x

-- LUID not found: 211

abbrev pub deleted : Entry → Named
deleted c = Named.ByLuid c.fields.luid

unfoldable pub delete : Entry → Records → Records
delete c s = with_table s (act no_record (is_named (deleted c)) lost (table_of s))

abbrev pub delete_code_at : Records → Option ℕ → ℕ
delete_code_at s None = 211
delete_code_at s (Some i) = lost_code (get_or s.places i no_record).pairing.mark

unfoldable pub delete_status : ℕ → Entry → Records → Entry
delete_status ref c s = empty_status ref Name.Delete (delete_code_at s (place_of s (deleted c)))

-- ---- the Deletes stand before the other commands: how many there are
abbrev pub is_delete : Name → Bool
is_delete Name.Delete = true
is_delete Name.Replace = false
is_delete Name.Add = false

unfoldable pub deletes_in : List Entry → ℕ
deletes_in [] = 0
deletes_in (c ∷ cs) = cond (is_delete (name_of c.fields.kind)) (suc (deletes_in cs)) 0

abbrev pub deletes_of : List Entry → List Entry
deletes_of cs = take (deletes_in cs) cs

-- ---- in recovery: every paired record whose LUID no Replace here names (there are only Replaces)
unfoldable pub names_luid : List Entry → Luid → Bool
names_luid [] l = false
names_luid (c ∷ cs) l = eqb c.fields.luid.0 l.0 || names_luid cs l

unfoldable pub left_out : List Entry → Record → Bool
left_out cs x = is_paired x && not (names_luid cs x.pairing.luid)

-- ---- step 2
unfoldable pub step2 : Mode → List Entry → Records → Records
step2 Normal cs s = in_order delete (deletes_of cs) s
step2 Recovery cs s = with_table s (each no_record (left_out cs) lost (table_of s))

-- ---- with the statuses of the Deletes, of which the first has number ref
pub record Deleted : Type 0 where
  pub records : Records
  pub statuses : Listing

abbrev pub told_with : Records → Listing → Deleted
told_with s l = record { records = s; statuses = l }

abbrev pub deleted_by : (Records → Records) → ℕ → List Entry → Records → Deleted
deleted_by f ref cs s = record { records = f s; statuses = listing (replies delete_status delete ref cs s) }

unfoldable pub taken2 : Mode → ℕ → List Entry → Records → Deleted
taken2 m ref cs s = deleted_by (step2 m cs) ref (deletes_of cs) s
