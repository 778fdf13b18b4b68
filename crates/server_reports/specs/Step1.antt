-- Step 1 of the server at Pkg 3: reports (01, "The six packages"; row 8 of "Refusal numbers" as far as it speaks of reports).
use Rattle.std.specs.Prelude.{ℕ}
use Rattle.std.specs.Prelude.{Option, Some, None}
use Rattle.std.specs.Prelude.{Bool, true, cond, ◌||◌, List, eqb, leb, get_or}
use Rattle.terms.specs.Check.{checked}
use Rattle.terms.specs.declared.Check.{Check}
use Rattle.records.specs.declared.Mark.{Mark}
use Rattle.records.specs.declared.Mark.TheVariants.{Clean, Dirty, Offered, Deleted}
use Rattle.records.specs.declared.Record.{Record}
use Rattle.records.specs.declared.Records.{Records}
use Rattle.records.specs.Server.{no_record}
use Rattle.lists.specs.declared.Entry.{Entry}
use Rattle.places.specs.Act.{holds, act, in_order, all_pass}
use Rattle.record_moves.specs.Named.{Named}
use Rattle.record_moves.specs.Named.{table_of, with_table, is_named, place_of, may_have}

-- it names the record with its GUID, or without one the record with its LUID
abbrev pub named_by : Entry → Named
named_by r = cond (eqb r.fields.guid.0 0) (Named.ByLuid r.fields.luid) (Named.ByGuid r.fields.guid)

-- a fingerprint that is not above the known one
abbrev pub is_late : Entry → Record → Bool
is_late r x = leb r.fields.fp x.pairing.known

-- offered becomes clean; other marks stay
abbrev pub settled : Mark → Mark
settled Clean = Clean
settled Dirty = Dirty
settled Offered = Clean
settled Deleted = Deleted

-- the LUID is recorded, the known fingerprint raised; text and station stay together (02, 5)
abbrev pub counted : Entry → Record → Record
counted r x =
    record {
      guid = x.guid;
      wording = x.wording;
      pairing = record { luid = r.fields.luid; known = r.fields.fp; mark = settled x.pairing.mark };
    }

-- a late report is ignored, and one that names no record
unfoldable pub told : Entry → Record → Record
told r x = cond (is_late r x) x (counted r x)

unfoldable pub report : Entry → Records → Records
report r s = with_table s (act no_record (is_named (named_by r)) (λ x. holds (told r x)) (table_of s))

-- ---- 8: a counted report that gives a LUID bound elsewhere, or gives a paired record another LUID
abbrev pub fits_at : Entry → Records → Option ℕ → Bool
fits_at r s None = true
fits_at r s (Some i) = is_late r (get_or s.places i no_record) || may_have r.fields.luid (get_or s.places i no_record) s

unfoldable pub report_fits : Entry → Records → Bool
report_fits r s = fits_at r s (place_of s (named_by r))

-- ---- the records after reports or answers, taken one after the other; or as they were, where one does not fit
pub record InTurn : Type 0 where
  pub check : Check
  pub records : Records

-- one alone, where it fits
abbrev pub taken_if : {A : Type 0} → (A → Records → Bool) → (A → Records → Records) → A → Records → Records
taken_if fits take x s = cond (fits x s) (take x s) s

-- ---- taken one after the other; where one does not fit, nothing is taken (Pkg 5's answers too)
unfoldable pub all_or_none : {A : Type 0} → (A → Records → Bool) → (A → Records → Records) → List A → Records → InTurn
all_or_none fits take xs s = record { check = checked (all_pass fits take xs s); records = cond (all_pass fits take xs s) (in_order take xs s) s }

abbrev pub reported : List Entry → Records → InTurn
reported rs s = all_or_none report_fits report rs s
