-- Every row of the bench table holds on bytes: by the public calls, with the message limit or more lent at each. Assumes nothing.
use Prim.Native.Nat.{ℕ, ◌≤◌}
use mathlib.Core.Path.{◌≡◌, refl, ap, ◌∙◌}
use mathlib.Core.Bool.{Bool, true, not, ◌&&◌}
use mathlib.Core.List.{List, [], ◌∷◌, map}
use native.Mathlib.Omega.{arith}
use lib.ListN.{length}
use borrow.Author.Tests.{not-true}
use Rattle.places.proofs.Choice.{and_first, and_second}
use Rattle.message.specs.declared.Content.{Content}
use Rattle.message.specs.Message.{limit}
use Rattle.statuses.specs.Status.{added}
use Rattle.packages.specs.Package.{head5, packed}
use Rattle.places.proofs.Every.{Every, every2, every_append}
use Rattle.terms.specs.Number.{luid, guid}
use Rattle.sendable.specs.Sendable.{SendablePackage}
use Rattle.sendable.proofs.ElementLaws.{status_with_guid}
use Rattle.sendable.proofs.PackageLaws.{pkg5_sendable}
use Rattle.calls.specs.After.{bytes_for}
use Rattle.course.specs.Course.{fresh_world, hand_made, press_adds, server_adds, Doing, alone, full, halted}
use Rattle.course.specs.OnContent.{on_content}
use Rattle.course.specs.OnBytes.{on_bytes}
use Rattle.course.proofs.CarriedLaws.{step_well, DoneWell, goes_carried, fresh_well}
use Rattle.bench_table.specs.Tables.{press_station}
use Rattle.bench_table.specs.Rows.{Row, Seen, seen, Holds, row1, row2, row3, row4, row5, row6, row6_press, row6_offered, row7, row8, row9, row10, row11, row12, row13, brown, beige, rows}
use Rattle.bench_table.proofs.Table.{table}

-- ---- row 12's package by hand is in the written form
by_hand : SendablePackage (packed (head5 3 3) (added 4 (guid 2) (luid 1) 2 ∷ []) [])
by_hand =
    pkg5_sendable 3 (omega arith, omega arith) (added 4 (guid 2) (luid 1) 2 ∷ []) (omega arith) 3 (omega arith, omega arith) (
      status_with_guid 2 4 2 200 (omega arith, omega arith) (omega arith, omega arith) (omega arith, omega arith) (omega arith, omega arith) (luid 1) 2
          (omega arith, omega arith) (omega arith, omega arith) (guid 2) (omega arith, omega arith),
      tt,
    )

-- small steps other than that
plain_doing : Doing → Bool
plain_doing [] = true
plain_doing (x ∷ xs) = not (hand_made x) && plain_doing xs

all_plain : List Doing → Bool
all_plain [] = true
all_plain (d ∷ ds) = plain_doing d && all_plain ds

all_rows_plain : List Row → Bool
all_rows_plain [] = true
all_rows_plain (r ∷ rs) = all_plain r.course && all_rows_plain rs

-- map of what stays as it is
same_again : {B : Type 0} (f : Content → B) (xs : List Content) → map f (map (λ (x : Content). x) xs) ≡ map f xs
same_again f [] = refl
same_again f (x ∷ xs) = λ i. f x ∷ same_again f xs i

module _ (out : List ℕ) (room : limit ≤ length out) where
  plain_doing_well : (d : Doing) → plain_doing d ≡ true → DoneWell out room d
  unfolding plain_doing
  plain_doing_well [] e = tt
  plain_doing_well (x ∷ xs) e = (step_well out room x (not-true (hand_made x) (and_first (not (hand_made x)) (plain_doing xs) e)), plain_doing_well xs (and_second (not (hand_made x)) (plain_doing xs) e))

  all_plain_well : (ds : List Doing) → all_plain ds ≡ true → Every (DoneWell out room) ds
  unfolding all_plain
  all_plain_well [] e = tt
  all_plain_well (d ∷ ds) e = (plain_doing_well d (and_first (plain_doing d) (all_plain ds) e), all_plain_well ds (and_second (plain_doing d) (all_plain ds) e))

  -- ---- a row that holds on content holds on bytes
  abbrev WellRow : Row → Type 0
  WellRow r = Every (DoneWell out room) r.course

  row_carried : (r : Row) → WellRow r → Holds on_content r → Holds (on_bytes out) r
  row_carried r w e =
      ap seen (goes_carried out room r.course w (fresh_world press_station) (fresh_well press_station (omega arith)))
      ∙ ap (λ (x : Seen Content). record { answers = x.answers; press = x.press; server = x.server; written = map bytes_for x.written }) e
      ∙ λ i. record { answers = r.answers; press = r.press; server = r.server; written = same_again bytes_for r.written i }

  -- row 12's last doing is the package by hand
  row12_well : WellRow row12
  unfolding plain_doing
  row12_well =
      (plain_doing_well (alone (press_adds brown)) refl, (plain_doing_well full refl, (plain_doing_well (alone (server_adds beige)) refl, (plain_doing_well (halted 5) refl, ((by_hand, tt), tt)))))

  -- all others have none: one test for all of them
  rows_well : (rs : List Row) → all_rows_plain rs ≡ true → Every WellRow rs
  unfolding all_rows_plain
  rows_well [] e = tt
  rows_well (r ∷ rs) e = (all_plain_well r.course (and_first (all_plain r.course) (all_rows_plain rs) e), rows_well rs (and_second (all_plain r.course) (all_rows_plain rs) e))

  abbrev before : List Row
  before = row1 ∷ row2 ∷ row3 ∷ row4 ∷ row5 ∷ row6 ∷ row6_press ∷ row6_offered ∷ row7 ∷ row8 ∷ row9 ∷ row10 ∷ row11 ∷ []

  well_rows : Every WellRow rows
  unfolding plain_doing all_plain all_rows_plain
  well_rows = every_append WellRow (row12 ∷ row13 ∷ []) before (rows_well before refl) (row12_well, rows_well (row13 ∷ []) refl)

  -- ---- every row of the table holds
  pub table_on_bytes : Every (Holds (on_bytes out)) rows
  table_on_bytes = every2 WellRow (Holds on_content) (Holds (on_bytes out)) row_carried rows well_rows table
