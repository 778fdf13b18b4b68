-- What courses can show: two of them in which every command, every code that 01 names for its place but 404, a recovery and both kinds of reports are written.
use Rattle.std.specs.Prelude.{ℕ, Bool, true, false, not, ◌&&◌, ◌||◌, List, [], ◌∷◌, ◌++◌, eqb, replicate}
use Rattle.elements.specs.Kinds.{is_false}
use Rattle.terms.specs.Number.{luid, guid}
use Rattle.records.specs.declared.Rule.TheVariants.{ServerWins}
use Rattle.lists.specs.declared.Entry.{Entry}
use Rattle.message.specs.declared.Content.{Content}
use Rattle.statuses.specs.declared.Name.{Name}
use Rattle.statuses.specs.Status.{name_of, cmd_of}
use Rattle.packages.specs.Package.{answers_in, commands_in}
use Rattle.course.specs.Course.{press_adds, press_edits, press_deletes, server_adds, server_edits, server_deletes, set_rule, Doing, alone, full, lost_at, fresh_world, goes}
use Rattle.course.specs.OnContent.{on_content}
use Rattle.bench_table.specs.Tables.{press_station}
use Rattle.shut_out.specs.Faults.{brown, blue, black}

-- ---- what a package can show
unfoldable pub some : {A : Type 0} → (A → Bool) → List A → Bool
some t [] = false
some t (x ∷ xs) = t x || some t xs

abbrev pub is_named : Name → Name → Bool
is_named Name.Delete Name.Delete = true
is_named Name.Replace Name.Replace = true
is_named Name.Add Name.Add = true
is_named Name.Delete Name.Replace = false
is_named Name.Delete Name.Add = false
is_named Name.Replace Name.Delete = false
is_named Name.Replace Name.Add = false
is_named Name.Add Name.Delete = false
is_named Name.Add Name.Replace = false

-- package k has a command of that name; a status of a command of that name with that code; (Pkg 3) a report, with GUID or without; (Pkg 2) recovery
abbrev pub commands : ℕ → Name → Content → Bool
commands k n x = eqb x.head.pkg k && some (λ c. is_named n (name_of c.fields.kind)) (commands_in x)

abbrev pub has_status : ℕ → Name → ℕ → Content → Bool
has_status k n code x = eqb x.head.pkg k && some (λ (a : Entry). eqb a.fields.cmd (cmd_of n) && eqb a.fields.code code) (answers_in x)

abbrev pub reports_by_guid : Content → Bool
reports_by_guid x = eqb x.head.pkg 3 && some (λ (a : Entry). not (eqb a.fields.guid.0 0)) (answers_in x)

abbrev pub reports_by_luid : Content → Bool
reports_by_luid x = eqb x.head.pkg 3 && some (λ (a : Entry). eqb a.fields.guid.0 0) (answers_in x)

abbrev pub recovers : Content → Bool
recovers x = eqb x.head.pkg 2 && eqb x.head.valid is_false

-- ---- all of it
abbrev pub shown : List (Content → Bool)
shown =
    commands 3 Name.Delete ∷ commands 3 Name.Replace ∷ commands 3 Name.Add
    ∷ commands 4 Name.Delete ∷ commands 4 Name.Replace ∷ commands 4 Name.Add
    ∷ has_status 4 Name.Delete 200 ∷ has_status 4 Name.Delete 211 ∷ has_status 4 Name.Delete 419
    ∷ has_status 4 Name.Replace 200 ∷ has_status 4 Name.Replace 208 ∷ has_status 4 Name.Replace 419 ∷ has_status 4 Name.Add 200 ∷ has_status 4 Name.Add 420
    ∷ has_status 5 Name.Delete 200 ∷ has_status 5 Name.Delete 211
    ∷ has_status 5 Name.Replace 200 ∷ has_status 5 Name.Add 200 ∷ has_status 5 Name.Add 420
    ∷ reports_by_guid ∷ reports_by_luid ∷ recovers
    ∷ []

-- ---- the courses: cards go both ways; are changed on one side and, where the server wins, on both, deleted on one side and changed on the other, deleted before they were
-- sent, deleted with Pkg 5 lost; reports after a lost Pkg 5; recovery after a lost Pkg 6
abbrev pub of_all : List Doing
of_all =
    alone (press_adds brown) ∷ alone (server_adds blue) ∷ full
    ∷ alone (set_rule ServerWins) ∷ alone (press_edits (luid 1) black) ∷ alone (server_edits (guid 1) black) ∷ lost_at 5
    ∷ alone (press_edits (luid 1) brown) ∷ alone (server_edits (guid 2) blue) ∷ alone (server_adds black) ∷ lost_at 5
    ∷ alone (press_edits (luid 2) brown) ∷ alone (server_deletes (guid 1)) ∷ alone (press_adds blue) ∷ alone (press_deletes (luid 4)) ∷ full
    ∷ alone (press_deletes (luid 1)) ∷ alone (server_edits (guid 2) brown) ∷ alone (press_deletes (luid 2)) ∷ full
    ∷ alone (server_deletes (guid 3)) ∷ lost_at 5
    ∷ lost_at 6
    ∷ full
    ∷ []

-- the server's table is full, and the press has a card of its own
abbrev pub of_room : List Doing
of_room = alone (press_adds brown) ∷ (replicate 32 (alone (server_adds blue)) ++ (full ∷ []))

abbrev pub written_in : List Doing → List Content
written_in ds = (goes on_content ds (fresh_world press_station)).world.written

unfoldable pub all_shown : List (Content → Bool) → List Content → Bool
all_shown [] xs = true
all_shown (t ∷ ts) xs = some t xs && all_shown ts xs
