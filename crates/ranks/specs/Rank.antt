-- The order of reports and commands in a package (01, "Refusal numbers", row 8: names, LUIDs or GUIDs out of order; a LUID twice; a command that the mode does not have).
use Rattle.std.specs.Prelude.{ℕ, Bool, true, false, cond, not, ◌&&◌, ◌||◌, List, [], ◌∷◌, eqb, ltb}
use Rattle.lists.specs.declared.Entry.{Entry}
use Rattle.statuses.specs.declared.Name.{Name}
use Rattle.statuses.specs.declared.Name.TheVariants.{Delete, Replace, Add}
use Rattle.statuses.specs.Status.{name_of}
use Rattle.ranks.specs.declared.Row.{Row}
use Rattle.ranks.specs.declared.Row.TheVariants.{Reports, PressCommands, ServerCommands}

-- ---- names: Delete, Replace, Add in this order
abbrev pub rank_of : Name → ℕ
rank_of Delete = 0
rank_of Replace = 1
rank_of Add = 2

abbrev pub name_in : Entry → Name
name_in x = name_of x.fields.kind

-- (reports have no names: all of them are alike)
abbrev pub rank_in : Row → Entry → ℕ
rank_in Reports x = 0
rank_in PressCommands x = rank_of (name_in x)
rank_in ServerCommands x = rank_of (name_in x)

abbrev pub is_add : Name → Bool
is_add Delete = false
is_add Replace = false
is_add Add = true

-- ---- numbers: x may stand right before y, which has the same name. Reports and the press's commands rise by LUID;
-- of the server's commands only the Adds have to rise, by GUID ("Pkg 4: names and Add's GUIDs only")
abbrev pub same_name : Row → Entry → Entry → Bool
same_name Reports x y = ltb x.fields.luid.0 y.fields.luid.0
same_name PressCommands x y = ltb x.fields.luid.0 y.fields.luid.0
same_name ServerCommands x y = cond (is_add (name_in x)) (ltb x.fields.guid.0 y.fields.guid.0) true

-- x may stand right before y: its name comes earlier, or it is the same name and the numbers are in order
abbrev pub before : Row → Entry → Entry → Bool
before k x y = cond (eqb (rank_in k x) (rank_in k y)) (same_name k x y) (ltb (rank_in k x) (rank_in k y))

-- each may stand right before the next
unfoldable pub ranked : Row → List Entry → Bool
ranked k [] = true
ranked k (x ∷ []) = true
ranked k (x ∷ (y ∷ ys)) = before k x y && ranked k (y ∷ ys)

-- ---- no LUID twice (0 is none: a server's Add names a GUID)
abbrev pub same_luid : Entry → Entry → Bool
same_luid x y = not (eqb x.fields.luid.0 0) && eqb x.fields.luid.0 y.fields.luid.0

-- the LUID of x stands again among these
unfoldable pub some_same : Entry → List Entry → Bool
some_same x [] = false
some_same x (y ∷ ys) = same_luid x y || some_same x ys

unfoldable pub luids_once : List Entry → Bool
luids_once [] = true
luids_once (x ∷ xs) = not (some_same x xs) && luids_once xs

-- ---- a command that the mode does not have: in recovery there are Replaces only, normal has all three names
abbrev pub is_replace : Name → Bool
is_replace Delete = false
is_replace Replace = true
is_replace Add = false

unfoldable pub only_replaces : List Entry → Bool
only_replaces [] = true
only_replaces (x ∷ xs) = is_replace (name_in x) && only_replaces xs
