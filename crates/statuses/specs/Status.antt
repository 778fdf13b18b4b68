-- What the status of a command says, and what it has to say (01, "Written form" and "Refusal numbers", row 8).
use Rattle.std.specs.Prelude.{ℕ, suc, Bool, true, false, cond, ◌&&◌, ◌||◌, List, [], ◌∷◌, eqb}
use Rattle.elements.specs.Kinds.{empty_kind, luid_kind, guid_kind, press_delete_kind, press_replace_kind, server_delete_kind, server_replace_kind, cmd_add, cmd_replace, cmd_delete}
use Rattle.text.specs.Wording.{no_wording}
use Rattle.terms.specs.declared.Luid.{Luid}
use Rattle.terms.specs.declared.Guid.{Guid}
use Rattle.terms.specs.Number.{no_luid, no_guid}
use Rattle.lists.specs.declared.Entry.{Entry}
use Rattle.statuses.specs.declared.Name.{Name}
use Rattle.statuses.specs.declared.Name.TheVariants.{Delete, Replace, Add}
use Rattle.statuses.specs.declared.Side.{Side}
use Rattle.statuses.specs.Code.{codes_for, is_one_of}

-- the name of a command, by its kind of element, the press's or the server's
-- (a list of commands has no other kinds)
abbrev pub name_of : ℕ → Name
name_of k = cond (eqb k press_delete_kind || eqb k server_delete_kind) Delete (cond (eqb k press_replace_kind || eqb k server_replace_kind) Replace Add)

-- the name as a status has it: the number of the word in Cmd
abbrev pub cmd_of : Name → ℕ
cmd_of Add = cmd_add
cmd_of Replace = cmd_replace
cmd_of Delete = cmd_delete

-- ---- a status of command number ref (CmdRef). The commands stand in the second message of their side, Pkg 3 or Pkg 4, so MsgRef is 2
abbrev status_as : ℕ → ℕ → Name → ℕ → Guid → Luid → ℕ → Entry
status_as kind ref m code guid luid fp =
    record {
      fields = record { kind = kind; msgref = 2; cmdref = ref; cmd = cmd_of m; code = code; guid = guid; luid = luid; fp = fp };
      wording = no_wording;
    }

-- empty; with a StatusItem of LUID and fingerprint, or of GUID, LUID and fingerprint: a Replace and an Add that were done
abbrev pub empty_status : ℕ → Name → ℕ → Entry
empty_status ref m code = status_as empty_kind ref m code no_guid no_luid 0

abbrev pub replaced : ℕ → Luid → ℕ → Entry
replaced ref luid fp = status_as luid_kind ref Replace 200 no_guid luid fp

abbrev pub added : ℕ → Guid → Luid → ℕ → Entry
added ref guid luid fp = status_as guid_kind ref Add 200 guid luid fp

-- ---- the status x fits the command c of side s, which has number ref: MsgRef, CmdRef and Cmd are those of what it answers, and the code is named for its place
abbrev pub answers : Side → ℕ → Entry → Entry → Bool
answers s ref c x =
    eqb x.fields.msgref 2
    && eqb x.fields.cmdref ref
    && eqb x.fields.cmd (cmd_of (name_of c.fields.kind))
    && is_one_of (codes_for s (name_of c.fields.kind)) x.fields.code

-- the kind of an answer to the server: 200 to Replace has LUID and fingerprint, 200 to Add those and the Add's GUID, every other has no StatusItem
abbrev pub item_for : Name → ℕ → ℕ
item_for Delete code = empty_kind
item_for Replace code = cond (eqb code 200) luid_kind empty_kind
item_for Add code = cond (eqb code 200) guid_kind empty_kind

-- it has that StatusItem, and the GUID of the Add that it answers
abbrev pub item_fits : Entry → Entry → Bool
item_fits c x =
    eqb x.fields.kind (item_for (name_of c.fields.kind) x.fields.code)
    && cond (eqb x.fields.kind guid_kind) (eqb x.fields.guid.0 c.fields.guid.0) true

-- (a status to the press is empty by its form)
abbrev pub item_due : Side → Entry → Entry → Bool
item_due Side.Press c x = true
item_due Side.Server c x = item_fits c x

abbrev pub fits : Side → ℕ → Entry → Entry → Bool
fits s ref c x = answers s ref c x && item_due s c x

-- a status for each command in order, none missing and none left over; the first command has number ref
unfoldable pub all_fit : Side → ℕ → List Entry → List Entry → Bool
all_fit s ref [] [] = true
all_fit s ref [] (x ∷ xs) = false
all_fit s ref (c ∷ cs) [] = false
all_fit s ref (c ∷ cs) (x ∷ xs) = fits s ref c x && all_fit s (suc ref) cs xs
