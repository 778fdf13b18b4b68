-- The press at Pkg 4, second part: what each command of the server does to its cards, and beside it the status that it is answered in Pkg 5
-- (01, "Press at Pkg 4" and "Pkg 5"). The command has number ref.
use Rattle.std.specs.Prelude.{Option, Some, None}
use Rattle.std.specs.Prelude.{ℕ, ◌+◌, Bool, true, cond, leb, get_or}
use Rattle.text.specs.declared.Wording.{Wording}
use Rattle.terms.specs.declared.Luid.{Luid}
use Rattle.terms.specs.declared.Guid.{Guid}
use Rattle.terms.specs.Number.{luid, no_guid}
use Rattle.cards.specs.declared.Mark.TheVariants.{Clean}
use Rattle.cards.specs.declared.Card.{Card}
use Rattle.cards.specs.declared.Cards.{Cards}
use Rattle.cards.specs.Press.{no_card, find_card}
use Rattle.press_edits.specs.Edit.{room_for}
use Rattle.lists.specs.declared.Entry.{Entry}
use Rattle.statuses.specs.declared.Name.{Name}
use Rattle.statuses.specs.declared.Name.TheVariants.{Delete, Replace, Add}
use Rattle.statuses.specs.Status.{name_of, empty_status, replaced, added}
use Rattle.card_moves.specs.Moves.{with_card, without_card}

-- a card as it is taken from the server: clean, with a report, and with text and station of the command (02, 5)
abbrev pub taken_card : Guid → Luid → ℕ → Wording → Card
taken_card g l fp w = record { mark = Clean; luid = l; fp = fp; report = record { on = true; guid = g; luid = l; fp = fp }; wording = w }

-- ---- each command: what becomes of the cards, and the answer by its CmdRef
-- Delete: removes the card, 200; absent: nothing changes, 211
abbrev pub at_delete : Cards → Option ℕ → Cards × (ℕ → Entry)
at_delete c None = (c, λ ref. empty_status ref Delete 211)
at_delete c (Some i) = (without_card c i, λ ref. empty_status ref Delete 200)

-- Replace: takes the text and its station, with a new fingerprint and a report without GUID, 200 with LUID and fingerprint; absent: nothing changes, 404;
-- no fingerprint left: nothing changes, 420
abbrev pub no_fingerprint : Cards → Bool
no_fingerprint c = leb 4294967295 c.fp

abbrev pub with_replaced : Entry → Cards → ℕ → Cards
with_replaced o c i =
    let t = with_card c i (taken_card no_guid (get_or c.places i no_card).luid (c.fp + 1) o.wording) in
    record { used = t.used; places = t.places; luid = c.luid; fp = c.fp + 1; station = c.station }

abbrev pub at_replace : Entry → Cards → Option ℕ → Cards × (ℕ → Entry)
at_replace o c None = (c, λ ref. empty_status ref Replace 404)
at_replace o c (Some i) =
    (cond (no_fingerprint c) c (with_replaced o c i), λ ref. cond (no_fingerprint c) (empty_status ref Replace 420) (replaced ref o.fields.luid (c.fp + 1)))

-- Add: makes a card, with a new LUID and fingerprint and a report with the GUID, 200 with GUID, LUID and fingerprint; no place, LUID or
-- fingerprint left (`room_for`): nothing changes, 420
abbrev pub with_added : Entry → Cards → ℕ → Cards
with_added o c i =
    let t = with_card c i (taken_card o.fields.guid (luid (c.luid + 1)) (c.fp + 1) o.wording) in
    record { used = t.used; places = t.places; luid = c.luid + 1; fp = c.fp + 1; station = c.station }

abbrev pub at_add : Entry → Cards → Option ℕ → Cards × (ℕ → Entry)
at_add o c None = (c, λ ref. empty_status ref Add 420)
at_add o c (Some i) = (with_added o c i, λ ref. added ref o.fields.guid (luid (c.luid + 1)) (c.fp + 1))

-- ---- the cards, and the answers, by themselves
abbrev pub delete_at : Cards → Option ℕ → Cards
delete_at c w = (at_delete c w).0

abbrev pub delete_answer : ℕ → Cards → Option ℕ → Entry
delete_answer ref c w = (at_delete c w).1 ref

abbrev pub replace_at : Entry → Cards → Option ℕ → Cards
replace_at o c w = (at_replace o c w).0

abbrev pub replace_answer : ℕ → Entry → Cards → Option ℕ → Entry
replace_answer ref o c w = (at_replace o c w).1 ref

abbrev pub add_at : Entry → Cards → Option ℕ → Cards
add_at o c w = (at_add o c w).0

abbrev pub add_answer : ℕ → Entry → Cards → Option ℕ → Entry
add_answer ref o c w = (at_add o c w).1 ref

-- ---- a command by its name
-- the place that it is for: that of its card; for an Add that of a new card
abbrev pub place_for : Name → Entry → Cards → Option ℕ
place_for Delete o c = find_card c o.fields.luid
place_for Replace o c = find_card c o.fields.luid
place_for Add o c = room_for c

-- what it does there, and the answer
abbrev pub command_at : Name → Entry → Cards → Option ℕ → Cards × (ℕ → Entry)
command_at Delete o c w = at_delete c w
command_at Replace o c w = at_replace o c w
command_at Add o c w = at_add o c w

abbrev pub after_command_by : Name → Entry → Cards → Cards
after_command_by m o c = (command_at m o c (place_for m o c)).0

abbrev pub answering_by : Name → ℕ → Entry → Cards → Entry
answering_by m ref o c = (command_at m o c (place_for m o c)).1 ref

unfoldable pub after_command : Entry → Cards → Cards
after_command o c = after_command_by (name_of o.fields.kind) o c

unfoldable pub answering : ℕ → Entry → Cards → Entry
answering ref o c = answering_by (name_of o.fields.kind) ref o c
