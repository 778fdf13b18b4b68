-- Packages that may be sent: their values have their ranges (01, "Written form"), and no list has more than 32 elements (01, "Refusal numbers", row 8).
use Rattle.std.specs.Prelude.{ℕ, ◌≤◌, ◌≡◌, List, length}
use Rattle.text.specs.declared.Wording.{Wording}
use Rattle.text.specs.Wording.{IsWording}
use Rattle.terms.specs.declared.Mode.{Mode}
use Rattle.terms.specs.declared.Luid.{Luid}
use Rattle.terms.specs.declared.Guid.{Guid}
use Rattle.page.specs.declared.Kinds.{Kinds}
use Rattle.elements.specs.declared.Head.{Head}
use Rattle.elements.specs.declared.Fields.{Fields}
use Rattle.elements.specs.declared.End.{End}
use Rattle.elements.specs.Element.{head_c, element_c, end_c}
use Rattle.lists.specs.declared.Entry.{Entry}
use Rattle.lists.specs.Lists.{most_listed, entry_of}
use Rattle.message.specs.declared.Content.{Content}
use Rattle.message.specs.Message.{form_of}
use Rattle.places.specs.Every.{Every}
use Rattle.packages.specs.Package.{head1, head2, head3, head4, head5, head6, packed, answers_in, commands_in}

-- ---- "Card numbers and fingerprints have their ranges, codes 100 to 999, all other numbers 1 to 4294967295, CmdRef also 0"
abbrev pub InRange : ℕ → ℕ → ℕ → Type 0
InRange lo hi n = (lo ≤ n) × (n ≤ hi)

-- a LUID or a GUID
abbrev pub CardNumber : ℕ → Type 0
CardNumber = InRange 1 65535

abbrev pub Fingerprint : ℕ → Type 0
Fingerprint = InRange 1 4294967295

abbrev pub Code : ℕ → Type 0
Code = InRange 100 999

-- a session number, an anchor, a MsgRef, a CmdID
abbrev pub Number : ℕ → Type 0
Number = InRange 1 4294967295

abbrev pub CmdRef : ℕ → Type 0
CmdRef = InRange 0 4294967295

-- what a status answers: 2 Add, 3 Replace, 4 Delete
abbrev pub Cmd : ℕ → Type 0
Cmd = InRange 2 4

-- ---- an element by itself: kind, MsgRef, CmdRef, Cmd, Code, GUID, LUID, fingerprint
abbrev pub fields_with : ℕ → ℕ → ℕ → ℕ → ℕ → Guid → Luid → ℕ → Fields
fields_with kind msgref cmdref cmd code guid luid fp =
    record { kind = kind; msgref = msgref; cmdref = cmdref; cmd = cmd; code = code; guid = guid; luid = luid; fp = fp }

abbrev pub entry_with : Fields → Wording → Entry
entry_with f w = record { fields = f; wording = w }

-- one that a list of these kinds can hold, whatever its CmdID, with a text as it is kept and a station
abbrev pub Sendable : Kinds → Entry → Type 0
Sendable k e = ((id : ℕ) → Number id → (element_c k id).good (entry_of e)) × IsWording e.wording

-- what can end a list at line z of the page, whatever its CmdID
abbrev pub SendableEnd : ℕ → End → Type 0
SendableEnd z e = (id : ℕ) → Number id → (end_c z id).good e

-- ---- a head as a side writes it, of one of the six packages: its MsgID and MsgRefs are at most 3, and in Pkg 3 its CmdRef too
pub data OwnHead : Head → Type 0 where
  own1 : (session anchor : ℕ) → OwnHead (head1 session anchor)
  own2 : (session anchor : ℕ) (mode : Mode) → OwnHead (head2 session anchor mode)
  own3 : (session : ℕ) → OwnHead (head3 session)
  own4 : (session ref : ℕ) → OwnHead (head4 session ref)
  own5 : (session ref : ℕ) → OwnHead (head5 session ref)
  own6 : (session : ℕ) → OwnHead (head6 session)

-- ---- a package: its head, and at most 32 reports or statuses of commands and 32 commands, with what ends them
pub record SendablePackage (c : Content) : Type 0 where
  pub head : head_c.good c.head
  pub own : OwnHead c.head
  pub answers : List Entry
  pub commands : List Entry
  pub kept : c ≡ packed c.head answers commands
  pub answers_fit : length answers ≤ most_listed
  pub commands_fit : length commands ≤ most_listed
  pub answers_good : Every (Sendable (form_of c.head.pkg).answers) answers
  pub commands_good : Every (Sendable (form_of c.head.pkg).commands) commands
  pub answers_end : SendableEnd (form_of c.head.pkg).answersend c.answersend
  pub commands_end : SendableEnd (form_of c.head.pkg).commandsend c.commandsend

-- the most bytes that one has: Pkg 3 with 32 reports with GUID and 32 Replaces, where no number can have more digits and no text a longer spelling
abbrev pub longest_sent : ℕ
longest_sent = 14436

-- ---- what is read of a message, and the rules may rely on: its head, and what is kept of its lists (of each the first 33 elements), have their ranges
pub record Readable (x : Content) : Type 0 where
  pub head : head_c.good x.head
  pub answers : Every (Sendable (form_of x.head.pkg).answers) (answers_in x)
  pub commands : Every (Sendable (form_of x.head.pkg).commands) (commands_in x)
