-- What holds between a press and a server at every moment, between sessions and after every single step of one: the invariant of demand 3.
-- It speaks of one entry (a card or delete mark of the press) and one record at a time. Definitions only.
use Prim.Native.Nat.{ℕ, ◌≤◌}
use mathlib.Core.Path.{◌≡◌}
use mathlib.Core.Bool.{Bool, true, false, cond, ◌&&◌}
use Rattle.places.specs.Act.{Slot, holds}
use Rattle.places.proofs.Views.{view}
use Rattle.lists.specs.declared.Entry.{Entry}
use Rattle.cards.specs.declared.Mark as card
use Rattle.cards.specs.declared.Card.{Card}
use Rattle.cards.specs.declared.Cards.{Cards}
use Rattle.cards.specs.Press as press
use Rattle.records.specs.declared.Mark as rec
use Rattle.records.specs.declared.Record.{Record}
use Rattle.records.specs.declared.Records.{Records}
use Rattle.record_moves.specs.Named.{is_paired, has_luid, is_named, Safe}
use Rattle.card_moves.specs.Moves as moves
use Rattle.server_reports.specs.Step1.{named_by, told}
use Rattle.server_each.proofs.EachRecord.{record_at}
use Rattle.press_tells.specs.Tell.{is_added, report_of}

-- what place i of the press holds
abbrev pub card_at : Cards → ℕ → Slot Card
card_at c i = view press.no_card (moves.table_of c) i

-- the report of the entry x as Pkg 3 tells it, and whether it names the record y
abbrev pub report_in : Card → Entry
report_in x = report_of x.report

unfoldable pub tells_of : Card → Record → Bool
tells_of x y = x.report.on && is_named (named_by (report_in x)) y

-- the record y once the server has heard the report of x (as it is, where x has none, or one that does not name y, or a late one)
unfoldable pub heard : Card → Record → Record
heard x y = cond (tells_of x y) (told (report_in x) y) y

-- y is then the record of x
abbrev pub IsOf : Card → Record → Type 0
IsOf x y = has_luid x.luid (heard x y) ≡ true

-- ---- what the server knows of the card x is not above its fingerprint; all of it, if the card is clean; and then the texts agree, unless the
-- server has something newer
pub record Agrees (x : Card) (y : Record) : Type 0 where
  pub below : y.pairing.known ≤ x.fp
  pub clean : x.mark ≡ card.Mark.Clean → y.pairing.known ≡ x.fp
  pub wording : y.pairing.known ≡ x.fp → y.pairing.mark ≡ rec.Mark.Clean → y.wording ≡ x.wording

-- x has a report with GUID
pub record FromServer (x : Card) : Type 0 where
  pub on : x.report.on ≡ true
  pub given : x.report.guid.0 ≡ 0 → ⊥

-- ---- an entry and a record
pub record Pair (x : Card) (y : Record) : Type 0 where
  -- the record that a report names by GUID has the entry's LUID or none; and no other record has that LUID
  pub own : FromServer x → y.guid.0 ≡ x.report.guid.0 → is_paired y ≡ true → has_luid x.luid y ≡ true
  pub sole : FromServer x → has_luid x.luid y ≡ true → y.guid.0 ≡ x.report.guid.0
  pub agrees : press.is_live x.mark ≡ true → IsOf x y → Agrees x (heard x y)

-- ---- an entry, a record by itself
pub record EntryOK (s : Records) (x : Card) : Type 0 where
  -- an added card has no report
  pub bare : is_added x.mark ≡ true → x.report.on ≡ false
  -- a report is not newer than its entry, and names a GUID that was given
  pub older : x.report.on ≡ true → x.report.fp ≤ x.fp
  pub known : x.report.on ≡ true → x.report.guid.0 ≤ s.guid

pub record RecordOK (c : Cards) (y : Record) : Type 0 where
  -- an unpaired record is never clean
  pub unclean : is_paired y ≡ false → y.pairing.mark ≡ rec.Mark.Clean → ⊥
  pub low : y.pairing.luid.0 ≤ c.luid
  pub known : y.pairing.known ≤ c.fp

-- the card has a record
pub record Recorded (s : Records) (x : Card) : Type 0 where
  pub place : ℕ
  pub record' : Record
  pub here : record_at s place ≡ holds record'
  pub is : IsOf x record'

-- the record has an entry
pub record Owned (c : Cards) (y : Record) : Type 0 where
  pub place : ℕ
  pub card : Card
  pub here : card_at c place ≡ holds card
  pub is : has_luid (card).luid y ≡ true

-- ---- the invariant
pub record Invariant (c : Cards) (s : Records) : Type 0 where
  pub formed : press.WellFormed c
  pub safe : Safe s
  pub entries : (i : ℕ) (x : Card) → card_at c i ≡ holds x → EntryOK s x
  pub records : (j : ℕ) (y : Record) → record_at s j ≡ holds y → RecordOK c y
  pub pairs : (i : ℕ) (x : Card) → card_at c i ≡ holds x → (j : ℕ) (y : Record) → record_at s j ≡ holds y → Pair x y
  -- no two reports name one GUID
  pub guids : (i k : ℕ) (x z : Card) → card_at c i ≡ holds x → card_at c k ≡ holds z → FromServer x → FromServer z → x.report.guid.0 ≡ z.report.guid.0 → i ≡ k
  pub recorded : (i : ℕ) (x : Card) → card_at c i ≡ holds x → press.is_live x.mark ≡ true → is_added x.mark ≡ false → Recorded s x
  pub owned : (j : ℕ) (y : Record) → record_at s j ≡ holds y → is_paired y ≡ true → (y.pairing.mark ≡ rec.Mark.Deleted → ⊥) → Owned c y
