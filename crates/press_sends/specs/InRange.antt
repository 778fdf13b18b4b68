-- A press whose numbers have their ranges (01, "The two tables" and "Written form").
use Rattle.std.specs.Prelude.{◌≤◌, ◌≡◌, true}
use Rattle.places.specs.Table.{Each}
use Rattle.terms.specs.declared.Guid.{Guid}
use Rattle.cards.specs.declared.Card.{Card}
use Rattle.cards.specs.declared.Cards.{Cards}
use Rattle.cards.specs.declared.Press.{Press}
use Rattle.cards.specs.Press.{no_card, WellFormed}
use Rattle.sendable.specs.Sendable.{InRange, Fingerprint, Number}

-- a GUID, or none (0)
abbrev pub GuidOrNone : Guid → Type 0
GuidOrNone g = InRange 0 65535 g.0

-- a report that a card or delete mark carries: server number or none, and the fingerprint at which the server's version was taken
abbrev pub ReportInRange : Card → Type 0
ReportInRange x = x.report.on ≡ true → GuidOrNone x.report.guid × Fingerprint x.report.fp

-- the table: LUIDs to 65535, fingerprints to 4294967295
pub record CardsInRange (c : Cards) : Type 0 where
  pub luid : c.luid ≤ 65535
  pub fp : c.fp ≤ 4294967295
  pub reports : Each ReportInRange no_card c.used c.places

-- the press: its table is well-formed (so LUIDs and fingerprints start at 1, and texts keep the text rule), anchor and session number are 1 to 4294967295
pub record PressInRange (p : Press) : Type 0 where
  pub formed : WellFormed p.cards
  pub cards : CardsInRange p.cards
  pub anchor : Number p.anchor
  pub session : Number p.session
