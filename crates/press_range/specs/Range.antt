-- Whether a press is in range, as a test: exactly what `PressInRange` says (press_sends, InRange.antt; the laws stand in RangeLaws.antt).
use Rattle.std.specs.Prelude.{ℕ, Bool, not, ◌&&◌, ◌||◌, eqb, leb}
use Rattle.text.specs.Wording.{last_station}
use Rattle.cards.specs.declared.Card.{Card}
use Rattle.cards.specs.declared.Cards.{Cards}
use Rattle.cards.specs.declared.Press.{Press}
use Rattle.cards.specs.Press.{luid_of}
use Rattle.ranges.specs.Range.{is_number, is_wording, once, each_used, row_of}

-- a report that a card or delete mark carries has its LUID, a GUID or none, and a fingerprint
abbrev pub fine_report : Card → Bool
fine_report x = not x.report.on || (eqb x.report.luid.0 x.luid.0 && (leb x.report.guid.0 65535 && is_number x.report.fp))

-- its LUID and its fingerprint were given, and wording and report are fine
abbrev pub fine_card : ℕ → ℕ → Card → Bool
fine_card luid fp x = leb 1 x.luid.0 && (leb x.luid.0 luid && (leb 1 x.fp && (leb x.fp fp && (is_wording x.wording && fine_report x))))

-- the table: its last numbers and its station in their ranges, each entry in use is fine, and no LUID stands twice
abbrev pub cards_in_range : Cards → Bool
cards_in_range c =
    leb c.used 4294967295
    && (leb c.station last_station
    && (leb c.luid 65535 && (leb c.fp 4294967295 && (each_used (fine_card c.luid c.fp) c.used 0 c.places && once (row_of luid_of c.used 0 c.places)))))

-- the press: anchor and session number are 1 to 4294967295
unfoldable pub press_in_range : Press → Bool
press_in_range p = is_number p.anchor && (is_number p.session && cards_in_range p.cards)
