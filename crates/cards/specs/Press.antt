-- The press's table (01, "The two tables").
use Rattle.std.specs.Prelude.{Option, Result, Ok, Err}
use Rattle.std.specs.Prelude.{ℕ, ◌≤◌, ◌≡◌, Bool, true, false, cond, ◌&&◌, [], replicate, eqb}
use Rattle.text.specs.Wording.{server_station, last_station, no_wording, IsWording}
use Rattle.places.specs.Set.{all_places, in_use}
use Rattle.places.specs.First.{first_from}
use Rattle.places.specs.Table.{entry_found, Sound, Each}
use Rattle.terms.specs.declared.Luid.{Luid}
use Rattle.terms.specs.Number.{no_luid, no_guid}
use Rattle.terms.specs.declared.Refusal.{Refusal}
use Rattle.terms.specs.Refusal.{number_of}
use Rattle.cards.specs.declared.Mark.{Mark}
use Rattle.cards.specs.declared.Mark.TheVariants.{Clean, Added, Changed, Deleted}
use Rattle.cards.specs.declared.Report.{Report}
use Rattle.cards.specs.declared.Card.{Card}
use Rattle.cards.specs.declared.Cards.{Cards}
use Rattle.cards.specs.declared.Awaits.{Awaits}
use Rattle.cards.specs.declared.Press.{Press}
use Rattle.cards.specs.Made.{Made, Done, Refused, Fresh}

-- ---- fresh: 32 free places, no LUID and no fingerprint given; anchor and last session number start at 1; closed; its number is fixed (02, 5)
abbrev pub no_report : Report
no_report = record { on = false; guid = no_guid; luid = no_luid; fp = 0 }

abbrev pub blank_card : Card
blank_card = record { mark = Clean; luid = no_luid; fp = 0; report = no_report; wording = no_wording }

abbrev pub fresh_press : ℕ → Press
fresh_press station =
    record {
      cards = record { used = 0; places = replicate all_places blank_card; luid = 0; fp = 0; station = station };
      anchor = 1;
      session = 1;
      awaits = Awaits.Nothing;
    }

-- a press is made as one of the stations 1 to 255: 4 for 0, the server's (a byte is not above 255)
unfoldable pub made_for : ℕ → Made
made_for station = cond (eqb station server_station) (Refused 4) Done

abbrev pub press_fresh : ℕ → Fresh
press_fresh station = record { outcome = made_for station; press = fresh_press station }

-- the same by whether a press was made
abbrev pub as_fresh : ℕ → Result Press Refusal → Fresh
as_fresh station (Ok p) = record { outcome = Done; press = p }
as_fresh station (Err r) = record { outcome = Refused (number_of r); press = fresh_press station }

-- open: a package is awaited
abbrev pub is_open : Awaits → Bool
is_open Awaits.Nothing = false
is_open Awaits.Two = true
is_open (Awaits.Four m) = true
is_open Awaits.Six = true

-- giving up a session: only the open state changes
abbrev pub press_gives_up : Press → Press
press_gives_up p = record { cards = p.cards; anchor = p.anchor; session = p.session; awaits = Awaits.Nothing }

-- ---- the card of a number
-- a delete mark is no card
abbrev pub is_live : Mark → Bool
is_live Clean = true
is_live Added = true
is_live Changed = true
is_live Deleted = false

abbrev pub is_card : Luid → Card → Bool
is_card l x = is_live x.mark && eqb x.luid.0 l.0

-- (what `get_or` gives past the end of the places: no rule uses it)
abbrev pub no_card : Card
no_card = record { mark = Clean; luid = no_luid; fp = 0; report = no_report; wording = record { text = record { len = 0; bytes = [] }; station = 0 } }

-- place i is in use and holds the card
abbrev pub wanted : ℕ → Luid → ℕ → Card → Bool
wanted used l i x = in_use used i && is_card l x

unfoldable pub find_card : Cards → Luid → Option ℕ
find_card c l = first_from (wanted c.used l) 0 c.places

-- the card itself, or none
abbrev pub card_of : Cards → Luid → Option Card
card_of c l = entry_found no_card c.places (find_card c l)

-- ---- well-formed: what a fresh press has and every call keeps
abbrev pub luid_of : Card → ℕ
luid_of x = x.luid.0

-- a card's fingerprint was given, its text keeps the text rule and its station is one, and a report that it carries has its LUID
abbrev pub FineCard : ℕ → Card → Type 0
FineCard fp x = (1 ≤ x.fp) × (x.fp ≤ fp) × IsWording x.wording × (x.report.on ≡ true → x.report.luid ≡ x.luid)

pub record WellFormed (c : Cards) : Type 0 where
  -- the press's number is a station
  pub station : c.station ≤ last_station
  -- 32 places; the LUIDs in use were given and stand once
  pub luids : Sound luid_of no_card c.used c.places c.luid
  pub cards : Each (FineCard c.fp) no_card c.used c.places
