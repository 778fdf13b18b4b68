-- What no message breaks, from whomever it comes and whatever output is lent: no course is needed for it.
use Rattle.std.specs.Prelude.{ℕ, ◌≡◌, List}
use Rattle.terms.specs.declared.Luid.{Luid}
use Rattle.terms.specs.declared.Guid.{Guid}
use Rattle.cards.specs.declared.Press.{Press}
use Rattle.cards.specs.Press.{WellFormed}
use Rattle.records.specs.declared.Server.{Server}
use Rattle.record_moves.specs.Named.{Safe}
use Rattle.press_calls.specs.Call.{press_takes}
use Rattle.server_calls.specs.Call.{server_takes}
use Rattle.demand3.specs.Demand3.{PairedWith}

-- the server's table stays safe (well-formed, and no LUID in two records), the press's well-formed
abbrev pub ServerStaysSafe : Type 0
ServerStaysSafe = (s : Server) → Safe s.records → (m out : List ℕ) → Safe (server_takes s m out).side.records

abbrev pub PressStaysFormed : Type 0
PressStaysFormed = (p : Press) → WellFormed p.cards → (m out : List ℕ) → WellFormed (press_takes p m out).side.cards

-- and the press's own number is as it was (02, 5)
abbrev pub PressKeepsNumber : Type 0
PressKeepsNumber = (p : Press) (m out : List ℕ) → (press_takes p m out).side.cards.station ≡ p.cards.station

-- and the server's rule for two edits of one card (02, 7)
abbrev pub ServerKeepsRule : Type 0
ServerKeepsRule = (s : Server) (m out : List ℕ) → (server_takes s m out).side.rule ≡ s.rule

-- so no message makes two records of the server have one LUID
abbrev pub NoLuidTwice : Type 0
NoLuidTwice =
    (s : Server) → Safe s.records → (m out : List ℕ) (g h : Guid) (l : Luid)
    → PairedWith (server_takes s m out).side g l → PairedWith (server_takes s m out).side h l → g ≡ h
