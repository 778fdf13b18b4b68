-- Short words for what a row says: cards, records, tables, and the packages of a session (01, "The two tables" and "The six packages").
use Rattle.std.specs.Prelude.{ℕ, ◌+◌, ◌-◌, ◌^◌, true, List, [], ◌∷◌, ◌++◌, length, replicate}
use Rattle.places.specs.Set.{all_places}
use Rattle.elements.specs.Kinds.{report_with_guid, press_delete_kind, press_replace_kind, press_add_kind, server_replace_kind, server_add_kind}
use Rattle.text.specs.declared.Wording.{Wording}
use Rattle.text.specs.Wording.{server_station, signed_by, no_wording}
use Rattle.terms.specs.declared.Mode.{Mode}
use Rattle.terms.specs.declared.Mode.TheVariants.{Normal, Recovery}
use Rattle.terms.specs.declared.Luid.{Luid}
use Rattle.terms.specs.declared.Guid.{Guid}
use Rattle.terms.specs.Number.{no_luid, no_guid}
use Rattle.cards.specs.declared.Mark as card
use Rattle.cards.specs.declared.Report.{Report}
use Rattle.cards.specs.declared.Card.{Card}
use Rattle.cards.specs.declared.Cards.{Cards}
use Rattle.cards.specs.Press.{blank_card}
use Rattle.records.specs.declared.Mark as rec
use Rattle.records.specs.declared.Record.{Record}
use Rattle.records.specs.declared.Records.{Records}
use Rattle.records.specs.Server.{blank_record}
use Rattle.lists.specs.declared.Entry.{Entry}
use Rattle.message.specs.declared.Content.{Content}
use Rattle.packages.specs.Package.{head1, head2, head3, head4, head5, head6, packed}
use Rattle.press_tells.specs.Tell.{worded_as}
use Rattle.server_offers.specs.Offer as offer

-- ---- who said a text (02, 5): the press of the rows is station 7, the server's people are 0
abbrev pub press_station : ℕ
press_station = 7

abbrev pub by_press : List ℕ → Wording
by_press t = signed_by press_station t

abbrev pub by_server : List ℕ → Wording
by_server t = signed_by server_station t

-- ---- tables: these in the first places, all others free
abbrev pub first_places : ℕ → ℕ
first_places n = 2 ^ n - 1

-- the last LUID and fingerprint given, and the cards
abbrev pub cards_are : ℕ → ℕ → List Card → Cards
cards_are l fp xs = record { used = first_places (length xs); places = xs ++ replicate (all_places - length xs) blank_card; luid = l; fp = fp; station = press_station }

-- the last GUID given, and the records
abbrev pub records_are : ℕ → List Record → Records
records_are g xs = record { used = first_places (length xs); places = xs ++ replicate (all_places - length xs) blank_record; guid = g }

-- ---- a card: mark, LUID, fingerprint, report, text and station
abbrev pub card_with : card.Mark → Luid → ℕ → Report → Wording → Card
card_with m l fp r w = record { mark = m; luid = l; fp = fp; report = r; wording = w }

-- a report: server number, LUID, fingerprint
abbrev pub report_with : Guid → Luid → ℕ → Report
report_with g l fp = record { on = true; guid = g; luid = l; fp = fp }

-- ---- a record: mark, GUID, LUID or none, known fingerprint, text and station
abbrev pub record_with : rec.Mark → Guid → Luid → ℕ → Wording → Record
record_with m g l known w = record { guid = g; wording = w; pairing = record { luid = l; known = known; mark = m } }

-- ---- the press's commands: LUID, fingerprint, text and station; a report: GUID, LUID, fingerprint
abbrev pub deletes : Luid → Entry
deletes l = worded_as press_delete_kind no_guid l 0 no_wording

abbrev pub replaces : Luid → ℕ → Wording → Entry
replaces l fp w = worded_as press_replace_kind no_guid l fp w

abbrev pub adds : Luid → ℕ → Wording → Entry
adds l fp w = worded_as press_add_kind no_guid l fp w

abbrev pub tells_report : Guid → Luid → ℕ → Entry
tells_report g l fp = worded_as report_with_guid g l fp no_wording

-- ---- the server's commands: Replace names the LUID, Add the GUID
abbrev pub replaces_at_press : Luid → Wording → Entry
replaces_at_press l w = offer.worded_as server_replace_kind no_guid l w

abbrev pub adds_at_press : Guid → Wording → Entry
adds_at_press g w = offer.worded_as server_add_kind g no_luid w

-- ---- the six packages of a session. Session number n; the press's anchor, the server's anchor, the mode; Pkg 3: reports rs, commands cs;
-- Pkg 4: statuses xs, commands os; Pkg 5: statuses ys. The Sync of Pkg 3 comes after two fixed statuses and rs, that of Pkg 4 after two and xs
abbrev pub packages_of : ℕ → ℕ → ℕ → Mode → List Entry → List Entry → List Entry → List Entry → List Entry → List Content
packages_of n last anchor m rs cs xs os ys =
    packed (head1 n last) [] []
    ∷ packed (head2 n anchor m) [] []
    ∷ packed (head3 n) rs cs
    ∷ packed (head4 n (3 + length rs)) xs os
    ∷ packed (head5 n (3 + length xs)) ys []
    ∷ packed (head6 n) [] []
    ∷ []

-- both anchors say the session `last`
abbrev pub normal : ℕ → ℕ → List Entry → List Entry → List Entry → List Entry → List Entry → List Content
normal n last rs cs xs os ys = packages_of n last last Normal rs cs xs os ys

-- the anchors differ
abbrev pub recovery : ℕ → ℕ → ℕ → List Entry → List Entry → List Entry → List Entry → List Entry → List Content
recovery n last anchor rs cs xs os ys = packages_of n last anchor Recovery rs cs xs os ys
