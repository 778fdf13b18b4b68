-- Tests of equality for all that a side or a package is made of. Assumes nothing.
use Prim.Native.Nat.{ℕ}
use mathlib.Core.Path.{◌≡◌, refl}
use mathlib.Core.Bool.{Bool, true, false, cond}
use mathlib.Core.List.{List, [], ◌∷◌}
use lib.Dec.{eqb}
use lib.ListN.{get_or}
use Rattle.text.specs.declared.Text.{Text}
use Rattle.text.specs.declared.Wording.{Wording}
use Rattle.terms.specs.declared.Luid.{Luid}
use Rattle.terms.specs.declared.Guid.{Guid}
use Rattle.terms.specs.Number.{luid, guid}
use Rattle.terms.specs.declared.Mode.{Mode}
use Rattle.terms.specs.declared.Mode.TheVariants.{Normal, Recovery}
use Rattle.cards.specs.declared.Mark as card
use Rattle.cards.specs.declared.Report.{Report}
use Rattle.cards.specs.declared.Card.{Card}
use Rattle.cards.specs.declared.Cards.{Cards}
use Rattle.cards.specs.declared.Awaits as press
use Rattle.cards.specs.declared.Press.{Press}
use Rattle.records.specs.declared.Mark as rec
use Rattle.records.specs.declared.Pairing.{Pairing}
use Rattle.records.specs.declared.Record.{Record}
use Rattle.records.specs.declared.Records.{Records}
use Rattle.records.specs.declared.Rule.{Rule}
use Rattle.records.specs.declared.Rule.TheVariants.{PressWins, ServerWins}
use Rattle.records.specs.declared.Awaits as server
use Rattle.records.specs.declared.Link.{Link}
use Rattle.records.specs.declared.Server.{Server}
use Rattle.elements.specs.declared.Head.{Head}
use Rattle.elements.specs.declared.Fields.{Fields}
use Rattle.elements.specs.declared.End.{End}
use Rattle.lists.specs.declared.Entry.{Entry}
use Rattle.message.specs.declared.Content.{Content}
use Rattle.bench_table.proofs.Same.{Same, number, both, list, by}

-- ---- what both tables speak of
abbrev pub same_luid : Same Luid
same_luid = by (λ x. x.0) luid (λ x. refl) number

abbrev pub same_guid : Same Guid
same_guid = by (λ x. x.0) guid (λ x. refl) number

abbrev pub same_text : Same Text
same_text = by (λ x. (x.len, x.bytes)) (λ y. record { len = y.0; bytes = y.1 }) (λ x. refl) (both number (list number))

abbrev pub same_wording : Same Wording
same_wording = by (λ x. (x.text, x.station)) (λ y. record { text = y.0; station = y.1 }) (λ x. refl) (both same_text number)

-- (an enum by numbers)
abbrev pub bool_no : Bool → ℕ
bool_no false = 0
bool_no true = 1

abbrev pub bool_at : ℕ → Bool
bool_at n = eqb n 1

pub bool_undone : (b : Bool) → bool_at (bool_no b) ≡ b
bool_undone false = refl
bool_undone true = refl

abbrev pub same_bool : Same Bool
same_bool = by bool_no bool_at bool_undone number

abbrev pub mode_no : Mode → ℕ
mode_no Normal = 0
mode_no Recovery = 1

abbrev pub mode_at : ℕ → Mode
mode_at n = cond (eqb n 0) Normal Recovery

-- ---- the press
abbrev pub card_mark_no : card.Mark → ℕ
card_mark_no card.Mark.Clean = 0
card_mark_no card.Mark.Added = 1
card_mark_no card.Mark.Changed = 2
card_mark_no card.Mark.Deleted = 3

abbrev pub card_mark_at : ℕ → card.Mark
card_mark_at n = get_or (card.Mark.Clean ∷ card.Mark.Added ∷ card.Mark.Changed ∷ card.Mark.Deleted ∷ []) n card.Mark.Clean

pub card_mark_undone : (m : card.Mark) → card_mark_at (card_mark_no m) ≡ m
card_mark_undone card.Mark.Clean = refl
card_mark_undone card.Mark.Added = refl
card_mark_undone card.Mark.Changed = refl
card_mark_undone card.Mark.Deleted = refl

abbrev pub same_report : Same Report
same_report =
    by (λ x. (x.on, (x.guid, (x.luid, x.fp)))) (λ y. record { on = y.0; guid = y.1.0; luid = y.1.1.0; fp = y.1.1.1 }) (λ x. refl)
    (both same_bool (both same_guid (both same_luid number)))

abbrev pub same_card : Same Card
same_card =
    by (λ x. (x.mark, (x.luid, (x.fp, (x.report, x.wording)))))
    (λ y. record { mark = y.0; luid = y.1.0; fp = y.1.1.0; report = y.1.1.1.0; wording = y.1.1.1.1 })
    (λ x. refl)
    (both (by card_mark_no card_mark_at card_mark_undone number) (both same_luid (both number (both same_report same_wording))))

abbrev pub same_cards : Same Cards
same_cards =
    by (λ x. (x.used, (x.places, (x.luid, (x.fp, x.station))))) (λ y. record { used = y.0; places = y.1.0; luid = y.1.1.0; fp = y.1.1.1.0; station = y.1.1.1.1 }) (λ x. refl)
    (both number (both (list same_card) (both number (both number number))))

abbrev pub press_awaits_no : press.Awaits → ℕ
press_awaits_no press.Awaits.Nothing = 0
press_awaits_no press.Awaits.Two = 1
press_awaits_no (press.Awaits.Four Normal) = 2
press_awaits_no (press.Awaits.Four Recovery) = 3
press_awaits_no press.Awaits.Six = 4

abbrev pub press_awaits_at : ℕ → press.Awaits
press_awaits_at n =
    get_or (press.Awaits.Nothing ∷ press.Awaits.Two ∷ press.Awaits.Four Normal ∷ press.Awaits.Four Recovery ∷ press.Awaits.Six ∷ []) n press.Awaits.Nothing

pub press_awaits_undone : (a : press.Awaits) → press_awaits_at (press_awaits_no a) ≡ a
press_awaits_undone press.Awaits.Nothing = refl
press_awaits_undone press.Awaits.Two = refl
press_awaits_undone (press.Awaits.Four Normal) = refl
press_awaits_undone (press.Awaits.Four Recovery) = refl
press_awaits_undone press.Awaits.Six = refl

abbrev pub same_press : Same Press
same_press =
    by (λ x. (x.cards, (x.anchor, (x.session, x.awaits)))) (λ y. record { cards = y.0; anchor = y.1.0; session = y.1.1.0; awaits = y.1.1.1 })
    (λ x. refl)
    (both same_cards (both number (both number (by press_awaits_no press_awaits_at press_awaits_undone number))))

-- ---- the server
abbrev pub record_mark_no : rec.Mark → ℕ
record_mark_no rec.Mark.Clean = 0
record_mark_no rec.Mark.Dirty = 1
record_mark_no rec.Mark.Offered = 2
record_mark_no rec.Mark.Deleted = 3

abbrev pub record_mark_at : ℕ → rec.Mark
record_mark_at n = get_or (rec.Mark.Clean ∷ rec.Mark.Dirty ∷ rec.Mark.Offered ∷ rec.Mark.Deleted ∷ []) n rec.Mark.Clean

pub record_mark_undone : (m : rec.Mark) → record_mark_at (record_mark_no m) ≡ m
record_mark_undone rec.Mark.Clean = refl
record_mark_undone rec.Mark.Dirty = refl
record_mark_undone rec.Mark.Offered = refl
record_mark_undone rec.Mark.Deleted = refl

abbrev pub same_pairing : Same Pairing
same_pairing =
    by (λ x. (x.luid, (x.known, x.mark))) (λ y. record { luid = y.0; known = y.1.0; mark = y.1.1 }) (λ x. refl)
    (both same_luid (both number (by record_mark_no record_mark_at record_mark_undone number)))

abbrev pub same_record : Same Record
same_record =
    by (λ x. (x.guid, (x.wording, x.pairing))) (λ y. record { guid = y.0; wording = y.1.0; pairing = y.1.1 }) (λ x. refl)
    (both same_guid (both same_wording same_pairing))

abbrev pub same_records : Same Records
same_records =
    by (λ x. (x.used, (x.places, x.guid))) (λ y. record { used = y.0; places = y.1.0; guid = y.1.1 }) (λ x. refl)
    (both number (both (list same_record) number))

abbrev pub server_awaits_no : server.Awaits → ℕ × ℕ
server_awaits_no server.Awaits.Nothing = (0, 0)
server_awaits_no (server.Awaits.Three m) = (1, mode_no m)
server_awaits_no (server.Awaits.Five n) = (2, n)

abbrev pub server_awaits_at : ℕ × ℕ → server.Awaits
server_awaits_at x = cond (eqb x.0 0) server.Awaits.Nothing (cond (eqb x.0 1) (server.Awaits.Three (mode_at x.1)) (server.Awaits.Five x.1))

pub server_awaits_undone : (a : server.Awaits) → server_awaits_at (server_awaits_no a) ≡ a
server_awaits_undone server.Awaits.Nothing = refl
server_awaits_undone (server.Awaits.Three Normal) = refl
server_awaits_undone (server.Awaits.Three Recovery) = refl
server_awaits_undone (server.Awaits.Five n) = refl

abbrev pub same_link : Same Link
same_link =
    by (λ x. (x.anchor, (x.session, x.awaits))) (λ y. record { anchor = y.0; session = y.1.0; awaits = y.1.1 }) (λ x. refl)
    (both number (both number (by server_awaits_no server_awaits_at server_awaits_undone (both number number))))

abbrev pub rule_no : Rule → ℕ
rule_no PressWins = 0
rule_no ServerWins = 1

abbrev pub rule_at : ℕ → Rule
rule_at n = cond (eqb n 0) PressWins ServerWins

pub rule_undone : (r : Rule) → rule_at (rule_no r) ≡ r
rule_undone PressWins = refl
rule_undone ServerWins = refl

abbrev pub same_server : Same Server
same_server = by (λ x. (x.records, (x.link, x.rule))) (λ y. record { records = y.0; link = y.1.0; rule = y.1.1 }) (λ x. refl) (both same_records (both same_link (by rule_no rule_at rule_undone number)))

-- ---- packages
abbrev pub same_head : Same Head
same_head =
    by (λ h. h.pkg ∷ h.session ∷ h.message ∷ h.headerref ∷ h.msgref ∷ h.cmdref ∷ h.last ∷ h.next ∷ h.valid ∷ [])
    (λ l.
    record {
      pkg = get_or l 0 0;
      session = get_or l 1 0;
      message = get_or l 2 0;
      headerref = get_or l 3 0;
      msgref = get_or l 4 0;
      cmdref = get_or l 5 0;
      last = get_or l 6 0;
      next = get_or l 7 0;
      valid = get_or l 8 0;
    })
    (λ h. refl)
    (list number)

abbrev pub same_fields : Same Fields
same_fields =
    by (λ f. f.kind ∷ f.msgref ∷ f.cmdref ∷ f.cmd ∷ f.code ∷ f.guid.0 ∷ f.luid.0 ∷ f.fp ∷ [])
    (λ l.
    record {
      kind = get_or l 0 0;
      msgref = get_or l 1 0;
      cmdref = get_or l 2 0;
      cmd = get_or l 3 0;
      code = get_or l 4 0;
      guid = guid (get_or l 5 0);
      luid = luid (get_or l 6 0);
      fp = get_or l 7 0;
    })
    (λ f. refl)
    (list number)

abbrev pub same_entry : Same Entry
same_entry = by (λ x. (x.fields, x.wording)) (λ y. record { fields = y.0; wording = y.1 }) (λ x. refl) (both same_fields same_wording)

abbrev same_end : Same End
same_end = by (λ e. e.changes) (λ n. record { changes = n }) (λ e. refl) number

-- a list of a package: how many, which, and what ends them
abbrev same_list : Same (ℕ × (List Entry × End))
same_list = both number (both (list same_entry) same_end)

abbrev pub same_content : Same Content
same_content =
    by (λ x. (x.head, ((x.answered, (x.answers, x.answersend)), (x.commanded, (x.commands, x.commandsend)))))
    (λ y.
    record {
      head = y.0;
      answered = y.1.0.0;
      answers = y.1.0.1.0;
      answersend = y.1.0.1.1;
      commanded = y.1.1.0;
      commands = y.1.1.1.0;
      commandsend = y.1.1.1.1;
    })
    (λ x. refl)
    (both same_head (both same_list same_list))
