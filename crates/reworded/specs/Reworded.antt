-- Every wording changed, and nothing else: what a card, a record or an element says (its text with its station) becomes something else, while numbers, pairs,
-- marks, fingerprints, reports, anchors, session numbers, open states, heads and codes stay. That every rule commutes with it is what
-- "the text is opaque and decides nothing" means (01, "The two tables"; 02, 10).
use Rattle.std.specs.Prelude.{ℕ, ◌≡◌, List, map}
use Rattle.text.specs.declared.Wording.{Wording}
use Rattle.text.specs.Text.{text_ok}
use Rattle.text.specs.Wording.{signed_by, no_wording}
use Rattle.cards.specs.declared.Card.{Card}
use Rattle.cards.specs.declared.Cards.{Cards}
use Rattle.cards.specs.declared.Press.{Press}
use Rattle.cards.specs.Press.{no_card}
use Rattle.records.specs.declared.Record.{Record}
use Rattle.records.specs.declared.Records.{Records}
use Rattle.records.specs.declared.Server.{Server}
use Rattle.lists.specs.declared.Entry.{Entry}
use Rattle.message.specs.declared.Content.{Content}
use Rattle.calls.specs.Says.{Says, sends, done, refuses, Called}

-- a change of wordings: any function, as long as what says nothing goes on saying nothing, which is an element without a text or a place never used
-- (`blank`), and what `get_or` gives past the end of a table (`past_end`: that of no_card and of no_record)
pub record Rewording : Type 0 where
  pub reword : Wording → Wording
  pub blank : reword no_wording ≡ no_wording
  pub past_end : reword no_card.wording ≡ no_card.wording

-- it makes u of the text t, whoever signs it; and u keeps the text rule exactly where t does
pub record RewordsText (r : Rewording) (t u : List ℕ) : Type 0 where
  pub says : (station : ℕ) → signed_by station u ≡ r.reword (signed_by station t)
  pub rule : text_ok u ≡ text_ok t

-- ---- the press
abbrev pub reword_card : Rewording → Card → Card
reword_card r x = record { mark = x.mark; luid = x.luid; fp = x.fp; report = x.report; wording = r.reword x.wording }

abbrev pub reword_cards : Rewording → Cards → Cards
reword_cards r c = record { used = c.used; places = map (reword_card r) c.places; luid = c.luid; fp = c.fp; station = c.station }

abbrev pub reword_press : Rewording → Press → Press
reword_press r p = record { cards = reword_cards r p.cards; anchor = p.anchor; session = p.session; awaits = p.awaits }

-- ---- the server
abbrev pub reword_record : Rewording → Record → Record
reword_record r x = record { guid = x.guid; wording = r.reword x.wording; pairing = x.pairing }

abbrev pub reword_records : Rewording → Records → Records
reword_records r s = record { used = s.used; places = map (reword_record r) s.places; guid = s.guid }

abbrev pub reword_server : Rewording → Server → Server
reword_server r s = record { records = reword_records r s.records; link = s.link; rule = s.rule }

-- ---- packages: a report, a status or a command; lists of them; a command with its answer; a whole package
abbrev pub reword_entry : Rewording → Entry → Entry
reword_entry r e = record { fields = e.fields; wording = r.reword e.wording }

abbrev pub reword_entries : Rewording → List Entry → List Entry
reword_entries r es = map (reword_entry r) es

abbrev pub reword_both : Rewording → Entry × Entry → Entry × Entry
reword_both r p = (reword_entry r p.0, reword_entry r p.1)

abbrev pub reword_content : Rewording → Content → Content
reword_content r x =
    record {
      head = x.head;
      answered = x.answered;
      answers = reword_entries r x.answers;
      answersend = x.answersend;
      commanded = x.commanded;
      commands = reword_entries r x.commands;
      commandsend = x.commandsend;
    }

-- ---- what a side says when it is called, and what becomes of it: the press, the server
abbrev pub reword_says : Rewording → Says Content → Says Content
reword_says r (sends x) = sends (reword_content r x)
reword_says r done = done
reword_says r (refuses n) = refuses n

abbrev pub reword_called_press : Rewording → Called Press Content → Called Press Content
reword_called_press r c = record { side = reword_press r c.side; says = reword_says r c.says }

abbrev pub reword_called_server : Rewording → Called Server Content → Called Server Content
reword_called_server r c = record { side = reword_server r c.side; says = reword_says r c.says }
