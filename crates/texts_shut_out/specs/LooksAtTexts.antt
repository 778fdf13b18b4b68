-- Sides that look at texts, in one table, each with two courses that differ only in the texts and do not go the same way (02, 10).
-- Each is the two right sides with one rule changed; those that pair by text are crates/shut_out's (Shortcuts.antt).
use Rattle.std.specs.Prelude.{Option, Some, None}
use Rattle.std.specs.Prelude.{ℕ, Bool, cond, ◌&&◌, List, [], ◌∷◌, get_or}
use Rattle.places.specs.Rising.{rising}
use Rattle.terms.specs.Number.{luid, guid}
use Rattle.records.specs.declared.Record.{Record}
use Rattle.records.specs.declared.Records.{Records}
use Rattle.records.specs.declared.Rule.{Rule}
use Rattle.records.specs.declared.Rule.TheVariants.{PressWins}
use Rattle.records.specs.Server.{no_record}
use Rattle.lists.specs.declared.Entry.{Entry}
use Rattle.message.specs.declared.Content.{Content}
use Rattle.statuses.specs.Status.{name_of, empty_status}
use Rattle.packages.specs.Package.{packed, answers_in, commands_in}
use Rattle.record_moves.specs.Named.{with_record, place_of}
use Rattle.server_reports.specs.Step1.{reported}
use Rattle.server_changes.specs.Step4.{changed, changed_code, paired, change, change_status}
use Rattle.server_offers.specs.Offer.{is_waiting}
use Rattle.calls.specs.Says.{Says, sends, done, refuses, Called}
use Rattle.course.specs.Course.{Sides, press_adds, press_edits, server_adds, server_edits, Doing, alone, full}
use Rattle.course.specs.OnContent.{on_content}
use Rattle.shut_out.specs.Shortcuts.{with_rules, same_text, pairs_by_text, joins_by_text, press_pairs_by_text}
use Rattle.shut_out.specs.Faults.{brown, blue, black}

-- ---- the server: both sides have changed a card to the same text, so there is nothing to settle. The press's is taken, 200, whatever the rule
abbrev pub alike : Entry → Record → Bool
alike c x = is_waiting x.pairing.mark && same_text x.wording.text c.wording.text

abbrev pub settled_at : Rule → Entry → Records → Option ℕ → Records
settled_at rule c s None = change rule c s
settled_at rule c s (Some i) =
    let x = get_or s.places i no_record in
    with_record s i (cond (alike c x) (changed PressWins c x) (changed rule c x))

abbrev pub settled_status_at : Rule → ℕ → Entry → Records → Option ℕ → Entry
settled_status_at rule ref c s None = change_status rule ref c s
settled_status_at rule ref c s (Some i) =
    let x = get_or s.places i no_record in
    empty_status ref (name_of c.fields.kind) (cond (alike c x) 200 (changed_code rule c x))

abbrev pub settles_equal : Sides Content
settles_equal =
    with_rules
    (record {
      reports = reported;
      change = λ rule c s. settled_at rule c s (place_of s (paired c));
      change_status = λ rule ref c s. settled_status_at rule ref c s (place_of s (paired c));
    })

-- ---- either side: its commands stand by the rising length of their texts
abbrev pub by_length : Entry → ℕ
by_length e = e.wording.text.len

abbrev pub ordered : Content → Content
ordered x = packed x.head (answers_in x) (rising by_length (commands_in x))

abbrev pub says_ordered : Says Content → Says Content
says_ordered (sends x) = sends (ordered x)
says_ordered done = done
says_ordered (refuses n) = refuses n

abbrev pub called_ordered : {S : Type 0} → Called S Content → Called S Content
called_ordered c = record { side = c.side; says = says_ordered c.says }

abbrev pub tells_by_text : Sides Content
tells_by_text = record { start = on_content.start; press_takes = λ p x. called_ordered (on_content.press_takes p x); server_takes = on_content.server_takes; by_hand = λ x. x }

abbrev pub offers_by_text : Sides Content
offers_by_text = record { start = on_content.start; press_takes = on_content.press_takes; server_takes = λ s x. called_ordered (on_content.server_takes s x); by_hand = λ x. x }

-- ---- the table
pub record Wrong : Type 0 where
  pub sides : Sides Content
  pub one : List Doing
  pub other : List Doing

abbrev pub wrong : Sides Content → List Doing → List Doing → Wrong
wrong s ds es = record { sides = s; one = ds; other = es }

-- each side adds a card; both change one card; a side adds two cards
abbrev pub one_each : List ℕ → List ℕ → List Doing
one_each t u = alone (press_adds t) ∷ alone (server_adds u) ∷ full ∷ []

abbrev pub both_change : List ℕ → List ℕ → List Doing
both_change t u = alone (press_adds brown) ∷ full ∷ alone (press_edits (luid 1) t) ∷ alone (server_edits (guid 1) u) ∷ full ∷ []

abbrev pub two_at_press : List ℕ → List ℕ → List Doing
two_at_press t u = alone (press_adds t) ∷ alone (press_adds u) ∷ full ∷ []

abbrev pub two_at_server : List ℕ → List ℕ → List Doing
two_at_server t u = alone (server_adds t) ∷ alone (server_adds u) ∷ full ∷ []

abbrev pub wrong_sides : List Wrong
wrong_sides =
    -- a card and a record of equal text are taken for one
    wrong joins_by_text (one_each brown brown) (one_each brown blue)
    ∷ wrong pairs_by_text (one_each brown brown) (one_each brown blue)
    ∷ wrong press_pairs_by_text (one_each brown brown) (one_each brown blue)
    -- the code is 200 where the texts are equal, 208 where they are not
    ∷ wrong settles_equal (both_change blue blue) (both_change blue black)
    -- the package is refused, 8, where the texts do not rise with the numbers
    ∷ wrong tells_by_text (two_at_press blue brown) (two_at_press brown blue)
    ∷ wrong offers_by_text (two_at_server blue brown) (two_at_server brown blue)
    ∷ []
