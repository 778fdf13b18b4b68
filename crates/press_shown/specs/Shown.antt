-- What programs in C and Rust are shown of the press: a card by its place, and how many changes a message has.
use Rattle.std.specs.Prelude.{Option, None, Some, Result, Ok, Err}
use Rattle.std.specs.Prelude.{ℕ, cond, List, [], ◌∷◌, leb, get_or}
use Rattle.places.specs.Set.{all_places, in_use}
use Rattle.cards.specs.declared.Card.{Card}
use Rattle.cards.specs.declared.Cards.{Cards}
use Rattle.cards.specs.declared.Press.{Press}
use Rattle.cards.specs.Press.{no_card}
use Rattle.message_changes.specs.Shown as panel
use Rattle.message_changes.specs.declared.Shown.{Shown as CodeShown}
use Rattle.image.specs.OnImage.{no_image}
use Rattle.image.specs.Shown.{Shown, shown}
use Rattle.press_image.specs.Image.{on_byte, mark_byte}

-- ---- a card or delete mark: LUID, fingerprint; the report's GUID, LUID and fingerprint, and whether there is one; mark, station, length of the text
abbrev pub numbers_with : Card → ℕ → ℕ → ℕ → ℕ → List ℕ
numbers_with x reported mark station length =
    x.luid.0 ∷ x.fp ∷ x.report.guid.0 ∷ x.report.luid.0 ∷ x.report.fp ∷ reported ∷ mark ∷ station ∷ length ∷ []

abbrev pub card_numbers : Card → List ℕ
card_numbers x = numbers_with x (on_byte x.report.on) (mark_byte x.mark) x.wording.station x.wording.text.len

-- the one in a place; 3 where the place is free or there is none, 10 where there is no image
abbrev pub place_shown : Cards → ℕ → List ℕ → List ℕ → Shown
place_shown c i ns t =
    cond (leb all_places i) (shown 3 ns t) (cond (in_use c.used i) (shown 0 (card_numbers (get_or c.places i no_card)) (get_or c.places i no_card).wording.text.bytes) (shown 3 ns t))

abbrev pub card_shown_in : Option Press → ℕ → List ℕ → List ℕ → Shown
card_shown_in None i ns t = shown no_image ns t
card_shown_in (Some p) i ns t = place_shown p.cards i ns t

-- ---- a message: its package, whether it has a number of changes, and that number; or the refusal
abbrev pub changes_shown : panel.Shown → List ℕ → Shown
changes_shown (panel.Changes k n) ns = shown 0 (k ∷ 1 ∷ n ∷ []) []
changes_shown (panel.Package k) ns = shown 0 (k ∷ 0 ∷ 0 ∷ []) []
changes_shown (panel.Refused n) ns = shown n ns []

-- as the code is given it: a refusal by its number, whatever number that is
abbrev pub shown_by : Result CodeShown ℕ → panel.Shown
shown_by (Ok x) = panel.shown_with x.«package» x.changes
shown_by (Err n) = panel.Refused n
