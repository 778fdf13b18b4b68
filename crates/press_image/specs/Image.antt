-- The press as bytes that a store keeps: fixed places, numbers of four bytes with the lowest first, and a sum over all of it at the end.
use Rattle.std.specs.Prelude.{ℕ, ◌+◌, ◌≡◌, Bool, cond, List, [], ◌∷◌, ◌++◌, eqb, length, get_or, take, drop}
use Rattle.places.specs.Set.{all_places}
use Rattle.places.specs.Every.{Every}
use Rattle.text.specs.Text.{longest}
use Rattle.terms.specs.declared.Mode.TheVariants.{Normal, Recovery}
use Rattle.terms.specs.Number.{luid, guid}
use Rattle.cards.specs.declared.Mark.{Mark}
use Rattle.cards.specs.declared.Mark.TheVariants.{Clean, Added, Changed, Deleted}
use Rattle.cards.specs.declared.Card.{Card}
use Rattle.cards.specs.declared.Awaits.{Awaits}
use Rattle.cards.specs.declared.Press.{Press}
use Rattle.image.specs.Four.{four, fours, four_in, flat, each_at, Fits}
use Rattle.image.specs.Sum.{sum_of}
use Rattle.image.specs.Keeping.{Keeping}
use Rattle.press_range.specs.Range.{press_in_range}

abbrev pub head_size : ℕ
head_size = 28

abbrev pub card_size : ℕ
card_size = 48

abbrev pub image_size : ℕ
image_size = 1568

-- the letters LmP, and with the digit 1, the number of the form, after them
abbrev pub press_letters : ℕ
press_letters = 5270860

abbrev pub press_form : ℕ
press_form = 827354444

-- ---- what is no number, as a byte
abbrev pub on_byte : Bool → ℕ
on_byte on = cond on 1 0

abbrev pub mark_byte : Mark → ℕ
mark_byte Clean = 0
mark_byte Added = 1
mark_byte Changed = 2
mark_byte Deleted = 3

abbrev pub mark_of : ℕ → Mark
mark_of b = cond (eqb b 0) Clean (cond (eqb b 1) Added (cond (eqb b 2) Changed Deleted))

abbrev pub awaits_byte : Awaits → ℕ
awaits_byte Awaits.Nothing = 0
awaits_byte Awaits.Two = 1
awaits_byte (Awaits.Four Normal) = 2
awaits_byte (Awaits.Four Recovery) = 3
awaits_byte Awaits.Six = 4

abbrev pub awaits_of : ℕ → Awaits
awaits_of b = cond (eqb b 0) Awaits.Nothing (cond (eqb b 1) Awaits.Two (cond (eqb b 2) (Awaits.Four Normal) (cond (eqb b 3) (Awaits.Four Recovery) Awaits.Six)))

-- ---- a place: 48 bytes
abbrev pub card_bytes : Card → List ℕ
card_bytes x =
    fours (x.luid.0 ∷ x.fp ∷ x.report.guid.0 ∷ x.report.luid.0 ∷ x.report.fp ∷ [])
    ++ ((on_byte x.report.on ∷ mark_byte x.mark ∷ x.wording.text.len ∷ x.wording.station ∷ []) ++ x.wording.text.bytes)

unfoldable pub card_in : List ℕ → ℕ → Card
card_in s at =
    record {
      luid = luid (four_in s at);
      fp = four_in s (at + 4);
      report = record { on = eqb (get_or s (at + 20) 0) 1; guid = guid (four_in s (at + 8)); luid = luid (four_in s (at + 12)); fp = four_in s (at + 16) };
      wording = record { text = record { len = get_or s (at + 22) 0; bytes = take longest (drop (at + 24) s) }; station = get_or s (at + 23) 0 };
      mark = mark_of (get_or s (at + 21) 0);
    }

-- ---- the places, one after the other
abbrev pub cards_bytes : List Card → List ℕ
cards_bytes xs = flat card_bytes xs

abbrev pub cards_in : List ℕ → List Card
cards_in s = each_at card_in card_size s head_size all_places

-- ---- all of it
abbrev pub head_bytes : Press → List ℕ
head_bytes p =
    fours (press_form ∷ p.cards.used ∷ p.cards.luid ∷ p.cards.fp ∷ p.anchor ∷ p.session ∷ []) ++ (p.cards.station ∷ awaits_byte p.awaits ∷ 0 ∷ 0 ∷ [])

unfoldable pub body_of : Press → List ℕ
body_of p = head_bytes p ++ cards_bytes p.cards.places

unfoldable pub image_of : Press → List ℕ
image_of p = body_of p ++ four (sum_of (body_of p))

unfoldable pub press_in : List ℕ → Press
press_in s =
    record {
      cards = record { used = four_in s 4; places = cards_in s; luid = four_in s 8; fp = four_in s 12; station = get_or s 24 0 };
      anchor = four_in s 16;
      session = four_in s 20;
      awaits = awaits_of (get_or s 25 0);
    }

abbrev pub press_keeping : Keeping Press
press_keeping = record { size = image_size; image_of = image_of; side_in = press_in; in_range = press_in_range }

-- ---- what a press as the code has it always is: numbers of 32 bits, 32 places, texts of 24 bytes with what stands after them
pub record StorableCard (x : Card) : Type 0 where
  pub luid : Fits x.luid.0
  pub fp : Fits x.fp
  pub report_guid : Fits x.report.guid.0
  pub report_luid : Fits x.report.luid.0
  pub report_fp : Fits x.report.fp
  pub text : length x.wording.text.bytes ≡ longest

pub record StorableHead (p : Press) : Type 0 where
  pub used : Fits p.cards.used
  pub luid : Fits p.cards.luid
  pub fp : Fits p.cards.fp
  pub anchor : Fits p.anchor
  pub session : Fits p.session

pub record Storable (p : Press) : Type 0 where
  pub head : StorableHead p
  pub cards : Every StorableCard p.cards.places
  pub long : length p.cards.places ≡ all_places
