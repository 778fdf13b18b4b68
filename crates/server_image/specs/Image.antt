-- The server as bytes that a store keeps: fixed places, numbers of four bytes with the lowest first, and a sum over all of it at the end.
use Rattle.std.specs.Prelude.{ℕ, ◌+◌, ◌≡◌, cond, List, [], ◌∷◌, ◌++◌, eqb, length, get_or, take, drop}
use Rattle.places.specs.Set.{all_places}
use Rattle.places.specs.Every.{Every}
use Rattle.text.specs.Text.{longest}
use Rattle.terms.specs.declared.Mode.TheVariants.{Normal, Recovery}
use Rattle.terms.specs.Number.{luid, guid}
use Rattle.records.specs.declared.Mark.{Mark}
use Rattle.records.specs.declared.Mark.TheVariants.{Clean, Dirty, Offered, Deleted}
use Rattle.records.specs.declared.Record.{Record}
use Rattle.records.specs.declared.Rule.{Rule}
use Rattle.records.specs.declared.Rule.TheVariants.{PressWins, ServerWins}
use Rattle.records.specs.declared.Awaits.{Awaits}
use Rattle.records.specs.declared.Server.{Server}
use Rattle.image.specs.Four.{four, fours, four_in, flat, each_at, Fits}
use Rattle.image.specs.Sum.{sum_of}
use Rattle.image.specs.Keeping.{Keeping}
use Rattle.server_range.specs.Range.{server_in_range}

abbrev pub head_size : ℕ
head_size = 28

abbrev pub record_size : ℕ
record_size = 40

abbrev pub image_size : ℕ
image_size = 1312

-- the letters LmS, and with the digit 1, the number of the form, after them
abbrev pub server_letters : ℕ
server_letters = 5467468

abbrev pub server_form : ℕ
server_form = 827551052

-- ---- what is no number, as a byte
abbrev pub mark_byte : Mark → ℕ
mark_byte Clean = 0
mark_byte Dirty = 1
mark_byte Offered = 2
mark_byte Deleted = 3

abbrev pub mark_of : ℕ → Mark
mark_of b = cond (eqb b 0) Clean (cond (eqb b 1) Dirty (cond (eqb b 2) Offered Deleted))

abbrev pub rule_byte : Rule → ℕ
rule_byte PressWins = 0
rule_byte ServerWins = 1

abbrev pub rule_of : ℕ → Rule
rule_of b = cond (eqb b 0) PressWins ServerWins

abbrev pub awaits_byte : Awaits → ℕ
awaits_byte Awaits.Nothing = 0
awaits_byte (Awaits.Three Normal) = 1
awaits_byte (Awaits.Three Recovery) = 2
awaits_byte (Awaits.Five n) = 3

-- how many commands Pkg 5 answers
abbrev pub awaits_number : Awaits → ℕ
awaits_number Awaits.Nothing = 0
awaits_number (Awaits.Three m) = 0
awaits_number (Awaits.Five n) = n

abbrev pub awaits_of : ℕ → ℕ → Awaits
awaits_of b n = cond (eqb b 0) Awaits.Nothing (cond (eqb b 1) (Awaits.Three Normal) (cond (eqb b 2) (Awaits.Three Recovery) (Awaits.Five n)))

-- ---- a place: 40 bytes
abbrev pub record_bytes : Record → List ℕ
record_bytes x =
    fours (x.guid.0 ∷ x.pairing.luid.0 ∷ x.pairing.known ∷ [])
    ++ ((mark_byte x.pairing.mark ∷ x.wording.text.len ∷ x.wording.station ∷ 0 ∷ []) ++ x.wording.text.bytes)

unfoldable pub record_in : List ℕ → ℕ → Record
record_in s at =
    record {
      guid = guid (four_in s at);
      wording = record { text = record { len = get_or s (at + 13) 0; bytes = take longest (drop (at + 16) s) }; station = get_or s (at + 14) 0 };
      pairing = record { luid = luid (four_in s (at + 4)); known = four_in s (at + 8); mark = mark_of (get_or s (at + 12) 0) };
    }

-- ---- the places, one after the other
abbrev pub records_bytes : List Record → List ℕ
records_bytes xs = flat record_bytes xs

abbrev pub records_in : List ℕ → List Record
records_in s = each_at record_in record_size s head_size all_places

-- ---- all of it
abbrev pub head_bytes : Server → List ℕ
head_bytes p =
    fours (server_form ∷ p.records.used ∷ p.records.guid ∷ p.link.anchor ∷ p.link.session ∷ awaits_number p.link.awaits ∷ [])
    ++ (awaits_byte p.link.awaits ∷ rule_byte p.rule ∷ 0 ∷ 0 ∷ [])

unfoldable pub body_of : Server → List ℕ
body_of p = head_bytes p ++ records_bytes p.records.places

unfoldable pub image_of : Server → List ℕ
image_of p = body_of p ++ four (sum_of (body_of p))

unfoldable pub server_in : List ℕ → Server
server_in s =
    record {
      records = record { used = four_in s 4; places = records_in s; guid = four_in s 8 };
      link = record { anchor = four_in s 12; session = four_in s 16; awaits = awaits_of (get_or s 24 0) (four_in s 20) };
      rule = rule_of (get_or s 25 0);
    }

abbrev pub server_keeping : Keeping Server
server_keeping = record { size = image_size; image_of = image_of; side_in = server_in; in_range = server_in_range }

-- ---- what a server as the code has it always is: numbers of 32 bits, 32 places, texts of 24 bytes with what stands after them
pub record StorableRecord (x : Record) : Type 0 where
  pub guid : Fits x.guid.0
  pub luid : Fits x.pairing.luid.0
  pub known : Fits x.pairing.known
  pub text : length x.wording.text.bytes ≡ longest

pub record StorableHead (p : Server) : Type 0 where
  pub used : Fits p.records.used
  pub guid : Fits p.records.guid
  pub anchor : Fits p.link.anchor
  pub session : Fits p.link.session
  pub commands : Fits (awaits_number p.link.awaits)

pub record Storable (p : Server) : Type 0 where
  pub head : StorableHead p
  pub records : Every StorableRecord p.records.places
  pub long : length p.records.places ≡ all_places
