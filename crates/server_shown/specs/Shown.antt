-- What programs in C and Rust are shown of the server: a record by its place.
use Rattle.std.specs.Prelude.{Option, None, Some}
use Rattle.std.specs.Prelude.{ℕ, cond, List, [], ◌∷◌, leb, get_or}
use Rattle.places.specs.Set.{all_places, in_use}
use Rattle.records.specs.declared.Record.{Record}
use Rattle.records.specs.declared.Records.{Records}
use Rattle.records.specs.declared.Server.{Server}
use Rattle.records.specs.Server.{no_record}
use Rattle.image.specs.OnImage.{no_image}
use Rattle.image.specs.Shown.{Shown, shown}
use Rattle.server_image.specs.Image.{mark_byte}

-- ---- a record, deleted or not: GUID, LUID or 0, the known fingerprint; mark, station, length of the text
abbrev pub numbers_with : Record → ℕ → ℕ → ℕ → List ℕ
numbers_with x mark station length = x.guid.0 ∷ x.pairing.luid.0 ∷ x.pairing.known ∷ mark ∷ station ∷ length ∷ []

abbrev pub record_numbers : Record → List ℕ
record_numbers x = numbers_with x (mark_byte x.pairing.mark) x.wording.station x.wording.text.len

-- the one in a place; 3 where the place is free or there is none, 10 where there is no image
abbrev pub place_shown : Records → ℕ → List ℕ → List ℕ → Shown
place_shown c i ns t =
    cond (leb all_places i) (shown 3 ns t) (cond (in_use c.used i) (shown 0 (record_numbers (get_or c.places i no_record)) (get_or c.places i no_record).wording.text.bytes) (shown 3 ns t))

abbrev pub record_shown_in : Option Server → ℕ → List ℕ → List ℕ → Shown
record_shown_in None i ns t = shown no_image ns t
record_shown_in (Some p) i ns t = place_shown p.records i ns t
