-- What a card or record says, as one thing: its text, and the station that edited it last (02, 5). A rule that takes or keeps the text takes or keeps both.
use Rattle.std.specs.Prelude.{ℕ, ◌≤◌, List, []}
use Rattle.text.specs.declared.Wording.{Wording}
use Rattle.text.specs.Text.{kept, IsText}

-- the station of the server's own people; a press has a number from 1 to 255
abbrev pub server_station : ℕ
server_station = 0

abbrev pub last_station : ℕ
last_station = 255

-- a text of these bytes, signed by a station
abbrev pub signed_by : ℕ → List ℕ → Wording
signed_by n l = record { text = kept l; station = n }

-- what says nothing: of an element without a text, and of a place that was never used
abbrev pub no_wording : Wording
no_wording = signed_by server_station []

-- a text that keeps the text rule, and a station
pub record IsWording (w : Wording) : Type 0 where
  pub text : IsText w.text
  pub station : w.station ≤ last_station
