-- The words of the bench's answers (docs/BENCH.md).
use Rattle.std.specs.Prelude.{ℕ, Bool, true, false, List, [], ◌++◌, Result, Ok, Err}
use Rattle.token.specs.Text.{bytes}
use Rattle.token.specs.Number.{digits}
use Rattle.terms.specs.declared.Refusal.{Refusal}
use Rattle.terms.specs.Refusal.{number_of}
use Rattle.answers.specs.declared.Answer.{Answer}

-- what a command answers: some words, or what stands at the output's start already, a message or a block of so many bytes
pub data Said : Type 0 where
  Yes : Said
  Number : ℕ → Said
  Standing : ℕ → Said
  Done : Said
  Refused : ℕ → Said
  Idle : Said
  Unknown : Said

-- the code's answer, or why a command is refused
abbrev pub said_as : Result Answer Refusal → Said
said_as (Ok Answer.Yes) = Said.Yes
said_as (Ok (Answer.Number n)) = Said.Number n
said_as (Ok (Answer.Standing n)) = Said.Standing n
said_as (Ok Answer.Done) = Said.Done
said_as (Ok Answer.Idle) = Said.Idle
said_as (Ok Answer.Unknown) = Said.Unknown
said_as (Err r) = Said.Refused (number_of r)

-- the same where a refusal is told by its number, whatever number that is
abbrev pub said_by : Result Answer ℕ → Said
said_by (Ok Answer.Yes) = Said.Yes
said_by (Ok (Answer.Number n)) = Said.Number n
said_by (Ok (Answer.Standing n)) = Said.Standing n
said_by (Ok Answer.Done) = Said.Done
said_by (Ok Answer.Idle) = Said.Idle
said_by (Ok Answer.Unknown) = Said.Unknown
said_by (Err n) = Said.Refused n

abbrev pub words_of : Said → List ℕ
words_of Said.Yes = bytes "ok"
words_of (Said.Number n) = bytes "ok " ++ digits n
words_of (Said.Standing n) = []
words_of Said.Done = bytes "done"
words_of (Said.Refused n) = bytes "refused " ++ digits n
words_of Said.Idle = bytes "idle"
words_of Said.Unknown = bytes "?"

-- they stand at the output's start, or after what stands there
abbrev pub standing_to : Said → ℕ
standing_to Said.Yes = 0
standing_to (Said.Number n) = 0
standing_to (Said.Standing n) = n
standing_to Said.Done = 0
standing_to (Said.Refused n) = 0
standing_to Said.Idle = 0
standing_to Said.Unknown = 0

abbrev pub is_message : Said → Bool
is_message Said.Yes = false
is_message (Said.Number n) = false
is_message (Said.Standing n) = true
is_message Said.Done = false
is_message (Said.Refused n) = false
is_message Said.Idle = false
is_message Said.Unknown = false

abbrev pub is_refused : Said → Bool
is_refused Said.Yes = false
is_refused (Said.Number n) = false
is_refused (Said.Standing n) = false
is_refused Said.Done = false
is_refused (Said.Refused n) = true
is_refused Said.Idle = false
is_refused Said.Unknown = false
