-- What an edit at the server answers: the number of the record that was edited, or a refusal's number, and the server after it.
use Rattle.std.specs.Prelude.{ℕ, Result, Ok, Err}
use Rattle.terms.specs.declared.Guid.{Guid}
use Rattle.terms.specs.declared.Refusal.{Refusal}
use Rattle.terms.specs.Refusal.{number_of}
use Rattle.records.specs.declared.Server.{Server}

pub data Outcome : Type 0 where
  Done : Guid → Outcome
  Refused : ℕ → Outcome

pub record Edited : Type 0 where
  pub outcome : Outcome
  pub server : Server

-- of the answer to an edit, and the server after it
abbrev pub edited_as : Result Guid Refusal → Server → Edited
edited_as (Ok g) p = record { outcome = Done g; server = p }
edited_as (Err r) p = record { outcome = Refused (number_of r); server = p }

-- where the record's number is the caller's
abbrev pub edited_at : Guid → Result Unit Refusal → Server → Edited
edited_at g (Ok u) p = edited_as (Ok g) p
edited_at g (Err r) p = edited_as (Err r) p
