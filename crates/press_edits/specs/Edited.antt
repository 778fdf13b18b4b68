-- What an edit at the press answers: the number of the card that was edited, or a refusal's number, and the press after it.
use Rattle.std.specs.Prelude.{ℕ, Result, Ok, Err}
use Rattle.terms.specs.declared.Luid.{Luid}
use Rattle.terms.specs.declared.Refusal.{Refusal}
use Rattle.terms.specs.Refusal.{number_of}
use Rattle.cards.specs.declared.Press.{Press}

pub data Outcome : Type 0 where
  Done : Luid → Outcome
  Refused : ℕ → Outcome

pub record Edited : Type 0 where
  pub outcome : Outcome
  pub press : Press

-- of the answer to an edit, and the press after it
abbrev pub edited_as : Result Luid Refusal → Press → Edited
edited_as (Ok l) p = record { outcome = Done l; press = p }
edited_as (Err r) p = record { outcome = Refused (number_of r); press = p }

-- where the card's number is the caller's
abbrev pub edited_at : Luid → Result Unit Refusal → Press → Edited
edited_at l (Ok u) p = edited_as (Ok l) p
edited_at l (Err r) p = edited_as (Err r) p
