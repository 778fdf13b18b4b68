-- What a call with a message replies (01, "Refusal numbers").
use Rattle.std.specs.Prelude.{ℕ, Option, Some, None, Result, Ok, Err}
use Rattle.terms.specs.declared.Refusal.{Refusal}
use Rattle.terms.specs.Refusal.{number_of}

-- the length of the answer that was written; done, where a package has no answer; or a refusal's number
pub data Reply : Type 0 where
  Written : ℕ → Reply
  Done : Reply
  Refused : ℕ → Reply

-- of a call that always has an answer
abbrev pub written_as : Result ℕ Refusal → Reply
written_as (Ok n) = Written n
written_as (Err r) = Refused (number_of r)

-- of a call with a message: none has an answer where it is done
abbrev pub taken_as : Result (Option ℕ) Refusal → Reply
taken_as (Ok (Some n)) = Written n
taken_as (Ok None) = Done
taken_as (Err r) = Refused (number_of r)
