-- What a side says when it is called; M is what a message is, a content or bytes.
use Rattle.std.specs.Prelude.{ℕ, Option, Some, None, Result, Ok, Err}
use Rattle.terms.specs.declared.Refusal.{Refusal}
use Rattle.terms.specs.Refusal.{number_of}

-- a message, done (Pkg 6 has no answer), or a refusal's number
pub data Says (M : Type 0) : Type 0 where
  sends : M → Says M
  done : Says M
  refuses : ℕ → Says M

-- the side as it is now, and what it says
pub record Called (S M : Type 0) : Type 0 where
  pub side : S
  pub says : Says M

abbrev pub sending : {S M : Type 0} → S → M → Called S M
sending s x = record { side = s; says = sends x }

abbrev pub refusing : {S M : Type 0} → ℕ → S → Called S M
refusing n s = record { side = s; says = refuses n }

-- what the code answers, with the side that it leaves: a call that always sends; a call that may be done with nothing to send
abbrev pub sent_as : {S M : Type 0} → Result M Refusal → S → Called S M
sent_as (Ok x) s = sending s x
sent_as (Err r) s = refusing (number_of r) s

abbrev pub called_as : {S M : Type 0} → Result (Option M) Refusal → S → Called S M
called_as (Ok (Some x)) s = sending s x
called_as (Ok None) s = record { side = s; says = done }
called_as (Err r) s = refusing (number_of r) s
