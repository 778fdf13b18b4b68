-- What a panel shows of a message (02, 1): which package it is, and its number of changes where it has one.
use Rattle.std.specs.Prelude.{ℕ, Bool, cond, ◌||◌, eqb, Option, Some, None, Result, Ok, Err}
use Rattle.terms.specs.declared.Refusal.{Refusal}
use Rattle.terms.specs.Refusal.{number_of}
use Rattle.token.specs.Ans.{Ans, got, bad}
use Rattle.elements.specs.declared.Head.{Head}
use Rattle.elements.specs.declared.End.{End}
use Rattle.message.specs.Message.{Message}
use Rattle.message_changes.specs.declared.Shown.{Shown as CodeShown}

-- the package with its number of changes; the package, where it has none; or the number of a refusal
pub data Shown : Type 0 where
  Changes : ℕ → ℕ → Shown
  Package : ℕ → Shown
  Refused : ℕ → Shown

-- Pkg 3 and Pkg 4 have a Sync
abbrev pub has_sync : ℕ → Bool
has_sync pkg = eqb pkg 3 || eqb pkg 4

-- sync is what ends the list before the commands
abbrev pub shown : Head → End → Shown
shown h sync = cond (has_sync h.pkg) (Changes h.pkg sync.changes) (Package h.pkg)

-- a message that does not read is refused
abbrev pub shown_of : Ans Message → Shown
shown_of (got m p) = shown m.head m.answersend
shown_of (bad k p) = Refused k

-- what the code answers
abbrev pub shown_with : ℕ → Option ℕ → Shown
shown_with k (Some n) = Changes k n
shown_with k None = Package k

abbrev pub shown_as : Result CodeShown Refusal → Shown
shown_as (Ok x) = shown_with x.«package» x.changes
shown_as (Err r) = Refused (number_of r)
