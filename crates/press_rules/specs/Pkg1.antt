-- The press starts a session with Pkg 1 (01, "The six packages"; a start's refusals 1 and 2).
use Rattle.std.specs.Prelude.{ℕ, ◌+◌, not, [], eqb, Result, Ok, Err}
use Rattle.terms.specs.Check.{checked, or_refuse}
use Rattle.cards.specs.declared.Awaits.{Awaits}
use Rattle.cards.specs.declared.Press.{Press}
use Rattle.cards.specs.Press.{is_open}
use Rattle.terms.specs.declared.Refusal.{Refusal}
use Rattle.terms.specs.Refusal.{number_of}
use Rattle.message.specs.declared.Content.{Content}
use Rattle.packages.specs.Package.{head1, packed, no_package}
use Rattle.press_rules.specs.Took.{press_with}

pub data Start : Type 0 where
  Open : Start
  Refused : ℕ → Start

-- the press after a start, and Pkg 1
pub record Started : Type 0 where
  pub start : Start
  pub press : Press
  pub answer : Content

abbrev pub not_started : ℕ → Press → Started
not_started n p = record { start = Start.Refused n; press = p; answer = no_package }

-- session number = last + 1, which is also Next; Last is the press's anchor; ChangeLogValidity true. The press is open from here
abbrev pub started : Press → Started
started p =
    record {
      start = Start.Open;
      press = press_with p.cards p.anchor (p.session + 1) Awaits.Two;
      answer = packed (head1 (p.session + 1) p.anchor) [] [];
    }

-- 1 while the press is open, 2 where session number 4294967295 was used
unfoldable pub press_starts : Press → Started
press_starts p =
    or_refuse (checked (not (is_open p.awaits))) (not_started 1 p) (or_refuse (checked (not (eqb p.session 4294967295))) (not_started 2 p) (started p))

-- of the answer to a start, and the press after it
abbrev pub started_as : Result Content Refusal → Press → Started
started_as (Ok c) p = record { start = Start.Open; press = p; answer = c }
started_as (Err r) p = not_started (number_of r) p
