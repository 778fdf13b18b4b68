-- What the press does with a package on content: refused with 8 and as it was, or taken, with its answer.
use Rattle.std.specs.Prelude.{ℕ, Result, Ok, Err}
use Rattle.terms.specs.Check.{or_refuse}
use Rattle.terms.specs.declared.Check.{Check}
use Rattle.terms.specs.declared.Refusal.{Refusal}
use Rattle.terms.specs.declared.Check.TheVariants.{Pass, Fail}
use Rattle.cards.specs.declared.Awaits.{Awaits}
use Rattle.cards.specs.declared.Cards.{Cards}
use Rattle.cards.specs.declared.Press.{Press}
use Rattle.message.specs.declared.Content.{Content}
use Rattle.packages.specs.Package.{no_package}

pub record Took : Type 0 where
  pub check : Check
  pub press : Press
  pub answer : Content

-- what is said of it: the answer, or the refusal
abbrev pub said_of : Took → Result Content Refusal
said_of t = or_refuse t.check (Err Refusal.Unlawful) (Ok t.answer)

abbrev pub refused : Press → Took
refused p = record { check = Fail; press = p; answer = no_package }

abbrev pub taken : Press → Content → Took
taken p m = record { check = Pass; press = p; answer = m }

-- the press with other cards, anchor, session number and awaited package
abbrev pub press_with : Cards → ℕ → ℕ → Awaits → Press
press_with c anchor session awaits = record { cards = c; anchor = anchor; session = session; awaits = awaits }
