-- What the server does with a package on content: refused with 8 and as it was, or taken, with its answer.
use Rattle.std.specs.Prelude.{ℕ, Result, Ok, Err}
use Rattle.terms.specs.declared.Refusal.{Refusal}
use Rattle.terms.specs.declared.Check.{Check}
use Rattle.terms.specs.Check.{or_refuse}
use Rattle.terms.specs.declared.Check.TheVariants.{Pass, Fail}
use Rattle.records.specs.declared.Awaits.{Awaits}
use Rattle.records.specs.declared.Records.{Records}
use Rattle.records.specs.declared.Rule.{Rule}
use Rattle.records.specs.declared.Server.{Server}
use Rattle.message.specs.declared.Content.{Content}
use Rattle.packages.specs.Package.{no_package}

pub record Took : Type 0 where
  pub check : Check
  pub server : Server
  pub answer : Content

abbrev pub refused : Server → Took
refused s = record { check = Fail; server = s; answer = no_package }

abbrev pub taken : Server → Content → Took
taken s p = record { check = Pass; server = s; answer = p }

-- what the code answers then
abbrev pub said_of : Took → Result Content Refusal
said_of t = or_refuse t.check (Err Refusal.Unlawful) (Ok t.answer)

-- the server with its rule, and other records, anchor, session number and awaited package
abbrev pub server_with : Rule → Records → ℕ → ℕ → Awaits → Server
server_with rule r anchor session awaits = record { records = r; link = record { anchor = anchor; session = session; awaits = awaits }; rule = rule }
