-- The checks of an edit, one after the other: the first that fails gives the refusal (01, "Refusals": the order of the numbers).
use Rattle.std.specs.Prelude.{Bool, true, false}
use Rattle.terms.specs.declared.Check.{Check}
use Rattle.terms.specs.declared.Check.TheVariants.{Pass, Fail}

-- a check that a test passes
abbrev pub checked : Bool → Check
checked true = Pass
checked false = Fail

-- the refusal r where the check fails, and else the rest
abbrev pub or_refuse : {A : Type 0} → Check → A → A → A
or_refuse Pass r rest = rest
or_refuse Fail r rest = r
