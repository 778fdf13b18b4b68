-- The numbers of the refusals (01, "Refusal numbers").
use Rattle.std.specs.Prelude.{ℕ, Bool, true, false, List, ◌++◌, codes, Result, Ok, Err}
use Rattle.std.specs.Fmt.{decimal}
use Rattle.terms.specs.declared.Refusal.{Refusal}

abbrev pub number_of : Refusal → ℕ
number_of Refusal.Open = 1
number_of Refusal.Spent = 2
number_of Refusal.Unknown = 3
number_of Refusal.Unfit = 4
number_of Refusal.NotAwaited = 5
number_of Refusal.OldSession = 6
number_of Refusal.Unreadable = 7
number_of Refusal.Unlawful = 8
number_of Refusal.NoRoom = 9

-- as it is printed
abbrev pub printed : Refusal → List ℕ
printed r = codes "refused " ++ decimal (number_of r)

-- nothing where the test passes, and else this refusal
abbrev pub required : Bool → Refusal → Result Unit Refusal
required true r = Ok tt
required false r = Err r
