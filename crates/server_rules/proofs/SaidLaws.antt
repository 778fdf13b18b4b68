-- What a check or what is taken in turn says by its answer. Assumes nothing.
use Rattle.std.proofs.Common.{Result, Ok, Err}
use mathlib.Core.Path.{◌≡◌, refl}
use mathlib.Core.Bool.{Bool, true, false, cond}
use mathlib.Core.List.{List}
use Rattle.terms.specs.Check.{checked, or_refuse}
use Rattle.terms.specs.declared.Check.{Check}
use Rattle.terms.specs.declared.Check.TheVariants.{Pass, Fail}
use Rattle.terms.specs.declared.Refusal.{Refusal}
use Rattle.records.specs.declared.Records.{Records}
use Rattle.places.specs.Act.{in_order, all_pass}
use Rattle.server_reports.specs.Step1.{all_or_none}

-- what it answers
abbrev pub answer_of : Check → Refusal → Result Unit Refusal
answer_of k r = or_refuse k (Err r) (Ok tt)

pub went_on : (k : Check) (r : Refusal) (u : Unit) → answer_of k r ≡ Ok u → k ≡ Pass
went_on Pass r u h = refl
went_on Fail r u h = cc

pub was_refused : (k : Check) (r e : Refusal) → answer_of k r ≡ Err e → k ≡ Fail
was_refused Pass r e h = cc
was_refused Fail r e h = refl

pub refused_as : (k : Check) (r e : Refusal) → answer_of k r ≡ Err e → e ≡ r
refused_as Pass r e h = cc
refused_as Fail r e h = cc

-- where one does not fit, nothing is taken
pub as_they_were : {A : Type 0} (fits : A → Records → Bool) (take : A → Records → Records) (xs : List A) (s : Records) → (all_or_none fits take xs s).check ≡ Fail → (all_or_none fits take xs s).records ≡ s
unfolding all_or_none
as_they_were fits take xs s e = go (all_pass fits take xs s) e
  where
    go : (b : Bool) → checked b ≡ Fail → cond b (in_order take xs s) s ≡ s
    go true q = cc
    go false q = refl
