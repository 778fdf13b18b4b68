-- What the result of a test says of the test, and of the choice that it makes. Assumes nothing.
use Rattle.std.proofs.Common.{Ok, Err}
use mathlib.Core.Path.{◌≡◌, refl}
use mathlib.Core.Bool.{Bool, true, false}
use Rattle.terms.specs.declared.Refusal.{Refusal}
use Rattle.terms.specs.Check.{checked, or_refuse}
use Rattle.terms.specs.Refusal.{required}

-- it passed: the rest
pub goes_on_ok : {A : Type 0} (b : Bool) (r : Refusal) (u : Unit) (refusal rest : A) → required b r ≡ Ok u → or_refuse (checked b) refusal rest ≡ rest
goes_on_ok true r u refusal rest e = refl
goes_on_ok false r u refusal rest e = cc

-- it did not: the refusal
pub stops_err : {A : Type 0} (b : Bool) (r e : Refusal) (refusal rest : A) → required b r ≡ Err e → or_refuse (checked b) refusal rest ≡ refusal
stops_err true r e refusal rest h = cc
stops_err false r e refusal rest h = refl

-- .. which is this one
pub refused_for : (b : Bool) (r e : Refusal) → required b r ≡ Err e → e ≡ r
refused_for true r e h = cc
refused_for false r e h = cc

-- .. and the test itself
pub passed_ok : (b : Bool) (r : Refusal) (u : Unit) → required b r ≡ Ok u → b ≡ true
passed_ok true r u h = refl
passed_ok false r u h = cc

pub failed_err : (b : Bool) (r e : Refusal) → required b r ≡ Err e → b ≡ false
failed_err true r e h = cc
failed_err false r e h = refl
