-- What a check's answer says. Assumes nothing.
use mathlib.Core.Path.{◌≡◌, refl, ap, ◌∙◌}
use mathlib.Core.Bool.{Bool, true, false}
use Rattle.terms.specs.declared.Check.{Check}
use Rattle.terms.specs.declared.Check.TheVariants.{Pass, Fail}
use Rattle.terms.specs.Check.{checked, or_refuse}

pub passes : (b : Bool) → checked b ≡ Pass → b ≡ true
passes true e = refl
passes false e = cc

pub goes_on : {A : Type 0} (k : Check) (r rest : A) → k ≡ Pass → or_refuse k r rest ≡ rest
goes_on k r rest e = ap (λ (x : Check). or_refuse x r rest) e

pub stops : {A : Type 0} (k : Check) (r rest : A) → k ≡ Fail → or_refuse k r rest ≡ r
stops k r rest e = ap (λ (x : Check). or_refuse x r rest) e

-- what holds of the refusal and of the rest holds of either
pub of_either : {A : Type 0} (k : Check) (r rest : A) (P : A → Type 0) → P r → P rest → P (or_refuse k r rest)
of_either Pass r rest P p q = q
of_either Fail r rest P p q = p

-- g of the refusal and g of the rest, by the same check
pub refuse_map : {A B : Type 0} (g : A → B) (k : Check) (x y : A) {k' : Check} {x' y' : B} → k' ≡ k → x' ≡ g x → y' ≡ g y → or_refuse k' x' y' ≡ g (or_refuse k x y)
refuse_map g k x y e p q = (λ i. or_refuse (e i) (p i) (q i)) ∙ go k
  where
    go : (j : Check) → or_refuse j (g x) (g y) ≡ g (or_refuse j x y)
    go Pass = refl
    go Fail = refl
