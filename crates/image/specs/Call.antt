-- A call on an image, as the code gives it back: what it tells, or the number that is not 0.
use Rattle.std.specs.Prelude.{ℕ, ◌≡◌, List, Result, Ok, Err}
use Rattle.std.specs.Fn.{Once}
use denote.MutBor.{MutBor}
use Rattle.calls.specs.After.{After}
use Rattle.terms.specs.declared.Refusal.{Refusal}
use Rattle.terms.specs.Refusal.{number_of}
use Rattle.image.specs.OnImage as on

abbrev pub number_in : {N : Type 0} → Result N ℕ → ℕ
number_in (Ok n) = 0
number_in (Err k) = k

-- what is told by the number that `num` makes of it, t where nothing is
abbrev pub told_in : {N : Type 0} → (N → ℕ) → Result N ℕ → ℕ → ℕ
told_in num (Ok n) t = num n
told_in num (Err k) t = t

-- what a call on a side comes to: its answer, and the side after it
abbrev pub result_as : {S N : Type 0} → (N → ℕ) → Result N Refusal → S → on.Result S
result_as num (Ok n) p = on.did (num n) p
result_as num (Err r) p = on.refused (number_of r)

-- ---- a call f on a side p with a lent output may give r, and leave the side q and the output o'
pub record ReturnsIn {F S R : Type 0} (g : Once F (MutBor S × (MutBor (List ℕ) × Unit {0})) (R × (MutBor S × (MutBor (List ℕ) × Unit {0})))) (f : F) (p : S) (o : List ℕ) (r : R) (q : S) (o' : List ℕ) : Type 0 where
  pub shown : MutBor S
  pub shows : shown.now ≡ p
  pub lent : MutBor (List ℕ)
  pub lends : lent.now ≡ o
  pub left : MutBor S
  pub leaves : left.now ≡ q
  pub back : MutBor (List ℕ)
  pub gives : back.now ≡ o'
  pub met : g.post f (shown, (lent, tt)) (r, (left, (back, tt)))

-- and that is what is said of it
abbrev pub Replies : {S N : Type 0} → (N → ℕ) → Result N Refusal → S → List ℕ → After S → Type 0
Replies num r q o a = (result_as num r q ≡ on.replied a.reply a.side) × (o ≡ a.output)
