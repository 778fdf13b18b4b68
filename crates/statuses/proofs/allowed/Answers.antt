use Prim.Native.Nat.{ℕ}
use mathlib.Core.Path.{◌≡◌, refl, ap, ◌∙◌}
use mathlib.Core.Bool.{Bool, ◌||◌}
use mathlib.Core.List.{List, [], ◌∷◌}
use lib.Dec.{eqb}
use Rattle.std.specs.List.{list_any}
use Rattle.statuses.specs.Code.{is_one_of}
use Rattle.statuses.proofs.allowed.Goals as goal

one_of : (ks : List ℕ) (n : ℕ) → list_any (λ k. eqb k n) ks ≡ is_one_of ks n
unfolding is_one_of
one_of [] n = refl
one_of (k ∷ ks) n = ap (λ (b : Bool). eqb k n || b) (one_of ks n)

pub returns : goal.returns
returns c = c.contains.ensures.value ∙ one_of _ _ ∙ ap (λ (ks : List ℕ). is_one_of ks c.args.code) c.codes_for.ensures
