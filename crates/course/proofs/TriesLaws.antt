-- A doing of one small step, and one doing after another. Assumes nothing.
use mathlib.Core.Path.{◌≡◌, refl, sym, ◌∙◌}
use mathlib.Core.Bool.{Bool, true, false, cond}
use mathlib.Core.List.{[], ◌∷◌, ◌++◌}
use lib.Dec.{eqb}
use borrow.Author.Tests.{eqb-true}
use Rattle.places.proofs.Choice.{passed}
use Rattle.course.specs.Course.{Sides, World, Turn, turn, and_then, Step, does, Doing, tries, alone}

module _ {M : Type 0} (t : Turn M) where
  pub then_nothing : and_then t (λ v. turn v 0) ≡ t
  then_nothing = go (eqb t.refusal 0) refl
    where
      go : (b : Bool) → eqb t.refusal 0 ≡ b → cond b (turn t.world 0) t ≡ t
      go true e = λ i. turn t.world (sym (eqb-true t.refusal 0 e) i)
      go false e = refl

  then_then : (f g : World M → Turn M) → and_then t (λ v. and_then (f v) g) ≡ and_then (and_then t f) g
  then_then f g = go (eqb t.refusal 0) refl
    where
      go : (b : Bool) → eqb t.refusal 0 ≡ b → cond b (and_then (f t.world) g) t ≡ and_then (cond b (f t.world) t) g
      go true e = refl
      go false e = sym (passed (eqb t.refusal 0) (g t.world) t e)

module _ {M : Type 0} (s : Sides M) where
  pub tries_alone : (x : Step) (w : World M) → tries s (alone x) w ≡ does s x w
  unfolding tries
  tries_alone x w = then_nothing (does s x w)

  pub tries_append : (xs ys : Doing) (w : World M) → tries s (xs ++ ys) w ≡ and_then (tries s xs w) (tries s ys)
  unfolding tries
  tries_append [] ys w = refl
  tries_append (x ∷ xs) ys w = (λ i. and_then (does s x w) (λ v. tries_append xs ys v i)) ∙ then_then (does s x w) (tries s xs) (tries s ys)
