-- What every small step keeps, a doing and a whole course keep. Assumes nothing.
use mathlib.Core.Bool.{Bool, true, false, cond}
use mathlib.Core.List.{List, [], ◌∷◌}
use lib.Dec.{eqb}
use Rattle.places.proofs.Every.{Every}
use Rattle.course.specs.Course.{Sides, World, Turn, Step, does, Doing, tries, goes}

module _ {M : Type 0} (s : Sides M) (P : Step → Type 0) (I : World M → Type 0) (one : (x : Step) → P x → (w : World M) → I w → I (does s x w).world) where
  pub tries_keep : (d : Doing) → Every P d → (w : World M) → I w → I (tries s d w).world
  unfolding tries
  tries_keep [] e w h = h
  tries_keep (x ∷ xs) e w h = go (eqb (does s x w).refusal 0) (one x e.0 w h) (tries_keep xs e.1)
    where
      go : (b : Bool) → I (does s x w).world → ((v : World M) → I v → I (tries s xs v).world) → I (cond {A = Turn M} b (tries s xs (does s x w).world) (does s x w)).world
      go true k next = next (does s x w).world k
      go false k next = k

  pub goes_keep : (ds : List Doing) → Every (Every P) ds → (w : World M) → I w → I (goes s ds w).world
  unfolding goes
  goes_keep [] e w h = h
  goes_keep (d ∷ ds) e w h = goes_keep ds e.1 (tries s d w).world (tries_keep d e.0 w h)
