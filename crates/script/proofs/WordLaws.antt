-- The word that the rest of a line is, out of a row of words. Assumes nothing.
use Rattle.std.proofs.Common.{◌≡◌, ℕ, ◌+◌, ◌≤◌, ◌<◌, true, false, cond, List, [], ◌∷◌, length, drop, get_or, sym, ap, ◌∙◌, add-one}
use Rattle.std.specs.Borrow.{Bor}
use lib.ListN.{drop_of_length-le}
use lib.Seq.{drop-cons}
use Rattle.places.proofs.Choice.{chosen, passed}
use Rattle.script.specs.declared.Command.{Command}
use Rattle.script.specs.Script.{ends_in}

module _ (s : List ℕ) (at : ℕ) where
  abbrev pub found_in : List (Bor (List ℕ) × Command) → Command
  found_in [] = Command.Unknown
  found_in (x ∷ l) = cond (ends_in s at x.0.now) x.1 (found_in l)

  module _ (l : List (Bor (List ℕ) × Command)) (i : ℕ) (d : Bor (List ℕ) × Command) (h : i < length l) where
    turn : found_in (drop i l) ≡ cond (ends_in s at (get_or l i d).0.now) (get_or l i d).1 (found_in (drop (i + 1) l))
    turn = rw add-one (ap found_in (drop-cons l i d h))

    pub found_here : ends_in s at (get_or l i d).0.now ≡ true → (get_or l i d).1 ≡ found_in (drop i l)
    found_here e = sym (turn ∙ chosen _ _ _ e)

    pub found_later : ends_in s at (get_or l i d).0.now ≡ false → found_in (drop (i + 1) l) ≡ found_in (drop i l)
    found_later e = sym (turn ∙ passed _ _ _ e)

  pub found_nowhere : (l : List (Bor (List ℕ) × Command)) (i : ℕ) → length l ≤ i → Command.Unknown ≡ found_in (drop i l)
  found_nowhere l i h = rw (drop_of_length-le l h)
