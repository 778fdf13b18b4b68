use Rattle.std.proofs.Common.{◌≡◌, length, take}
use Rattle.places.specs.Set.{all_places}
use Rattle.press_image.specs.Image.{cards_in}
use Rattle.press_image.proofs.cards_at.Given as goal

abbrev pub invariant-loop-i : goal.invariant-loop-i
invariant-loop-i l = (length l.places ≡ all_places) × (take l.i l.places ≡ take l.i (cards_in l.s))
