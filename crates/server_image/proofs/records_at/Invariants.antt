use Rattle.std.proofs.Common.{◌≡◌, length, take}
use Rattle.places.specs.Set.{all_places}
use Rattle.server_image.specs.Image.{records_in}
use Rattle.server_image.proofs.records_at.Given as goal

abbrev pub invariant-loop-i : goal.invariant-loop-i
invariant-loop-i l = (length l.places ≡ all_places) × (take l.i l.places ≡ take l.i (records_in l.s))
