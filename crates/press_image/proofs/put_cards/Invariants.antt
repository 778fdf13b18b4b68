use Rattle.std.proofs.Common.{take}
use Rattle.places.specs.Every.{Every}
use Rattle.token.specs.Put.{Put}
use Rattle.press_image.specs.Image.{cards_bytes, StorableCard}
use Rattle.press_image.proofs.put_cards.Given as goal

abbrev pub invariant-loop-x : goal.invariant-loop-x
invariant-loop-x l = Put l.initial.out l.out l.at l.p (cards_bytes (take l.x-index l.places)) × Every StorableCard (take l.x-index l.places)
