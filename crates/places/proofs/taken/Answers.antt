use Rattle.places.proofs.Bits.{shift_one, or_place}
use Rattle.places.proofs.taken.Goals as goal

pub returns : goal.returns
returns c = rw (shift_one c.args.i c.requires) (or_place c.args.used c.args.i)
