use native.Mathlib.Omega.{arith}
use Rattle.image.specs.Four.{four_in}
use Rattle.image.proofs.four_at.Goals as goal

pub returns : goal.returns
unfolding four_in
returns c = omega (arith, c.from_le_bytes.ensures)
