use native.Mathlib.Omega.{arith}
use Rattle.page.proofs.LineLaws.{line_is}
use Rattle.page.proofs.kind_len.Goals as goal

pub measure-requires : goal.measure-requires
measure-requires c = omega (arith, (line_is _ _ c.line.ensures).1)

pub returns : goal.returns
returns c =
    let short = (line_is _ _ c.line.ensures).1 in
    (rw (← (line_is _ _ c.line.ensures).0) c.measure.ensures.0, omega (arith, c.measure.ensures.1))
