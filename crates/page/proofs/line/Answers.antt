use native.Mathlib.Omega.{arith}
use Rattle.page.proofs.LineLaws.{no_line}
use Rattle.page.proofs.line.Goals as goal

pub returns-in_default : goal.returns-in_default
returns-in_default c = no_line c.args.k (λ a b. omega arith)
