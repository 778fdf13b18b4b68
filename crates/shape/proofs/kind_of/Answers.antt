use Rattle.std.proofs.Common.{rules, sym}
use Rattle.shape.proofs.ByteLaws.{unmarked}
use Rattle.shape.proofs.kind_of.Goals as goal

pub returns-in_default : goal.returns-in_default
returns-in_default c = sym (unmarked c.args.t (search rules))
