use Rattle.shape.proofs.RunLaws.{begun}
use Rattle.shape.proofs.first_piece.Goals as goal

pub returns-clause-fields : goal.returns-clause-fields
returns-clause-fields c = begun _ _ _ _ c.split_first-2.result c.in_ok-n.ensures.cases.0 c.min-n.ensures c.split_first-2.ensures.cases
