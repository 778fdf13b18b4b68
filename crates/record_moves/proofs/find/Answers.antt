use Rattle.std.proofs.Common.{rules}
use Rattle.places.specs.Act.{find}
use Rattle.records.specs.Server.{is_record, find_record}
use Rattle.record_moves.proofs.find.Goals as goal

pub returns-clause-found : goal.returns-clause-found
unfolding find find_record
returns-clause-found c = c.first_in_use.ensures.found (is_record c.args.guid) (λ x r e. search rules)
