-- Step 3 keeps the server's table safe. Assumes nothing.
use Rattle.records.specs.declared.Records.{Records}
use Rattle.places.specs.Act.{free}
use Rattle.record_moves.specs.Named.{Safe}
use Rattle.record_moves.proofs.SafeLaws.{each_safe}
use Rattle.server_forgets.specs.Step3.{is_forgotten, step3}

pub step3_safe : (s : Records) → Safe s → Safe (step3 s)
unfolding step3
step3_safe s h = each_safe s is_forgotten (λ x. free) (λ x e. tt) h
