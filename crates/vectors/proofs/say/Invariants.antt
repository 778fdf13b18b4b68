use Rattle.std.proofs.Common.{length}
use Rattle.vectors.proofs.say.Given as goal

abbrev pub decreases-loop-rest : goal.decreases-loop-rest
decreases-loop-rest g l = length l.name
