use Rattle.std.proofs.Common.{◌≤◌}
use Rattle.vectors.proofs.main.Given as goal

abbrev pub invariant-loop-turn : goal.invariant-loop-turn
invariant-loop-turn l = l.failed ≤ l.turn
