use mathlib.Core.Path.{◌≡◌}
use Rattle.statuses.specs.Status.{all_fit}
use Rattle.statuses.proofs.FitLaws.{fit_from}
use Rattle.statuses.proofs.all_fit.Given as goal

abbrev pub invariant-loop-i : goal.invariant-loop-i
invariant-loop-i l = fit_from l.side l.first l.commands l.statuses l.i ≡ all_fit l.side l.first l.commands l.statuses
