use mathlib.Core.Path.{◌≡◌}
use lib.ListN.{drop}
use Rattle.ranks.specs.Rank.{luids_once}
use Rattle.ranks.proofs.luids_once.Given as goal

abbrev pub invariant-loop-i : goal.invariant-loop-i
invariant-loop-i l = luids_once (drop l.i l.items) ≡ luids_once l.items
