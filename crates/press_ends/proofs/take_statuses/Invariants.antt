use mathlib.Core.Path.{◌≡◌}
use Rattle.places.specs.Act.{in_order, with_answers}
use Rattle.press_ends.specs.End.{end_mark}
use Rattle.press_ends.proofs.take_statuses.Given as goal

abbrev pub invariant-loop-command : goal.invariant-loop-command
invariant-loop-command l =
    in_order end_mark (with_answers l.command-iterator.a.rest.now l.command-iterator.b.rest.now) l.c ≡ in_order end_mark (with_answers l.commands l.statuses) l.initial.c
