use Prim.Native.Nat.{◌+◌}
use mathlib.Core.Path.{◌≡◌}
use mathlib.Core.List.{[]}
use lib.ListN.{drop}
use Rattle.places.specs.Act.{in_order, replies}
use Rattle.listing.specs.Listing.{listing}
use Rattle.listing.proofs.Answering.{Answering}
use Rattle.press_replies.specs.Reply.{answering, after_command}
use Rattle.press_takes.proofs.take_commands.Given as goal

abbrev pub invariant-loop-i : goal.invariant-loop-i
invariant-loop-i l =
    (in_order after_command (drop l.i l.commands) l.c ≡ in_order after_command l.commands l.initial.c)
    × Answering answering after_command (listing []) (replies answering after_command l.first l.commands l.initial.c) l.i (l.first + l.i) (drop l.i l.commands) l.c l.answers
