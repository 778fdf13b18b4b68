use Rattle.std.proofs.Common.{◌≡◌, ◌≤◌, ◌+◌, length, drop}
use Rattle.server_deletes.specs.Step2.{deletes_in}
use Rattle.server_deletes.proofs.deletes_in.Given as goal

abbrev pub invariant-loop-i : goal.invariant-loop-i
invariant-loop-i l = (l.i ≤ length l.commands) × (deletes_in l.commands ≡ l.i + deletes_in (drop l.i l.commands))
