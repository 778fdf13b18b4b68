use Rattle.std.proofs.Common.{sym, ◌∙◌, arith}
use Rattle.lists.proofs.EntryLaws.{no_entry}
use Rattle.places.proofs.Turns.{next_of_lem, end_of}
use Rattle.server_deletes.proofs.StepLaws.{deletes_more, deletes_stop, deletes_end}
use Rattle.server_deletes.proofs.deletes_in.Goals as goal

pub returns-then-not-is_delete : goal.returns-then-not-is_delete
returns-then-not-is_delete c = omega (arith, c.loop-i.invariant.1, deletes_stop _ _ _ (next_of_lem c.args.commands.now c.loop-i.i no_entry c.loop-i-test.true) (sym c.is_delete.ensures ∙ c.if-not-is_delete.true))

pub loop-i-preserved : goal.loop-i-preserved
loop-i-preserved c = (omega arith, omega (arith, c.loop-i.invariant.1, deletes_more _ _ _ (next_of_lem c.args.commands.now c.loop-i.i no_entry c.loop-i-test.true) (sym c.is_delete.ensures ∙ c.if-not-is_delete.false)))

pub returns : goal.returns
returns c = omega (arith, c.loop-i.invariant.1, deletes_end _ (end_of c.args.commands.now c.loop-i.i c.loop-i-test.false))
