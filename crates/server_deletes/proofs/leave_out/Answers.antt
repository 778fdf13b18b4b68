use Rattle.std.proofs.Common.{rules, ap, ◌∙◌}
use mathlib.Core.Path.{fun_ext}
use Rattle.places.specs.Act.{Slot, each}
use Rattle.places.proofs.SlotLaws.{kept, slot_kept, kept_slot}
use Rattle.records.specs.declared.Record.{Record}
use Rattle.records.specs.Server.{no_record}
use Rattle.record_moves.specs.Named.{table_of, with_table}
use Rattle.server_deletes.specs.Step2.{left_out, lost, step2}
use Rattle.server_deletes.proofs.leave_out.Goals as goal

pub returns : goal.returns
unfolding step2
returns c =
    let a = c.args in
    let q = left_out a.commands.now in
    ap (with_table a.s.now) (c.act_on_each.ensures no_record q (λ x. kept (lost x)) (search rules) (search (rules, kept_slot))
    ∙ ap (λ (f : Record → Slot Record). each no_record q f (table_of a.s.now)) (fun_ext (λ x. slot_kept (lost x))))
