use Prim.Native.Nat.{ℕ, ◌+◌}
use Rattle.std.proofs.Common.{Some, None}
use mathlib.Core.Path.{◌≡◌, sym, ap, ◌∙◌}
use Rattle.records.specs.declared.Record.{Record}
use Rattle.records.specs.declared.Records.{Records}
use Rattle.places.specs.Act.{Table, holds, put_at}
use Rattle.record_moves.specs.Named.{table_of, with_table, with_record}
use Rattle.server_changes.proofs.ChangeLaws.{change_by, make_by}
use Rattle.server_changes.proofs.take_change.Goals as goal

pub returns-in-Some-clause-records : goal.returns-in-Some-clause-records
returns-in-Some-clause-records c =
    let a = c.args in
    ap (with_table a.s.now) c.put.ensures
    ∙ ap (λ (y : Record). with_record a.s.now c.in-Some.i y) c.changed-code.ensures.record
    ∙ sym (change_by a.rule a.c.now a.s.now (Some c.in-Some.i) (sym c.with_luid.ensures.found ∙ c.in-Some.is))

pub returns-in_default-room-clause-records : goal.returns-in_default-room-clause-records
returns-in_default-room-clause-records c =
    let a = c.args in
    sym (make_by a.rule a.c.now a.s.now None (sym c.with_luid.ensures.found ∙ c.in_default.is) (sym c.room.ensures.found ∙ c.in_default-room.is))

-- the records with another table, and one GUID more given
abbrev numbered : Records → Table Record → Records
numbered s t = record { used = t.used; places = t.places; guid = s.guid + 1 }

pub returns-clause-records : goal.returns-clause-records
returns-clause-records c =
    let a = c.args in
    ap (numbered a.s.now) c.put-2.ensures
    ∙ ap (λ (y : Record). numbered a.s.now (put_at (table_of a.s.now) c.in-Some-room.i (holds y))) c.made-new.ensures
    ∙ sym (make_by a.rule a.c.now a.s.now (Some c.in-Some-room.i) (sym c.with_luid.ensures.found ∙ c.in_default.is) (sym c.room.ensures.found ∙ c.in-Some-room.is))
