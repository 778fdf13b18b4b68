use Rattle.std.proofs.Common.{Result, ◌≡◌, ap}
use Rattle.token.specs.Literal.{lit_ans}
use Rattle.token.specs.declared.Cursor.{Cursor}
use Rattle.token.specs.declared.Misread.{Misread}
use Rattle.shape.specs.Runs.{runs, after_run}
use Rattle.shape.specs.Shape.{row_of}
use Rattle.shape.specs.declared.Value.{Value}
use Rattle.shape.proofs.LoopLaws.{RanTo, AnsTo, field_row, read_run, read_mark, read_end}
use Rattle.shape.proofs.read.Goals as goal
use Rattle.shape.proofs.read.Goals.{After-past_run, After-read_field}

-- what the answer of the run says of the whole answer
run : (c : After-past_run) (q : Result Cursor Misread) → c.past_run.result ≡ q
    → let a = c.args in
    RanTo a.id a.t.now a.s.now a.c.at (after_run c.in-Some.piece.mark) (row_of c.loop-piece.row) (lit_ans q)
run c q e = read_run _ _ c.loop-piece.invariant c.in-Some.ensures.fields c.past_run.result q c.past_run.ensures e

pub returns-in_default-past_run : goal.returns-in_default-past_run
returns-in_default-past_run c = run (goal.at.returns-in_default-past_run c).After-past_run _ c.in_default-past_run.is

pub returns-in_default-mark : goal.returns-in_default-mark
returns-in_default-mark c = read_end (run (goal.at.returns-in_default-mark c).After-past_run _ c.in-Ok.is) (ap after_run c.in_default-mark.is)

-- what the field that was read says of the whole answer
turn : (c : After-read_field) (q : Result (Value × Cursor) Misread) → c.read_field.result ≡ q
    → let a = c.args in
    AnsTo a.id a.t.now a.s.now a.c.at (runs c.in-Some-mark.more.now) (field_row (row_of c.loop-piece.row) q)
turn c q e =
    let r = read_run _ _ c.loop-piece.invariant c.in-Some.ensures.fields c.past_run.result _ c.past_run.ensures c.in-Ok.is in
    read_mark _ _ r (ap after_run c.in-Some-mark.is) c.kind_of.ensures c.read_field.result q c.read_field.ensures e

pub returns-in_default-read_field : goal.returns-in_default-read_field
returns-in_default-read_field c = turn (goal.at.returns-in_default-read_field c).After-read_field _ c.in_default-read_field.is

pub loop-piece-preserved : goal.loop-piece-preserved
loop-piece-preserved c = rw c.keep.ensures (turn (goal.at.loop-piece-preserved c).After-read_field _ c.in-Ok-read_field.is)

pub returns : goal.returns
returns c = read_end c.loop-piece.invariant (ap runs c.in_default.ensures.fields)
