use Rattle.std.proofs.Common.{◌≡◌, ◌-◌, Ok}
use Rattle.answers.specs.Said.{said_as}
use Rattle.course.specs.Course.{halted}
use Rattle.desk.specs.Desk.{saying}
use Rattle.wire.specs.Wire.{moved, answer, leaves}
use Rattle.wire.proofs.CourseLaws.{go_on}
use Rattle.wire.proofs.course.Given as goal

abbrev pub invariant-loop : goal.invariant-loop
invariant-loop l = go_on (l.n - l.counter) (moved (saying l.desk (said_as (Ok l.said))) l.wire l.out) ≡ leaves answer (halted l.n) l.fn.desk l.fn.wire l.fn.out
