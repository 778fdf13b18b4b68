use Rattle.std.proofs.Common.{◌≡◌, refl, rules}
use Rattle.terms.specs.Refusal.{number_of}
use Rattle.answers.specs.Said.{Said, said_as}
use Rattle.wire.proofs.CourseLaws.{breaks_refused, breaks_cut, answer_is}
use Rattle.wire.proofs.breaks.Goals as goal

pub returns-in_err-course : goal.returns-in_err-course
returns-in_err-course c =
    let a = c.args in
    let r : said_as c.from_residual.result ≡ Said.Refused (number_of c.in_err-course.field-0.0) = search rules in
    rw r (breaks_refused a.desk.now a.wire.now a.out.now a.k _ c.in_err-course.ensures refl)

pub returns : goal.returns
returns c =
    let a = c.args in
    breaks_cut a.desk.now a.wire.now a.out.now a.k _ c.in_ok-course.ensures _ _ (answer_is c.in_ok-course.field-0) c.cut.ensures refl
