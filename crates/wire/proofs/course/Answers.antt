use Rattle.std.proofs.Common.{◌≡◌, ◌+◌, ◌-◌, true, false, Ok, refl, sym, ap, ◌∙◌, rules, arith}
use Rattle.terms.specs.Refusal.{number_of}
use Rattle.answers.specs.Said.{Said, said_as, is_message}
use Rattle.desk.specs.Desk.{saying}
use Rattle.wire.specs.Wire.{moved}
use Rattle.wire.proofs.CourseLaws.{go_on, go_stop, go_end, go_step, standing_is, other_is, course_law}
use Rattle.wire.proofs.course.Goals as goal
use Rattle.wire.proofs.course.Goals.{in-Standing, in_default}

pub returns-in_err-said : goal.returns-in_err-said
returns-in_err-said c =
    let a = c.args in
    let r : said_as c.from_residual.result ≡ Said.Refused (number_of c.in_err-said.field-0.0) = search rules in
    rw r
    (sym (go_stop _ (a.n - 1) refl) ∙ ap (go_on (a.n - 1)) c.in_err-said.ensures ∙ course_law a.desk.now a.wire.now a.out.now a.n)

pub loop-init : goal.loop-init
loop-init c =
    let a = c.args in
    ap (go_on (a.n - 1)) c.in_ok-said.ensures ∙ course_law a.desk.now a.wire.now a.out.now a.n

pub returns-in_err-said-2 : goal.returns-in_err-said-2
returns-in_err-said-2 c =
    let left = c.args.n - c.loop.counter in
    let more : left ≡ left - 1 + 1 = omega (arith, c.loop-test.true) in
    let r : said_as c.from_residual-in_err-said-2.result ≡ Said.Refused (number_of c.in_err-said-2.field-0.0) = search rules in
    let message : is_message (said_as (Ok c.loop.said)) ≡ true =
    elim c.match-matches.branch [ in-Standing w ↦ standing_is c.loop.said w.in-Standing.is | in_default w ↦ cc ] in
    rw r
    (sym (go_stop _ (left - 1) refl) ∙ go_step (moved (saying c.loop.desk (said_as (Ok c.loop.said))) c.loop.wire c.loop.out) left (left - 1) _ more message c.in_err-said-2.ensures ∙ c.loop.invariant)

pub loop-preserved : goal.loop-preserved
loop-preserved c =
    let left = c.args.n - c.loop.counter in
    let next = c.args.n - (c.loop.counter + 1) in
    let more : left ≡ next + 1 = omega (arith, c.loop-test.true) in
    let message : is_message (said_as (Ok c.loop.said)) ≡ true =
    elim c.match-matches.branch [ in-Standing w ↦ standing_is c.loop.said w.in-Standing.is | in_default w ↦ cc ] in
    go_step (moved (saying c.loop.desk (said_as (Ok c.loop.said))) c.loop.wire c.loop.out) left next _ more message c.in_ok-said-2.ensures ∙ c.loop.invariant

pub returns-after-loop : goal.returns-after-loop
returns-after-loop c = sym (go_end _ (c.args.n - c.loop.counter) (omega arith)) ∙ c.loop.invariant

pub returns-then-not-matches : goal.returns-then-not-matches
returns-then-not-matches c =
    let other : is_message (said_as (Ok c.loop.said)) ≡ false =
    elim c.match-matches.branch [ in-Standing w ↦ cc | in_default w ↦ other_is c.loop.said w.in_default.not-Standing ] in
    sym (go_stop _ (c.args.n - c.loop.counter) other) ∙ c.loop.invariant
