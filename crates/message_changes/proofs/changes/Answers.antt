use mathlib.Core.Path.{sym, ap, ◌∙◌}
use native.Mathlib.Omega.{arith}
use Rattle.std.proofs.lemmas.Result.{err_from_is_err_and}
use Rattle.message.proofs.AgainLaws.{taken_no}
use Rattle.message_changes.specs.Shown.{shown_of}
use Rattle.message_changes.proofs.ShownLaws.{few_packages}
use Rattle.message_changes.proofs.changes.Goals as goal

pub returns-in_err-content : goal.returns-in_err-content
returns-in_err-content c =
    let p = err_from_is_err_and c.from_residual.result c.from_residual.ensures.1 in
    rw (p.1, p.2) (sym (ap shown_of (taken_no _ _ (sym c.in_err-content.was ∙ c.read.ensures))))

pub overflow_cast-result : goal.overflow_cast-result
overflow_cast-result c = omega (arith, few_packages _ _ (sym c.in_ok-content.was ∙ c.read.ensures))
