use mathlib.Core.Path.{sym}
use Rattle.std.proofs.lemmas.Result.{err_from_is_err_and}
use Rattle.token.proofs.Told.{told}
use Rattle.shape.specs.Shape.{row_ans}
use Rattle.elements.proofs.PlacedLaws.{end_yes, end_no}
use Rattle.elements.proofs.read_end.Goals as goal

pub returns : goal.returns
returns c = sym (end_yes _ _ _ _ _ _ (told row_ans c.read_line.ensures c.in_ok-row.was))

pub returns-in_err-row : goal.returns-in_err-row
returns-in_err-row c =
    let p = err_from_is_err_and c.from_residual.result c.from_residual.ensures.1 in
    rw (p.1, p.2) (sym (end_no _ _ _ _ _ _ (told row_ans c.read_line.ensures c.in_err-row.was)))
