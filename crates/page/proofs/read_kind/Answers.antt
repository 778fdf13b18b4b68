use Prim.Native.Nat.{ℕ}
use mathlib.Core.Path.{sym, ap, ◌∙◌}
use Rattle.token.proofs.Told.{told}
use Rattle.shape.specs.Shape.{row_at, row_ans}
use Rattle.page.specs.Page.{shape}
use Rattle.page.specs.Kind.{second_as}
use Rattle.page.proofs.KindLaws.{spelled_first, spelled_second}
use Rattle.page.proofs.read_kind.Goals as goal

pub returns-in-Ok : goal.returns-in-Ok
returns-in-Ok c = sym (spelled_first _ _ _ _ (told row_ans c.read_line.ensures c.in-Ok.is))

-- where the first line did not read, the second decides
pub returns-in-Some : goal.returns-in-Some
returns-in-Some c =
    let a = c.args in
    c.read_line-in-Some.ensures
    ∙ ap (λ (j : ℕ). row_at (shape j) a.id a.s.now a.c.at) (ap (second_as a.k) (sym c.in-Some.is) ∙ c.second_line.ensures)
    ∙ spelled_second _ _ _ _ (told row_ans c.read_line.ensures c.in-Err.is)

pub returns-in-None : goal.returns-in-None
returns-in-None c =
    let a = c.args in
    let e = told row_ans c.read_line.ensures c.in-Err.is in
    sym e
    ∙ ap (λ (j : ℕ). row_at (shape j) a.id a.s.now a.c.at) (ap (second_as a.k) (sym c.in-None.is) ∙ c.second_line.ensures)
    ∙ spelled_second _ _ _ _ e
