use mathlib.Core.Path.{sym, ap, ◌∙◌}
use Rattle.page.specs.Lines.{is_other}
use Rattle.page.proofs.LineLaws.{line_is, other_there}
use Rattle.page.proofs.read_line.Goals as goal

pub returns-then-is_other : goal.returns-then-is_other
returns-then-is_other c =
    let a = c.args in
    sym (other_there _ _ _ _ (sym (ap (is_other a.s.now a.c.at) c.line-line.ensures) ∙ sym c.is_other.ensures ∙ c.if-is_other.true))

pub returns : goal.returns
returns c = rw (← (line_is _ _ c.line-line.ensures).0) c.read.ensures
