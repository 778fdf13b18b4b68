use mathlib.Core.Path.{sym, ap, ◌∙◌}
use Rattle.std.proofs.lemmas.Result.{err_from_is_err_and}
use Rattle.token.specs.Ans.{got, keep}
use Rattle.token.proofs.Told.{told}
use Rattle.page.specs.Kind.{kinded_ans}
use Rattle.elements.specs.Element.{to_head}
use Rattle.elements.proofs.PlacedLaws.{head_in}
use Rattle.elements.proofs.read_head.Goals as goal

pub returns : goal.returns
returns c = sym (head_in _ _ ∙ ap (λ x. keep x (λ a p. got (to_head a) p)) (told kinded_ans c.first_kind.ensures c.in_ok-found.was))

pub returns-in_err-found : goal.returns-in_err-found
returns-in_err-found c =
    let p = err_from_is_err_and c.from_residual.result c.from_residual.ensures.1 in
    rw (p.1, p.2) (sym (head_in _ _ ∙ ap (λ x. keep x (λ a p. got (to_head a) p)) (told kinded_ans c.first_kind.ensures c.in_err-found.was)))
