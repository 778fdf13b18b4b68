use mathlib.Core.Path.{sym, ap}
use native.Mathlib.Omega.{arith}
use Rattle.std.proofs.lemmas.Result.{err_from_is_err_and}
use Rattle.token.specs.Ans.{got, keep}
use Rattle.token.proofs.Told.{told}
use Rattle.page.specs.Kind.{kinded_ans}
use Rattle.page.proofs.KindLaws.{kinded_station}
use Rattle.elements.specs.Element.{to_placed, placed_at}
use Rattle.elements.proofs.read_element.Goals as goal

-- a station that was read is a byte
pub overflow_cast-placed : goal.overflow_cast-placed
overflow_cast-placed c = omega (arith, kinded_station _ _ _ _ _ (told kinded_ans c.first_kind.ensures c.in_ok-found.was))

pub returns : goal.returns
unfolding placed_at
returns c = sym (ap (λ x. keep x (λ a p. got (to_placed a) p)) (told kinded_ans c.first_kind.ensures c.in_ok-found.was))

pub returns-in_err-found : goal.returns-in_err-found
unfolding placed_at
returns-in_err-found c =
    let p = err_from_is_err_and c.from_residual.result c.from_residual.ensures.1 in
    rw (p.1, p.2) (sym (ap (λ x. keep x (λ a p. got (to_placed a) p)) (told kinded_ans c.first_kind.ensures c.in_err-found.was)))
