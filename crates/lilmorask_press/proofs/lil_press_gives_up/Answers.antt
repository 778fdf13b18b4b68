use Prim.Native.Nat.{ℕ}
use mathlib.Core.Path.{◌≡◌, refl, sym, subst}
use borrow.Author.Rules.{rules}
use Rattle.std.proofs.Common.{Result, Ok, Err}
use Rattle.terms.specs.declared.Refusal.{Refusal}
use Rattle.cards.specs.declared.Press.{Press}
use Rattle.cards.specs.Press.{press_gives_up}
use Rattle.press_sends.specs.InRange.{PressInRange}
use Rattle.press_sends.proofs.EditLaws.{given_up_in_range}
use Rattle.image.specs.OnImage.{did}
use Rattle.image.specs.Call.{result_as, told_in}
use Rattle.lilmorask_press.proofs.lil_press_gives_up.Goals as goal

does : (p : Press) (r : Result Unit Refusal) (q : Press) → r ≡ Ok tt → q ≡ press_gives_up p → (result_as (λ u. 0) r q ≡ did 0 (press_gives_up p)) × (PressInRange p → PressInRange q)
does p r q e k = (rw (e, k), λ h. subst PressInRange (sym k) (given_up_in_range p h))

nothing : (d : Result Unit ℕ) → told_in (λ u. 0) d 0 ≡ 0
nothing (Ok u) = refl
nothing (Err k) = refl

pub returns : goal.returns
returns c =
    let w = c.call-closed.ensures (λ u. 0) (λ p. did 0 (press_gives_up p)) (λ p r q ran. does p r q (search rules) (search rules)) 0 in
    rw c.number_of.ensures (rw (nothing c.call-closed.result) at w)
