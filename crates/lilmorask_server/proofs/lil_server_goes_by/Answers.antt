use Prim.Native.Nat.{ℕ}
use mathlib.Core.Path.{◌≡◌, refl, sym, subst}
use borrow.Author.Rules.{rules}
use Rattle.std.proofs.Common.{Result, Ok, Err}
use Rattle.terms.specs.declared.Refusal.{Refusal}
use Rattle.records.specs.declared.Server.{Server}
use Rattle.records.specs.Server.{server_goes_by}
use Rattle.server_image.specs.Image.{rule_of}
use Rattle.server_sends.specs.InRange.{ServerInRange}
use Rattle.server_sends.proofs.EditLaws.{rule_in_range}
use Rattle.image.specs.OnImage.{did}
use Rattle.image.specs.Call.{result_as, told_in}
use Rattle.lilmorask_server.proofs.lil_server_goes_by.Goals as goal

does : (b : ℕ) (p : Server) (r : Result Unit Refusal) (q : Server) → r ≡ Ok tt → q ≡ server_goes_by (rule_of b) p → (result_as (λ u. 0) r q ≡ did 0 (server_goes_by (rule_of b) p)) × (ServerInRange p → ServerInRange q)
does b p r q e k = (rw (e, k), λ h. subst ServerInRange (sym k) (rule_in_range p h (rule_of b)))

nothing : (d : Result Unit ℕ) → told_in (λ u. 0) d 0 ≡ 0
nothing (Ok u) = refl
nothing (Err k) = refl

pub returns : goal.returns
returns c =
    let w = c.call-ruled.ensures (λ u. 0) (λ p. did 0 (server_goes_by (rule_of c.args.rule) p)) (λ p r q ran. does c.args.rule p r q (search rules) (search rules)) 0 in
    rw c.number_of.ensures (rw (nothing c.call-ruled.result) at w)
