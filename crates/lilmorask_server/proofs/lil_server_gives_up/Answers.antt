use Prim.Native.Nat.{ℕ}
use mathlib.Core.Path.{◌≡◌, refl, sym, subst}
use borrow.Author.Rules.{rules}
use Rattle.std.proofs.Common.{Result, Ok, Err}
use Rattle.terms.specs.declared.Refusal.{Refusal}
use Rattle.records.specs.declared.Server.{Server}
use Rattle.records.specs.Server.{server_gives_up}
use Rattle.server_sends.specs.InRange.{ServerInRange}
use Rattle.server_sends.proofs.EditLaws.{given_up_in_range}
use Rattle.image.specs.OnImage.{did}
use Rattle.image.specs.Call.{result_as, told_in}
use Rattle.lilmorask_server.proofs.lil_server_gives_up.Goals as goal

does : (p : Server) (r : Result Unit Refusal) (q : Server) → r ≡ Ok tt → q ≡ server_gives_up p → (result_as (λ u. 0) r q ≡ did 0 (server_gives_up p)) × (ServerInRange p → ServerInRange q)
does p r q e k = (rw (e, k), λ h. subst ServerInRange (sym k) (given_up_in_range p h))

nothing : (d : Result Unit ℕ) → told_in (λ u. 0) d 0 ≡ 0
nothing (Ok u) = refl
nothing (Err k) = refl

pub returns : goal.returns
returns c =
    let w = c.call-closed.ensures (λ u. 0) (λ p. did 0 (server_gives_up p)) (λ p r q ran. does p r q (search rules) (search rules)) 0 in
    rw c.number_of.ensures (rw (nothing c.call-closed.result) at w)
