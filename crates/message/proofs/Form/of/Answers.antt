use Prim.Native.Nat.{ℕ, zero, suc}
use native.Mathlib.Omega.{arith}
use mathlib.Core.Path.{◌≡◌, refl, sym}
use Rattle.message.specs.Message.{form_of, no_lists}
use Rattle.message.proofs.Form.of.Goals as goal

-- any other package has no lists
other : (k : ℕ) → (k ≡ 3 → ⊥) → (k ≡ 4 → ⊥) → (k ≡ 5 → ⊥) → form_of k ≡ no_lists
unfolding form_of
other zero a b c = refl
other (suc zero) a b c = refl
other (suc (suc zero)) a b c = refl
other (suc (suc (suc zero))) a b c = absurd (a refl)
other (suc (suc (suc (suc zero)))) a b c = absurd (b refl)
other (suc (suc (suc (suc (suc zero))))) a b c = absurd (c refl)
other (suc (suc (suc (suc (suc (suc zero)))))) a b c = refl
other (suc (suc (suc (suc (suc (suc (suc k))))))) a b c = refl

pub returns-in-3 : goal.returns-in-3
unfolding form_of
returns-in-3 c = rw c.in-3.is

pub returns-in-4 : goal.returns-in-4
unfolding form_of
returns-in-4 c = rw c.in-4.is

pub returns-in-5 : goal.returns-in-5
unfolding form_of
returns-in-5 c = rw c.in-5.is

pub returns-in_default : goal.returns-in_default
returns-in_default c = sym (other c.args.pkg (λ e. omega arith) (λ e. omega arith) (λ e. omega arith))
