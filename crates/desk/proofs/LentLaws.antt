-- A call with so much of an output lent as there is room for. Assumes nothing.
use Prim.Native.Nat.{ℕ, ◌≤◌, ◌<◌, min}
use mathlib.Core.Path.{◌≡◌, refl, sym, ap, ap₂, ◌∙◌}
use mathlib.Core.Bool.{Bool, true, false, cond}
use mathlib.Core.List.{List, ◌++◌}
use native.Mathlib.Omega.{arith}
use lib.Dec.{ltb}
use lib.ListN.{length, take, drop, drop_of_length-le}
use lib.Seq.{take_all, length-take-le}
use borrow.Author.Tests.{ltb-true, ltb-false}
use Rattle.calls.specs.Reply.{Reply}
use Rattle.calls.specs.After.{After, after}
use Rattle.desk.specs.Lent.{longer, within, at_most}

pub lesser : (n room : ℕ) → min n room ≡ at_most n room
lesser n room = go (ltb room n) refl
  where
    go : (b : Bool) → ltb room n ≡ b → min n room ≡ cond b room n
    go true e = let less : room < n = ltb-true room n e in omega (arith, less)
    go false e = let more : n ≤ room = ltb-false room n e in omega (arith, more)

pub at_most_room : (n room : ℕ) → at_most n room ≤ room
at_most_room n room = omega (arith, lesser n room)

module _ (n : ℕ) {k : ℕ} (out : List ℕ) (e : k ≡ min n (length out)) where
  pub lent_fits : k ≤ length out
  lent_fits = omega (arith, e)

  pub lent_length : k ≡ length (take k out)
  lent_length = sym (length-take-le k out lent_fits)

  pub lent_as : {S : Type 0} (call : List ℕ → After S) {r : Reply} {s : S} {o : List ℕ} → after r s o ≡ call (take k out) → after r s (o ++ drop k out) ≡ within call n out
  lent_as {S} call h = ap (λ (a : After S). longer a (drop k out)) h ∙ (ap (λ (j : ℕ). within call j out) (e ∙ lesser n (length out)) ∙ go (ltb (length out) n) refl)
    where
      go : (b : Bool) → ltb (length out) n ≡ b → within call (cond b (length out) n) out ≡ within call n out
      go true f =
          let less = ltb-true (length out) n f in
          let all : length out ≤ length out = omega arith in
          let most : length out ≤ n = omega (arith, less) in
          ap₂ (λ (l m : List ℕ). longer (call l) m) (take_all (length out) out all ∙ sym (take_all n out most)) (drop_of_length-le out all ∙ sym (drop_of_length-le out most))
      go false f = refl
