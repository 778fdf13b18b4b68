-- Texts that stand one after the other, and what a chain of readers found.
-- Assumes nothing.
use Prim.Native.Nat.{ℕ, ◌+◌}
use mathlib.Core.Path.{◌≡◌, refl, sym, ap, ◌∙◌}
use mathlib.Core.List.{List, ◌++◌, append_assoc}
use native.Mathlib.Omega.{arith}
use lib.ListN.{length, drop, length-append}
use lib.Seq.{drop-drop, drop-append_seam}
use Rattle.token.specs.Ans.{Ans, got, bad, and_then, keep, Stands}

pub left : (s : List ℕ) (at : ℕ) (v w : List ℕ) (q : ℕ) → Stands s at (v ++ w) q → Stands s at v (at + length v)
left s at v w q x =
    let n = length-append v w in
    let e : drop at s ≡ v ++ (w ++ drop q s) = x.text ∙ append_assoc v w (drop q s) in
    let r : drop (at + length v) s ≡ w ++ drop q s = sym (drop-drop (length v) at s) ∙ ap (drop (length v)) e ∙ drop-append_seam v (w ++ drop q s) in
    record { text = e ∙ ap (λ (l : List ℕ). v ++ l) (sym r); next = refl; within = omega (arith, x.next, x.within) }

pub right : (s : List ℕ) (at : ℕ) (v w : List ℕ) (q : ℕ) → Stands s at (v ++ w) q → Stands s (at + length v) w q
right s at v w q x =
    let n = length-append v w in
    let e : drop at s ≡ v ++ (w ++ drop q s) = x.text ∙ append_assoc v w (drop q s) in
    let r : drop (at + length v) s ≡ w ++ drop q s = sym (drop-drop (length v) at s) ∙ ap (drop (length v)) e ∙ drop-append_seam v (w ++ drop q s) in
    record { text = r; next = omega (arith, x.next); within = x.within }

-- ---- what a chain of readers found
pub chain : {A B : Type 0} (at : ℕ) (x : Ans A) (f : A → ℕ → Ans B) (b : B) (q : ℕ) → and_then at x f ≡ got b q → (a : A) × (p : ℕ) × (x ≡ got a p) × (f a p ≡ got b q)
chain at (got a p) f b q e = (a, p, refl, e)
chain at (bad k p) f b q e = let z : ◌≡◌ {A = ℕ} 0 1 = cc in absurd (omega arith)

pub kept : {A B : Type 0} (x : Ans A) (f : A → ℕ → Ans B) (b : B) (q : ℕ) → keep x f ≡ got b q → (a : A) × (p : ℕ) × (x ≡ got a p) × (f a p ≡ got b q)
kept (got a p) f b q e = (a, p, refl, e)
kept (bad k p) f b q e = let z : ◌≡◌ {A = ℕ} 0 1 = cc in absurd (omega arith)
