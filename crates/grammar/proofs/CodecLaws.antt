-- The laws of a form under other names, of a form that is read in a second one too, and of one form after another.
-- Assumes nothing.
use Prim.Native.Nat.{ℕ, ◌+◌}
use mathlib.Core.Path.{◌≡◌, refl, sym, ap, ap₂, ◌∙◌, subst}
use mathlib.Core.List.{List}
use native.Mathlib.Omega.{arith}
use lib.ListN.{length}
use Rattle.token.specs.Ans.{Ans, got, bad, keep}
use Rattle.token.proofs.StandsLaws.{left, right, kept}
use Rattle.grammar.specs.Codec.{Codec, There, Moved, Moves, Again, named, or_else, also_as, seq_by}

-- what was read is a value and a place
pub value : {A : Type 0} {a b : A} {p q : ℕ} → got a p ≡ got b q → a ≡ b
value e = cc

pub place : {A : Type 0} {a b : A} {p q : ℕ} → got a p ≡ got b q → p ≡ q
place e = cc

-- ---- reading, writing and reading again: what reads has a written form, and that reads back
pub again : {A : Type 0} (C : Codec A) → There C → Moves C → Again C
again C T M s at a p e t from q st = T t from a q (M s at a p e).good st

-- ---- other names: they have to go back only from values that have a written form
module _ {A B : Type 0} (f : A → B) (g : B → A) (C : Codec A) where
  pub named_there : ((b : B) → C.good (g b) → f (g b) ≡ b) → There C → There (named f g C)
  named_there fg T s at b p h st = ap (λ x. keep x (λ a q. got (f a) q)) (T s at (g b) p h st) ∙ ap (λ x. got x p) (fg b h)

  -- what was read under the old names
  old : Moves C → ((a : A) → C.good a → g (f a) ≡ a) → (s : List ℕ) (at : ℕ) (b : B) (p : ℕ) → (named f g C).read s at ≡ got b p → C.read s at ≡ got (g b) p
  old M gf s at b p e =
      let r = kept (C.read s at) _ b p e in
      let h : r.0 ≡ g b = sym (gf r.0 (M s at r.0 r.1 r.2).good) ∙ ap g (value r.3) in
      r.2 ∙ ap₂ got h (place r.3)

  pub named_moves : ((a : A) → C.good a → g (f a) ≡ a) → Moves C → Moves (named f g C)
  named_moves gf M s at b p e =
      let m = M s at (g b) p (old M gf s at b p e) in
      record { good = m.good; forward = m.forward; inside = m.inside }

-- ---- a second form: whatever reads by it has a written form by the first
module _ {A : Type 0} (C D : Codec A) where
  pub also_there : There C → There (also_as C D)
  also_there T s at a p g st = ap (λ x. or_else x (D.read s at)) (T s at a p g st)

  pub also_moves : ((a : A) → D.good a → C.good a) → Moves C → Moves D → Moves (also_as C D)
  also_moves fits M N s at a p e = go (C.read s at) refl e
    where
      go : (x : Ans A) → C.read s at ≡ x → or_else x (D.read s at) ≡ got a p → Moved (also_as C D) s at a p
      go (got b q) i h = let m = M s at a p (i ∙ h) in record { good = m.good; forward = m.forward; inside = m.inside }
      go (bad k q) i h = let m = N s at a p h in record { good = fits a m.good; forward = m.forward; inside = m.inside }

-- ---- one after the other
module _ {A B : Type 0} (C : Codec A) (D : A → Codec B) where
  pub seq_by_there : There C → ((a : A) → C.good a → There (D a)) → There (seq_by C D)
  seq_by_there T U s at x p g st =
      let v = C.write x.0 in
      let w = (D x.0).write x.1 in
      rw (T s at x.0 (at + length v) g.0 (left s at v w p st), U x.0 g.0 s (at + length v) x.1 p g.1 (right s at v w p st))

  pub record Both (s : List ℕ) (at : ℕ) (x : A × B) (p : ℕ) : Type 0 where
    pub mid : ℕ
    pub one : C.read s at ≡ got x.0 mid
    pub other : (D x.0).read s mid ≡ got x.1 p

  pub parts : (s : List ℕ) (at : ℕ) (x : A × B) (p : ℕ) → (seq_by C D).read s at ≡ got x p → Both s at x p
  parts s at x p e =
      let r = kept (C.read s at) _ x p e in
      let t = kept ((D r.0).read s r.1) _ x p r.3 in
      let y : ◌≡◌ {A = A × B} (r.0, t.0) x = value t.3 in
      let k : t.1 ≡ p = place t.3 in
      subst (λ (u : A × B). Both s at u p) y (record { mid = r.1; one = r.2; other = t.2 ∙ ap (got t.0) k })

  pub seq_by_moves : Moves C → ((a : A) → C.good a → Moves (D a)) → Moves (seq_by C D)
  seq_by_moves M N s at x p e =
      let b = parts s at x p e in
      let m = M s at x.0 b.mid b.one in
      let n = N x.0 m.good s b.mid x.1 p b.other in
      record { good = (m.good, n.good); forward = omega (arith, m.forward, n.forward); inside = n.inside }
