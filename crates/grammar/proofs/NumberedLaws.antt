-- A numbered list is read where it stands, if its elements and its end are, and no element is taken for the end.
-- Assumes nothing.
use Prim.Native.Nat.{ℕ, zero, suc, ◌+◌, ◌-◌, ◌≤◌, ◌<◌}
use mathlib.Core.Path.{◌≡◌, refl, sym, ap, ap₂, ◌∙◌, subst}
use mathlib.Core.List.{List, [], ◌∷◌, ◌++◌, append_assoc}
use native.Mathlib.Omega.{arith}
use native.Mathlib.Nat.{add-zero}
use lib.ListN.{length}
use Rattle.token.specs.Ans.{Ans, got, bad, keep, Stands}
use Rattle.token.proofs.StandsLaws.{left, right, kept}
use Rattle.grammar.specs.Codec.{Codec, There, Moves, Moved}
use Rattle.grammar.specs.Numbered.{list_step, list_at, list_from, with_end, read_list, write_all, GoodAll, numbered}

-- an answer is no refusal
pub never : {A : Type 0} {a : A} {p k q : ℕ} {X : Type 0} → ◌≡◌ {A = Ans A} (bad k q) (got a p) → X
never e = let z : ◌≡◌ {A = ℕ} 0 1 = cc in absurd (omega arith)

-- what a turn says of the whole list
abbrev until_step : {A B : Type 0} → Ans B → Ans A → (ℕ → Ans (List A × B)) → Ans (List A × B)
until_step (got b p) one more = got ([], b) p
until_step (bad k p) one more = keep one (λ a q. keep (more q) (λ l r. got (a ∷ l.0, l.1) r))

ended_more : {A B : Type 0} (a : A) (l : List A) (x : Ans B) → with_end (a ∷ l, x) ≡ keep (with_end (l, x)) (λ m r. got (a ∷ m.0, m.1) r)
ended_more a l (got b p) = refl
ended_more a l (bad k p) = refl

ended_step : {A B : Type 0} (x : Ans B) (y : Ans A) (more : ℕ → List A × Ans B) → with_end (list_step x y more) ≡ until_step x y (λ q. with_end (more q))
ended_step (got b p) y more = refl
ended_step (bad k p) (got a q) more = ended_more a (more q).0 (more q).1
ended_step (bad k p) (bad j q) more = refl

module _ {A B : Type 0} (C : ℕ → Codec A) (E : ℕ → Codec B) (M : (id : ℕ) → Moves (C id)) (s : List ℕ) where
  fuel_enough : (f g id at : ℕ) → length s - at < f → length s - at < g → list_at f id C E s at ≡ list_at g id C E s at
  unfolding list_at
  fuel_enough zero g id at h k = absurd (omega arith)
  fuel_enough (suc f) zero id at h k = absurd (omega arith)
  fuel_enough (suc f) (suc g) id at h k = go (λ (q : ℕ) y z. fuel_enough f g (id + 1) q y z) ((E id).read s at) ((C id).read s at) refl
    where
      go : ((q : ℕ) → length s - q < f → length s - q < g → list_at f (id + 1) C E s q ≡ list_at g (id + 1) C E s q) → (x : Ans B) (y : Ans A) → (C id).read s at ≡ y
          → list_step x y (λ q. list_at f (id + 1) C E s q) ≡ list_step x y (λ q. list_at g (id + 1) C E s q)
      go ih (got u p) y e = refl
      go ih (bad n p) (bad m q) e = refl
      go ih (bad n p) (got a q) e =
          let m = M id s at a q e in
          let fw = m.forward in
          let ins = m.inside in
          ap (λ (x : List A × Ans B). (a ∷ x.0, x.1)) (ih q (omega arith) (omega arith))

  -- what one turn comes to
  pub from_step : (id at : ℕ) → list_from id C E s at ≡ list_step ((E id).read s at) ((C id).read s at) (λ q. list_from (id + 1) C E s q)
  unfolding list_from list_at
  from_step id at = fuel_enough (suc (length s)) (suc (suc (length s))) id at (omega arith) (omega arith)

  pub list_step_lem : (id at : ℕ) → read_list id C E s at ≡ until_step ((E id).read s at) ((C id).read s at) (λ q. read_list (id + 1) C E s q)
  unfolding read_list
  list_step_lem id at = ap with_end (from_step id at) ∙ ended_step ((E id).read s at) ((C id).read s at) (λ q. list_from (id + 1) C E s q)

  -- no more elements than bytes are left
  few_at : (f id at : ℕ) → length (list_at f id C E s at).0 ≤ length s - at
  unfolding list_at
  few_at zero id at = omega arith
  few_at (suc f) id at = go (λ (q : ℕ). few_at f (id + 1) q) ((E id).read s at) ((C id).read s at) refl
    where
      go : ((q : ℕ) → length (list_at f (id + 1) C E s q).0 ≤ length s - q) → (x : Ans B) (y : Ans A) → (C id).read s at ≡ y → length (list_step x y (λ q. list_at f (id + 1) C E s q)).0 ≤ length s - at
      go ih (got u p) y e = omega arith
      go ih (bad n p) (bad m q) e = omega arith
      go ih (bad n p) (got a q) e = let m = M id s at a q e in omega (arith, ih q, m.forward, m.inside)

  pub few_elements : (id at : ℕ) → length (list_from id C E s at).0 ≤ length s
  unfolding list_from
  few_elements id at = omega (arith, few_at (suc (length s)) id at)

  pub list_end : (id at : ℕ) (b : B) (p : ℕ) → (E id).read s at ≡ got b p → read_list id C E s at ≡ got ([], b) p
  list_end id at b p e = list_step_lem id at ∙ ap (λ x. until_step x ((C id).read s at) (λ q. read_list (id + 1) C E s q)) e

  pub list_more : (id at k m : ℕ) (a : A) (q : ℕ) → (E id).read s at ≡ bad k m → (C id).read s at ≡ got a q → read_list id C E s at ≡ keep (read_list (id + 1) C E s q) (λ l r. got (a ∷ l.0, l.1) r)
  list_more id at k m a q e h = list_step_lem id at ∙ ap₂ (λ x y. until_step x y (λ q. read_list (id + 1) C E s q)) e h

-- what an element writes is not taken for the end
abbrev pub Apart : {A B : Type 0} → Codec A → Codec B → Type 0
Apart {A} {B} C E = (s : List ℕ) (at : ℕ) (a : A) (p : ℕ) → C.good a → Stands s at (C.write a) p → (b : B) (q : ℕ) → E.read s at ≡ got b q → ⊥

shift : (id n : ℕ) → id + 1 + n ≡ id + suc n
shift id n = omega arith

module _ {A B : Type 0} (C : ℕ → Codec A) (E : ℕ → Codec B) (M : (id : ℕ) → Moves (C id)) where
  pub numbered_there : ((id : ℕ) → There (C id)) → ((id : ℕ) → There (E id)) → ((id : ℕ) → Apart (C id) (E id)) → (id : ℕ) → There (numbered id C E)
  numbered_there T U apart id s at x p g st = go s x.0 x.1 id at p g.0 g.1 st
    where
      go : (s : List ℕ) (l : List A) (b : B) (id at p : ℕ) → GoodAll id C l → (E (id + length l)).good b → Stands s at (write_all id C l ++ (E (id + length l)).write b) p → read_list id C E s at ≡ got (l, b) p
      go s [] b id at p g h st =
          list_end C E M s id at b p
          (U id s at b p (subst (λ (n : ℕ). (E n).good b) (add-zero id) h) (subst (λ (n : ℕ). Stands s at ((E n).write b) p) (add-zero id) st))
      go s (a ∷ l) b id at p g h st =
          let v = (C id).write a in
          let w = write_all (id + 1) C l ++ (E (id + 1 + length l)).write b in
          let h' = subst (λ (n : ℕ). (E n).good b) (sym (shift id (length l))) h in
          let st' : Stands s at (v ++ w) p = subst (λ (n : ℕ). Stands s at (v ++ (write_all (id + 1) C l ++ (E n).write b)) p) (sym (shift id (length l))) (rw append_assoc at st) in
          let x = left s at v w p st' in
          over x g.0 ((E id).read s at) refl (T id s at a (at + length v) g.0 x)
          ∙ ap (λ y. keep y (λ m r. got (a ∷ m.0, m.1) r)) (go s l b (id + 1) (at + length v) p g.1 h' (right s at v w p st'))
        where
          over : Stands s at ((C id).write a) (at + length ((C id).write a)) → (C id).good a → (y : Ans B) → (E id).read s at ≡ y → (C id).read s at ≡ got a (at + length ((C id).write a))
              → read_list id C E s at ≡ keep (read_list (id + 1) C E s (at + length ((C id).write a))) (λ m r. got (a ∷ m.0, m.1) r)
          over x g (got c q) e t = absurd (apart id s at a (at + length ((C id).write a)) g x c q e)
          over x g (bad k q) e t = list_more C E M s id at k q a (at + length ((C id).write a)) e t

  -- what a reading of a list came from: its end, or an element and the rest
  module _ (s : List ℕ) where
    pub record More (id at : ℕ) (a : A) (l : List A) (b : B) (p : ℕ) : Type 0 where
      pub place : ℕ
      pub one : (C id).read s at ≡ got a place
      pub rest : read_list (id + 1) C E s place ≡ got (l, b) p

    pub over : (id at : ℕ) (b : B) (p : ℕ) → read_list id C E s at ≡ got ([], b) p → (E id).read s at ≡ got b p
    over id at b p e = go ((E id).read s at) refl (sym (list_step_lem C E M s id at) ∙ e)
      where
        go : (x : Ans B) → (E id).read s at ≡ x → until_step x ((C id).read s at) (λ q. read_list (id + 1) C E s q) ≡ got ([], b) p → (E id).read s at ≡ got b p
        go (got c q) i h =
            let k : q ≡ p = cc in
            let j : ◌≡◌ {A = List A × B} ([], c) ([], b) = cc in
            i ∙ ap₂ got (ap (λ (y : List A × B). y.1) j) k
        go (bad n q) i h =
            let r = kept ((C id).read s at) _ _ p h in
            let m = kept (read_list (id + 1) C E s r.1) _ _ p r.3 in
            let z : ◌≡◌ {A = Ans (List A × B)} (got (r.0 ∷ m.0.0, m.0.1) m.1) (got ([], b) p) = m.3 in
            let j : ◌≡◌ {A = List A × B} (r.0 ∷ m.0.0, m.0.1) ([], b) = cc in
            let y : ◌≡◌ {A = List A} (r.0 ∷ m.0.0) [] = ap (λ (y : List A × B). y.0) j in
            let n : ◌≡◌ {A = ℕ} 0 1 = cc in
            absurd (omega arith)

    pub went : (id at : ℕ) (a : A) (l : List A) (b : B) (p : ℕ) → read_list id C E s at ≡ got (a ∷ l, b) p → More id at a l b p
    went id at a l b p e = go ((E id).read s at) refl (sym (list_step_lem C E M s id at) ∙ e)
      where
        go : (x : Ans B) → (E id).read s at ≡ x → until_step x ((C id).read s at) (λ q. read_list (id + 1) C E s q) ≡ got (a ∷ l, b) p → More id at a l b p
        go (got c q) i h =
            let j : ◌≡◌ {A = List A × B} ([], c) (a ∷ l, b) = cc in
            let y : ◌≡◌ {A = List A} [] (a ∷ l) = ap (λ (y : List A × B). y.0) j in
            let n : ◌≡◌ {A = ℕ} 0 1 = cc in
            absurd (omega arith)
        go (bad n q) i h =
            let r = kept ((C id).read s at) _ _ p h in
            let m = kept (read_list (id + 1) C E s r.1) _ _ p r.3 in
            let z : ◌≡◌ {A = Ans (List A × B)} (got (r.0 ∷ m.0.0, m.0.1) m.1) (got (a ∷ l, b) p) = m.3 in
            let j : ◌≡◌ {A = List A × B} (r.0 ∷ m.0.0, m.0.1) (a ∷ l, b) = cc in
            let y : ◌≡◌ {A = List A} (r.0 ∷ m.0.0) (a ∷ l) = ap (λ (y : List A × B). y.0) j in
            let ea : r.0 ≡ a = cc in
            let el : m.0.0 ≡ l = cc in
            let eb : m.0.1 ≡ b = ap (λ (y : List A × B). y.1) j in
            let ep : m.1 ≡ p = cc in
            record { place = r.1; one = r.2 ∙ ap (λ y. got y r.1) ea; rest = m.2 ∙ ap₂ (λ x y. got (x, m.0.1) y) el ep ∙ ap (λ y. got (l, y) p) eb }

  pub numbered_moves : ((id : ℕ) → Moves (E id)) → (id : ℕ) → Moves (numbered id C E)
  numbered_moves N id s at x p e = go x.0 x.1 id at e
    where
      go : (l : List A) (b : B) (id at : ℕ) → read_list id C E s at ≡ got (l, b) p → Moved (numbered id C E) s at (l, b) p
      go [] b id at e =
          let m = N id s at b p (over s id at b p e) in
          record { good = (tt, subst (λ (n : ℕ). (E n).good b) (sym (add-zero id)) m.good); forward = m.forward; inside = m.inside }
      go (a ∷ l) b id at e =
          let w = went s id at a l b p e in
          let one = M id s at a w.place w.one in
          let rest = go l b (id + 1) w.place w.rest in
          record {
            good = ((one.good, rest.good.0), subst (λ (n : ℕ). (E n).good b) (shift id (length l)) rest.good.1);
            forward = omega (arith, one.forward, rest.forward);
            inside = rest.inside;
          }

  -- a list has fewer elements than the text has bytes
  pub numbered_long : ((id : ℕ) → Moves (E id)) → (s : List ℕ) (l : List A) (b : B) (id at p : ℕ) → read_list id C E s at ≡ got (l, b) p → (at + length l < p) × (p ≤ length s)
  numbered_long N s [] b id at p e = let m = N id s at b p (over s id at b p e) in (omega (arith, m.forward), m.inside)
  numbered_long N s (a ∷ l) b id at p e =
      let w = went s id at a l b p e in
      let fw = (M id s at a w.place w.one).forward in
      let r = numbered_long N s l b (id + 1) w.place p w.rest in
      (omega (arith, r.0), r.1)
