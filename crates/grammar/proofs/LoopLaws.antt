-- What the turns of the loops come to that read a numbered list, or write it on.
-- Assumes nothing.
use Prim.Native.Nat.{ℕ, suc, ◌+◌, ◌≤◌}
use mathlib.Core.Path.{◌≡◌, refl, sym, ap, ap₂, ◌∙◌}
use mathlib.Core.List.{List, [], ◌∷◌, ◌++◌, append_assoc, append-nil}
use native.Mathlib.Omega.{arith}
use native.Mathlib.Nat.{add-zero}
use lib.ListN.{length, length-append}
use Rattle.token.specs.Ans.{Ans, got, bad}
use Rattle.token.specs.Put.{Put}
use Rattle.token.proofs.PutLaws.{put_seq}
use Rattle.grammar.specs.Codec.{Codec, Moves}
use Rattle.grammar.specs.Numbered.{list_step, list_from, write_all}
use Rattle.grammar.proofs.NumberedLaws.{from_step}

-- the elements d, and then what is still to come
abbrev pub prepend : {A B : Type 0} → List A → List A × Ans B → List A × Ans B
prepend d x = (d ++ x.0, x.1)

-- ---- how far a loop has come
module _ {A B : Type 0} (C : ℕ → Codec A) (E : ℕ → Codec B) (s : List ℕ) where
  -- from at₀, and the number id, past the elements `done` to `at`
  pub record Passed (id at₀ at : ℕ) (done : List A) : Type 0 where
    pub from : list_from id C E s at₀ ≡ prepend done (list_from (id + length done) C E s at)
    pub moved : at₀ + length done ≤ at
    pub room : length done ≤ length s

module _ {A B : Type 0} (C : ℕ → Codec A) (E : ℕ → Codec B) (M : (id : ℕ) → Moves (C id)) (s : List ℕ) where
  pub passed_none : (id at : ℕ) → Passed C E s id at at []
  passed_none id at = record { from = rw (add-zero id); moved = omega arith; room = omega arith }

  -- the turn at a place
  turn : {x : Ans B} {y : Ans A} (id at : ℕ) → (E id).read s at ≡ x → (C id).read s at ≡ y → list_from id C E s at ≡ list_step x y (λ q. list_from (id + 1) C E s q)
  turn id at e h = from_step C E M s id at ∙ ap₂ (λ u v. list_step u v (λ q. list_from (id + 1) C E s q)) e h

  pub passed_end : (id at₀ at : ℕ) (done : List A) (b : B) (p : ℕ) → Passed C E s id at₀ at done → (E (id + length done)).read s at ≡ got b p → list_from id C E s at₀ ≡ (done, got b p)
  passed_end id at₀ at done b p r e = r.from ∙ ap (prepend done) (turn (id + length done) at e refl) ∙ ap (λ (y : List A). (y, got b p)) (append-nil done)

  pub passed_bad : (id at₀ at : ℕ) (done : List A) (k m n q : ℕ) → Passed C E s id at₀ at done → (E (id + length done)).read s at ≡ bad k m → (C (id + length done)).read s at ≡ bad n q → list_from id C E s at₀ ≡ (done, bad n q)
  passed_bad id at₀ at done k m n q r e h = r.from ∙ ap (prepend done) (turn (id + length done) at e h) ∙ ap (λ (y : List A). (y, bad n q)) (append-nil done)

  pub passed_more : (id at₀ at : ℕ) (done : List A) (k m : ℕ) (a : A) (q : ℕ) → Passed C E s id at₀ at done → (E (id + length done)).read s at ≡ bad k m → (C (id + length done)).read s at ≡ got a q → Passed C E s id at₀ q (done ++ (a ∷ []))
  passed_more id at₀ at done k m a q r e h =
      let mv = M (id + length done) s at a q h in
      let ll = length-append done (a ∷ []) in
      let n : id + length done + 1 ≡ id + length (done ++ (a ∷ [])) = omega arith in
      let fw = mv.forward in
      let ins = mv.inside in
      let was = r.moved in
      let rest : List A × Ans B = list_from (id + length done + 1) C E s q in
      record {
        from =
            r.from
            ∙ ap (prepend done) (turn (id + length done) at e h)
            ∙ ap (λ (y : List A). (y, rest.1)) (sym (append_assoc done (a ∷ []) rest.0))
            ∙ ap (λ (i : ℕ). prepend (done ++ (a ∷ [])) (list_from i C E s q)) n;
        moved = omega arith;
        room = omega arith;
      }

-- ---- writing element after element
pub write_all_snoc : {A : Type 0} (id : ℕ) (C : ℕ → Codec A) (l : List A) (a : A) → write_all id C (l ++ (a ∷ [])) ≡ write_all id C l ++ (C (id + length l)).write a
write_all_snoc id C [] a = append-nil ((C id).write a) ∙ ap (λ (k : ℕ). (C k).write a) (sym (add-zero id))
write_all_snoc id C (b ∷ l) a =
    let e : id + 1 + length l ≡ id + suc (length l) = omega arith in
    ap (λ (y : List ℕ). (C id).write b ++ y) (write_all_snoc (id + 1) C l a ∙ ap (λ (k : ℕ). write_all (id + 1) C l ++ (C k).write a) e)
    ∙ sym (append_assoc ((C id).write b) (write_all (id + 1) C l) ((C (id + suc (length l))).write a))

pub put_more : {A : Type 0} (id : ℕ) (C : ℕ → Codec A) (done : List A) (a : A) {x y z : List ℕ} {at p q : ℕ} → Put x y at p (write_all id C done) → Put y z p q ((C (id + length done)).write a) → Put x z at q (write_all id C (done ++ (a ∷ [])))
put_more id C done a u v = rw (write_all_snoc id C done a) (put_seq u v)
