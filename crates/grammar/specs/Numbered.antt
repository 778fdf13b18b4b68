-- A numbered list: its elements have the numbers id, id + 1 and so on, and what ends it has the number after them.
use Rattle.std.specs.Prelude.{ℕ, zero, suc, ◌+◌, List, [], ◌∷◌, ◌++◌, length}
use Rattle.token.specs.Ans.{Ans, got, bad, keep}
use Rattle.grammar.specs.Codec.{Codec}

-- where the end stands the list is over; else an element comes, and then the rest
abbrev pub list_step : {A B : Type 0} → Ans B → Ans A → (ℕ → List A × Ans B) → List A × Ans B
list_step (got b p) one more = ([], got b p)
list_step (bad k p) (got a q) more = (a ∷ (more q).0, (more q).1)
list_step (bad k p) (bad j q) more = ([], bad j q)

-- with fuel for fewer than `fuel` elements
unfoldable pub list_at : {A B : Type 0} → ℕ → ℕ → (ℕ → Codec A) → (ℕ → Codec B) → List ℕ → ℕ → List A × Ans B
list_at zero id C E s at = ([], bad 7 at)
list_at (suc fuel) id C E s at = list_step ((E id).read s at) ((C id).read s at) (λ q. list_at fuel (id + 1) C E s q)

-- the elements that read one after the other, and then the list's end, or the refusal of what stands there; no element is shorter than a byte
unfoldable pub list_from : {A B : Type 0} → ℕ → (ℕ → Codec A) → (ℕ → Codec B) → List ℕ → ℕ → List A × Ans B
list_from id C E s at = list_at (suc (length s)) id C E s at

-- the whole list: it reads if it has its end
abbrev pub with_end : {A B : Type 0} → List A × Ans B → Ans (List A × B)
with_end x = keep x.1 (λ b p. got (x.0, b) p)

unfoldable pub read_list : {A B : Type 0} → ℕ → (ℕ → Codec A) → (ℕ → Codec B) → List ℕ → ℕ → Ans (List A × B)
read_list id C E s at = with_end (list_from id C E s at)

abbrev pub write_all : {A : Type 0} → ℕ → (ℕ → Codec A) → List A → List ℕ
write_all id C [] = []
write_all id C (a ∷ l) = (C id).write a ++ write_all (id + 1) C l

abbrev pub GoodAll : {A : Type 0} → ℕ → (ℕ → Codec A) → List A → Type 0
GoodAll id C [] = Unit {0}
GoodAll id C (a ∷ l) = (C id).good a × GoodAll (id + 1) C l

abbrev pub numbered : {A B : Type 0} → ℕ → (ℕ → Codec A) → (ℕ → Codec B) → Codec (List A × B)
numbered id C E =
    record {
      write = λ x. write_all id C x.0 ++ (E (id + length x.0)).write x.1;
      good = λ x. GoodAll id C x.0 × (E (id + length x.0)).good x.1;
      read = λ s at. read_list id C E s at;
    }
