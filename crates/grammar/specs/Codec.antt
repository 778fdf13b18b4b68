-- A written form of the values of A: what is written, which values have one, and what reading at a place finds.
use Rattle.std.specs.Prelude.{ℕ, ◌≤◌, ◌<◌, ◌≡◌, List, ◌++◌, length}
use Rattle.token.specs.Ans.{Ans, got, bad, keep, Stands}

pub record Codec (A : Type 0) : Type 1 where
  pub write : A → List ℕ
  pub good : A → Type 0
  pub read : List ℕ → ℕ → Ans A

-- what is written reads back, with the place after it
abbrev pub There : {A : Type 0} → Codec A → Type 0
There {A} C = (s : List ℕ) (at : ℕ) (a : A) (p : ℕ) → C.good a → Stands s at (C.write a) p → C.read s at ≡ got a p

-- what reads has a written form, however it was spelled; a reading goes forward and stays inside
pub record Moved {A : Type 0} (C : Codec A) (s : List ℕ) (at : ℕ) (a : A) (p : ℕ) : Type 0 where
  pub good : C.good a
  pub forward : at < p
  pub inside : p ≤ length s

abbrev pub Moves : {A : Type 0} → Codec A → Type 0
Moves {A} C = (s : List ℕ) (at : ℕ) (a : A) (p : ℕ) → C.read s at ≡ got a p → Moved C s at a p

-- reading, writing and reading again gives the same, however it was spelled
abbrev pub Again : {A : Type 0} → Codec A → Type 0
Again {A} C = (s : List ℕ) (at : ℕ) (a : A) (p : ℕ) → C.read s at ≡ got a p → (t : List ℕ) (from q : ℕ) → Stands t from (C.write a) q → C.read t from ≡ got a q

-- the same under other names
abbrev pub named : {A B : Type 0} → (A → B) → (B → A) → Codec A → Codec B
named f g C =
    record {
      write = λ b. C.write (g b);
      good = λ b. C.good (g b);
      read = λ s at. keep (C.read s at) (λ a p. got (f a) p);
    }

-- read in a second form too: written as C has it, and read as C has it or, where that does not read, as D has it
abbrev pub or_else : {A : Type 0} → Ans A → Ans A → Ans A
or_else (got a p) d = got a p
or_else (bad k p) d = d

abbrev pub also_as : {A : Type 0} → Codec A → Codec A → Codec A
also_as C D = record { write = C.write; good = C.good; read = λ s at. or_else (C.read s at) (D.read s at) }

-- one and then another that goes by it
abbrev pub seq_by : {A B : Type 0} → Codec A → (A → Codec B) → Codec (A × B)
seq_by C D =
    record {
      write = λ x. C.write x.0 ++ (D x.0).write x.1;
      good = λ x. C.good x.0 × (D x.0).good x.1;
      read = λ s at. keep (C.read s at) (λ a p. keep ((D a).read s p) (λ b q. got (a, b) q));
    }
