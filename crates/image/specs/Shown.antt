-- What a program in C or Rust is shown: a number that is given back, and numbers and a text in what it lent; beside a number that is not 0 these stay.
use Rattle.std.specs.Prelude.{ℕ, List}

pub record Shown : Type 0 where
  pub number : ℕ
  pub numbers : List ℕ
  pub text : List ℕ

abbrev pub shown : ℕ → List ℕ → List ℕ → Shown
shown n ns t = record { number = n; numbers = ns; text = t }
