-- What comes of making a press: whether it is made, or a refusal's number; beside a refusal stands what was asked for, which is not to be used.
use Rattle.std.specs.Prelude.{ℕ}
use Rattle.cards.specs.declared.Press.{Press}

pub data Made : Type 0 where
  Done : Made
  Refused : ℕ → Made

pub record Fresh : Type 0 where
  pub outcome : Made
  pub press : Press
