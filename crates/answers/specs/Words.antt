-- What stands where there is no number (docs/BENCH.md).
use Rattle.std.specs.Prelude.{ℕ, cond, List, eqb}
use Rattle.token.specs.Number.{digits}

-- a number, or these bytes where it is 0
abbrev pub number_or : List ℕ → ℕ → List ℕ
number_or w n = cond (eqb n 0) w (digits n)
