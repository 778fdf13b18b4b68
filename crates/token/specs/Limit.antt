-- How long a message may be (01, "Written form").
use Rattle.std.specs.Prelude.{ℕ}

abbrev pub limit : ℕ
limit = 32768
