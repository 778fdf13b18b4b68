-- What a reader in code answers: what stands there with the place after it, or where it does not have the written form.
use Rattle.std.specs.Prelude.{Result, Ok, Err}
use Rattle.token.specs.Ans.{Ans, got, bad}
use Rattle.token.specs.declared.Cursor.{Cursor}
use Rattle.token.specs.declared.Misread.{Misread}

abbrev pub found_as : {A : Type 0} → Result (A × Cursor) Misread → Ans A
found_as (Ok x) = got x.0 x.1.at
found_as (Err e) = bad 7 e.place
