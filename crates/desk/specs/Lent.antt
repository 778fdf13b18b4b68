-- A call with so much of an output lent (docs/BENCH.md, "lend"): the bytes past the lent ones stay; and what the bench answers for it.
use Rattle.std.specs.Prelude.{ℕ, cond, List, ◌++◌, ltb, take, drop}
use Rattle.calls.specs.Reply.{Reply}
use Rattle.calls.specs.After.{After, after}
use Rattle.answers.specs.Said.{Said}

abbrev pub longer : {S : Type 0} → After S → List ℕ → After S
longer a rest = after a.reply a.side (a.output ++ rest)

abbrev pub within : {S : Type 0} → (List ℕ → After S) → ℕ → List ℕ → After S
within call n out = longer (call (take n out)) (drop n out)

-- n bytes, or all that there is room for
abbrev pub at_most : ℕ → ℕ → ℕ
at_most n room = cond (ltb room n) room n

-- the answer, `done`, or `refused N`
abbrev pub said_of : Reply → Said
said_of (Reply.Written n) = Said.Standing n
said_of Reply.Done = Said.Done
said_of (Reply.Refused n) = Said.Refused n
