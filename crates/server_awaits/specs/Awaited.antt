-- The package that the server awaits (01, "Refusal numbers", rows 5 and 6), and what the rules make of it (row 8).
use Rattle.std.specs.Prelude.{ℕ, Bool, true, cond, ◌&&◌, ◌||◌, eqb, ltb}
use Rattle.records.specs.declared.Awaits.{Awaits}
use Rattle.records.specs.declared.Server.{Server}
use Rattle.elements.specs.declared.Head.{Head}
use Rattle.message.specs.declared.Content.{Content}
use Rattle.calls.specs.Due.{is_kind, is_due}
use Rattle.server_rules.specs.Took.{Took}
use Rattle.server_rules.specs.Pkg1.{server_takes1}
use Rattle.server_rules.specs.Pkg3.{server_takes3}
use Rattle.server_rules.specs.Pkg5.{server_takes5}

-- ---- 5: another kind than the one awaited, a wrong message number, or, except in Pkg 1, a wrong session number
-- a Pkg 1 on an open server with a higher session number is taken: the old session is over
abbrev pub opens_above : ℕ → Head → Bool
opens_above session h = is_kind 1 1 h && ltb session h.session

abbrev pub due_or_anew : ℕ → ℕ → ℕ → Head → Bool
due_or_anew pkg message session h = is_due pkg message session h || opens_above session h

-- a closed server awaits Pkg 1, an open one Pkg 3 or Pkg 5
abbrev pub awaited : Awaits → ℕ → Head → Bool
awaited Awaits.Nothing session h = is_kind 1 1 h
awaited (Awaits.Three m) session h = due_or_anew 3 2 session h
awaited (Awaits.Five n) session h = due_or_anew 5 3 session h

-- ---- 6: a Pkg 1 whose session number is not above the server's
abbrev pub is_new : ℕ → Head → Bool
is_new session h = cond (eqb h.pkg 1) (ltb session h.session) true

-- ---- 8: a Pkg 1 opens a session, whatever was awaited; any other package is the one awaited
abbrev pub later_does : Awaits → Server → Content → Took
later_does Awaits.Nothing s x = server_takes1 s x
later_does (Awaits.Three m) s x = server_takes3 m s x
later_does (Awaits.Five n) s x = server_takes5 n s x

abbrev pub server_does : Awaits → Server → Content → Took
server_does a s x = cond (eqb x.head.pkg 1) (server_takes1 s x) (later_does a s x)
