-- The package that the press awaits (01, "Refusal numbers", row 5), and what the rules make of it (row 8).
use Rattle.std.specs.Prelude.{ℕ, Bool, false}
use Rattle.cards.specs.declared.Awaits.{Awaits}
use Rattle.cards.specs.declared.Press.{Press}
use Rattle.elements.specs.declared.Head.{Head}
use Rattle.message.specs.declared.Content.{Content}
use Rattle.calls.specs.Due.{is_due}
use Rattle.press_rules.specs.Took.{Took, refused}
use Rattle.press_rules.specs.Pkg2.{press_takes2}
use Rattle.press_rules.specs.Pkg4.{press_takes4}
use Rattle.press_rules.specs.Pkg6.{press_takes6}

-- ---- 5: another kind than the one awaited, a wrong message number or a wrong session number; a closed press awaits nothing
abbrev pub awaited : Awaits → ℕ → Head → Bool
awaited Awaits.Nothing session h = false
awaited Awaits.Two session h = is_due 2 1 session h
awaited (Awaits.Four m) session h = is_due 4 2 session h
awaited Awaits.Six session h = is_due 6 3 session h

-- ---- 8: by what is awaited (on a closed press 5 came before)
abbrev pub press_does : Awaits → Press → Content → Took
press_does Awaits.Nothing p x = refused p
press_does Awaits.Two p x = press_takes2 p x
press_does (Awaits.Four m) p x = press_takes4 m p x
press_does Awaits.Six p x = press_takes6 p x
