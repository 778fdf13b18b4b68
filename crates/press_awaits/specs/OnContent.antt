-- The press's calls on content (01, "Refusal numbers" and the paragraph below the table): a start is refused 1 or 2, a package 5, then 8. 7 and 9 are of bytes.
use Rattle.std.specs.Prelude.{ℕ, cond, eqb}
use Rattle.terms.specs.Check.{checked, or_refuse}
use Rattle.cards.specs.declared.Press.{Press}
use Rattle.message.specs.declared.Content.{Content}
use Rattle.calls.specs.Says.{done, Called, sending, refusing}
use Rattle.press_rules.specs.Took.{Took}
use Rattle.press_rules.specs.Pkg1.{Start, Started, press_starts}
use Rattle.press_awaits.specs.Awaited.{awaited, press_does}

-- ---- a start: Pkg 1 is sent, or 1 or 2 as the rules say
abbrev pub started_as : Press → Start → Started → Called Press Content
started_as p (Start.Refused n) t = refusing n p
started_as p Start.Open t = sending t.press t.answer

abbrev pub press_begins : Press → Called Press Content
press_begins p = started_as p (press_starts p).start (press_starts p)

-- ---- a package: 5, then 8; Pkg 6 has no answer
abbrev pub press_replies : ℕ → Took → Called Press Content
press_replies pkg t = cond (eqb pkg 6) (record { side = t.press; says = done }) (sending t.press t.answer)

abbrev pub press_ruled : Press → ℕ → Took → Called Press Content
press_ruled p pkg t = or_refuse t.check (refusing 8 p) (press_replies pkg t)

abbrev pub press_judges : Press → Content → Called Press Content
press_judges p x = or_refuse (checked (awaited p.awaits p.session x.head)) (refusing 5 p) (press_ruled p x.head.pkg (press_does p.awaits p x))
