-- The press at Pkg 2, and Pkg 3 (01, "The six packages"; row 8 of "Refusal numbers").
use Rattle.std.specs.Prelude.{Bool, cond, ◌&&◌, eqb}
use Rattle.terms.specs.Check.{checked, or_refuse}
use Rattle.terms.specs.declared.Mode.{Mode}
use Rattle.terms.specs.declared.Mode.TheVariants.{Normal, Recovery}
use Rattle.cards.specs.declared.Awaits.{Awaits}
use Rattle.cards.specs.declared.Press.{Press}
use Rattle.elements.specs.declared.Head.{Head}
use Rattle.elements.specs.Kinds.{is_true}
use Rattle.message.specs.declared.Content.{Content}
use Rattle.packages.specs.Package.{head2, head3, packed, refs_fit}
use Rattle.press_tells.specs.Tell.{reports, commands}
use Rattle.press_rules.specs.Took.{Took}
use Rattle.press_rules.specs.Took.{refused, taken, press_with}

-- 8: references of the fixed statuses, or a Next that is not the session number
abbrev pub lawful2 : Press → Head → Bool
lawful2 p h = refs_fit (head2 p.session 0 Normal) h && eqb h.next p.session

-- the mode is what ChangeLogValidity says
abbrev pub mode_in : Head → Mode
mode_in h = cond (eqb h.valid is_true) Normal Recovery

-- Pkg 3: all reports, then the mode's commands; the press awaits Pkg 4
abbrev pub sends_pkg3 : Press → Mode → Took
sends_pkg3 p m = taken (press_with p.cards p.anchor p.session (Awaits.Four m)) (packed (head3 p.session) (reports p.cards) (commands m p.cards))

unfoldable pub press_takes2 : Press → Content → Took
press_takes2 p x = or_refuse (checked (lawful2 p x.head)) (refused p) (sends_pkg3 p (mode_in x.head))
