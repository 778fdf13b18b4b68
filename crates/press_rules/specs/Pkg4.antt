-- The press at Pkg 4, and Pkg 5 (01, "The six packages"; row 8 of "Refusal numbers").
use Rattle.std.specs.Prelude.{◌+◌, []}
use Rattle.terms.specs.Check.{checked, or_refuse}
use Rattle.terms.specs.declared.Mode.{Mode}
use Rattle.cards.specs.declared.Awaits.{Awaits}
use Rattle.cards.specs.declared.Cards.{Cards}
use Rattle.cards.specs.declared.Press.{Press}
use Rattle.message.specs.declared.Content.{Content}
use Rattle.listing.specs.Listing.{listing}
use Rattle.packages.specs.Package.{head5, listed, answers_in, commands_in}
use Rattle.press_tells.specs.Tell.{commands}
use Rattle.press_judges.specs.Lawful.{lawful4}
use Rattle.press_ends.specs.End.{marks_end}
use Rattle.press_takes.specs.Take.{Taken}
use Rattle.press_takes.specs.Take.{taken_all}
use Rattle.press_rules.specs.Took.{Took}
use Rattle.press_rules.specs.Took.{refused, taken, press_with}

-- ---- all old reports go, statuses end marks, then each command is taken; Pkg 5 has a status for each. The Sync of Pkg 4 came after two fixed statuses and the statuses of commands
abbrev pub taken_from : Mode → Cards → Content → Taken
taken_from m c x = taken_all (4 + x.answered) (commands_in x) (marks_end m (commands m c) (answers_in x) c)

abbrev pub sends_pkg5 : Press → Content → Taken → Took
sends_pkg5 p x t = taken (press_with t.cards p.anchor p.session Awaits.Six) (listed (head5 p.session (3 + x.answered)) t.statuses (listing []))

unfoldable pub press_takes4 : Mode → Press → Content → Took
press_takes4 m p x = or_refuse (checked (lawful4 m p x)) (refused p) (sends_pkg5 p x (taken_from m p.cards x))
