-- The press at Pkg 6 (01, "The six packages"; row 8 of "Refusal numbers"). It has no answer.
use Rattle.terms.specs.Check.{checked, or_refuse}
use Rattle.cards.specs.declared.Awaits.{Awaits}
use Rattle.cards.specs.declared.Press.{Press}
use Rattle.message.specs.declared.Content.{Content}
use Rattle.packages.specs.Package.{head6, no_package, refs_fit}
use Rattle.card_moves.specs.Moves.{without_reports}
use Rattle.press_rules.specs.Took.{Took}
use Rattle.press_rules.specs.Took.{refused, taken, press_with}

-- it drops its reports, sets its anchor, closes
abbrev pub closed : Press → Took
closed p = taken (press_with (without_reports p.cards) p.session p.session Awaits.Nothing) no_package

-- 8: the header status refers to another message
unfoldable pub press_takes6 : Press → Content → Took
press_takes6 p x = or_refuse (checked (refs_fit (head6 p.session) x.head)) (refused p) (closed p)
