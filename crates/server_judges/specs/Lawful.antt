-- Whether Pkg 3 keeps the rules, as far as its lists by themselves tell (01, "Refusal numbers", row 8).
use Rattle.std.specs.Prelude.{Bool, true, ◌&&◌, List}
use Rattle.terms.specs.declared.Mode.{Mode}
use Rattle.terms.specs.declared.Mode.TheVariants.{Normal, Recovery}
use Rattle.lists.specs.declared.Entry.{Entry}
use Rattle.message.specs.declared.Content.{Content}
use Rattle.ranks.specs.declared.Row.TheVariants.{Reports, PressCommands}
use Rattle.ranks.specs.Rank.{ranked, luids_once, only_replaces}
use Rattle.packages.specs.Package.{head3, answers_in, commands_in, refs_fit, counts_fit}

-- references of the fixed statuses; above 32 reports or commands, the number of changes; order, a LUID twice; a command that the mode does not have
abbrev pub mode_has : Mode → List Entry → Bool
mode_has Normal cs = true
mode_has Recovery cs = only_replaces cs

abbrev pub in_rows : List Entry → List Entry → Bool
in_rows rs cs = ranked Reports rs && (ranked PressCommands cs && luids_once cs)

unfoldable pub lawful3 : Mode → Content → Bool
lawful3 m p =
    refs_fit (head3 p.head.session) p.head
    && (counts_fit p.answered p.commanded p.answersend && (in_rows (answers_in p) (commands_in p) && mode_has m (commands_in p)))
