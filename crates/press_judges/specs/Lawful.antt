-- Whether Pkg 4 keeps the rules (01, "Refusal numbers", row 8).
use Rattle.std.specs.Prelude.{ℕ, ◌+◌, Bool, ◌&&◌, List, length}
use Rattle.terms.specs.declared.Mode.{Mode}
use Rattle.cards.specs.declared.Cards.{Cards}
use Rattle.cards.specs.declared.Press.{Press}
use Rattle.lists.specs.declared.Entry.{Entry}
use Rattle.message.specs.declared.Content.{Content}
use Rattle.statuses.specs.declared.Side.{Side}
use Rattle.statuses.specs.Status.{all_fit}
use Rattle.ranks.specs.declared.Row.TheVariants.{ServerCommands}
use Rattle.ranks.specs.Rank.{ranked, luids_once}
use Rattle.packages.specs.Package.{head4, answers_in, commands_in, refs_fit, counts_fit}
use Rattle.press_tells.specs.Tell.{reports, commands}

-- references of the fixed statuses (the Sync of Pkg 3 came after two fixed statuses and the reports); above 32 commands, the number of changes; a status for each command of Pkg 3 in order; order, a LUID twice
abbrev pub sync_ref : Cards → ℕ
sync_ref c = 3 + length (reports c)

abbrev pub in_row : List Entry → Bool
in_row cs = ranked ServerCommands cs && luids_once cs

unfoldable pub lawful4 : Mode → Press → Content → Bool
lawful4 m p x =
    refs_fit (head4 p.session (sync_ref p.cards)) x.head
    && (counts_fit x.answered x.commanded x.answersend
    && (all_fit Side.Press (1 + sync_ref p.cards) (commands m p.cards) (answers_in x) && in_row (commands_in x)))
