-- What `help` answers (docs/BENCH.md): the commands, one a line, then `end`.
use Rattle.std.specs.Prelude.{ℕ, List, [], ◌∷◌, ◌++◌}
use Rattle.token.specs.Text.{bytes}

-- each with a line feed after it
abbrev pub lines : List (List ℕ) → List ℕ
lines [] = []
lines (w ∷ l) = w ++ (10 ∷ lines l)

abbrev pub commands : List (List ℕ)
commands =
    bytes "fresh [N]" ∷ bytes "lend N"
    ∷ bytes "press add TEXT" ∷ bytes "press edit LUID TEXT" ∷ bytes "press delete LUID"
    ∷ bytes "server add TEXT" ∷ bytes "server edit GUID TEXT" ∷ bytes "server delete GUID"
    ∷ bytes "rule press" ∷ bytes "rule server"
    ∷ bytes "press give up" ∷ bytes "server give up"
    ∷ bytes "start" ∷ bytes "step"
    ∷ bytes "press message MESSAGE" ∷ bytes "server message MESSAGE"
    ∷ bytes "lose" ∷ bytes "cut" ∷ bytes "run" ∷ bytes "break K"
    ∷ bytes "press tables" ∷ bytes "server tables" ∷ bytes "changes"
    ∷ bytes "reread MESSAGE" ∷ bytes "help" ∷ []

unfoldable pub help_text : List ℕ
help_text = lines commands ++ bytes "end"
