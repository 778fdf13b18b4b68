-- The commands of a script (docs/BENCH.md): the words of each, with its numbers, and the place where a text or a message begins.
use Rattle.std.specs.Prelude.{ℕ, ◌+◌, Bool, false, cond, List, length, eqb, Option, Some, None}
use Rattle.token.specs.Ans.{Ans, got, bad}
use Rattle.token.specs.Text.{bytes}
use Rattle.token.specs.Number.{digits, number_at}
use Rattle.token.specs.Literal.{literal_at}
use Rattle.records.specs.declared.Rule.TheVariants.{PressWins, ServerWins}
use Rattle.script.specs.declared.Act.{Act}
use Rattle.script.specs.declared.Command.{Command}
use Rattle.token.specs.declared.Cursor.{Cursor}

-- ---- what stands at a place: words with more after them, words that end the line, a number that ends it
abbrev pub behind : {A : Type 0} → Ans (Unit {0}) → (ℕ → A) → A → A
behind (got u p) f other = f p
behind (bad k p) f other = other

abbrev pub at_end : {A : Type 0} → List ℕ → Ans A → Bool
at_end s (got a p) = eqb p (length s)
at_end s (bad k p) = false

abbrev pub ends_in : List ℕ → ℕ → List ℕ → Bool
ends_in s at w = at_end s (literal_at s at w)

-- the numbers of a script are plain: as long as the writer's decimal of them, so without sign and leading zero
abbrev pub plain_in : ℕ → Ans ℕ → Ans ℕ
plain_in at (got n p) = cond (eqb p (at + length (digits n))) (got n p) (bad 7 at)
plain_in at (bad k p) = bad 7 at

unfoldable pub plain_at : List ℕ → ℕ → ℕ → ℕ → Ans ℕ
plain_at s at lo hi = plain_in at (number_at s at lo hi)

-- the code's number with the place after it, or none
abbrev pub plain_as : ℕ → Option (ℕ × Cursor) → Ans ℕ
plain_as at (Some x) = got x.0 x.1.at
plain_as at None = bad 7 at

-- a number that ends its line, or none
pub data Last : Type 0 where
  Number : ℕ → Last
  Nothing : Last

abbrev pub last_as : Option ℕ → Last
last_as (Some n) = Last.Number n
last_as None = Last.Nothing

abbrev pub last_in : List ℕ → Ans ℕ → Last
last_in s (got n p) = cond (eqb p (length s)) (Last.Number n) Last.Nothing
last_in s (bad k p) = Last.Nothing

abbrev pub last_number : List ℕ → ℕ → ℕ → ℕ → Last
last_number s at lo hi = last_in s (plain_at s at lo hi)

-- ---- what is asked of a side
-- what the code finds, or what is not known
abbrev pub act_as : Option Act → Act
act_as (Some a) = a
act_as None = Act.Unknown

-- any number 0 to 4294967295 is taken; whether it names a card is the side's to say
abbrev pub edit_of : List ℕ → Ans ℕ → Act
edit_of s (got n p) = behind (literal_at s p (bytes " ")) (λ q. Act.Edit n q) Act.Unknown
edit_of s (bad k p) = Act.Unknown

unfoldable pub edit_in : List ℕ → ℕ → Act
edit_in s at = edit_of s (plain_at s at 0 4294967295)

abbrev pub delete_of : Last → Act
delete_of (Last.Number n) = Act.Delete n
delete_of Last.Nothing = Act.Unknown

unfoldable pub delete_in : List ℕ → ℕ → Act
delete_in s at = delete_of (last_number s at 0 4294967295)

unfoldable pub act_in : List ℕ → ℕ → Act
act_in s at =
    behind (literal_at s at (bytes "add ")) (λ p. Act.Add p)
    (behind (literal_at s at (bytes "edit ")) (λ p. edit_in s p)
    (behind (literal_at s at (bytes "delete ")) (λ p. delete_in s p)
    (behind (literal_at s at (bytes "message ")) (λ p. Act.Message p)
    (cond (ends_in s at (bytes "give up")) Act.GiveUp
    (cond (ends_in s at (bytes "tables")) Act.Tables
    Act.Unknown)))))

-- ---- the other commands
abbrev pub command_as : Option Command → Command
command_as (Some c) = c
command_as None = Command.Unknown

abbrev pub lend_of : Last → Command
lend_of (Last.Number n) = Command.Lend n
lend_of Last.Nothing = Command.Unknown

unfoldable pub lend_in : List ℕ → ℕ → Command
lend_in s at = lend_of (last_number s at 0 40000)

abbrev pub break_of : Last → Command
break_of (Last.Number k) = Command.Break k
break_of Last.Nothing = Command.Unknown

unfoldable pub break_in : List ℕ → ℕ → Command
break_in s at = break_of (last_number s at 1 6)

-- the stations are 0 to 255 (02, 5)
abbrev pub fresh_of : Last → Command
fresh_of (Last.Number n) = Command.Fresh n
fresh_of Last.Nothing = Command.Unknown

unfoldable pub fresh_in : List ℕ → ℕ → Command
fresh_in s at = fresh_of (last_number s at 0 255)

-- `fresh` alone is `fresh 1`; the rule for two edits of one card (02, 7)
unfoldable pub other_word_in : List ℕ → ℕ → Command
other_word_in s at =
    cond (ends_in s at (bytes "fresh")) (Command.Fresh 1)
    (cond (ends_in s at (bytes "rule press")) (Command.Rule PressWins)
    (cond (ends_in s at (bytes "rule server")) (Command.Rule ServerWins)
    (cond (ends_in s at (bytes "changes")) Command.Changes
    (cond (ends_in s at (bytes "help")) Command.Help
    Command.Unknown))))

unfoldable pub one_word_in : List ℕ → ℕ → Command
one_word_in s at =
    cond (ends_in s at (bytes "start")) Command.Start
    (cond (ends_in s at (bytes "step")) Command.Step
    (cond (ends_in s at (bytes "run")) Command.Run
    (cond (ends_in s at (bytes "lose")) Command.Lose
    (cond (ends_in s at (bytes "cut")) Command.Cut
    (other_word_in s at)))))

-- the command that a line is
unfoldable pub command_in : List ℕ → Command
command_in s =
    behind (literal_at s 0 (bytes "press ")) (λ p. Command.Press (act_in s p))
    (behind (literal_at s 0 (bytes "server ")) (λ p. Command.Server (act_in s p))
    (behind (literal_at s 0 (bytes "lend ")) (λ p. lend_in s p)
    (behind (literal_at s 0 (bytes "break ")) (λ p. break_in s p)
    (behind (literal_at s 0 (bytes "reread ")) (λ p. Command.Reread p)
    (behind (literal_at s 0 (bytes "fresh ")) (λ p. fresh_in s p)
    (one_word_in s 0))))))
