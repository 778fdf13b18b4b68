-- A message: its head, and the two lists that a package of its kind has (01, "Written form").
use Rattle.std.specs.Prelude.{ℕ, ◌+◌, cond, List, [], ◌∷◌, length, get_or, eqb, leb}
use Rattle.token.specs.Ans.{Ans, got, bad}
use Rattle.grammar.specs.Codec.{Codec, named, seq_by}
use Rattle.grammar.specs.Numbered.{numbered}
use Rattle.page.specs.declared.Kinds.{Kinds}
use Rattle.elements.specs.declared.Head.{Head}
use Rattle.elements.specs.declared.End.{End}
use Rattle.elements.specs.Element.{head_c, Element, element_c, end_c}
use Rattle.elements.specs.Kinds.{report_with_guid, empty_kind, press_delete_kind, server_delete_kind, sync_to_server, sync_to_press, sync_ends, statuses_end, body_ends, message_ends}
use Rattle.message.specs.declared.Form.{Form}
pub use Rattle.token.specs.Limit.{limit}

-- ---- the lists of a package: which kinds each holds (answers, commands), and the line of the page that ends it (answersend, commandsend)
abbrev pub none : Kinds
none = record { from = 0; count = 0 }

abbrev pub report_kinds : Kinds
report_kinds = record { from = report_with_guid; count = 2 }

-- a status is empty in Pkg 4, and may hold a StatusItem in Pkg 5
abbrev pub empty_statuses : Kinds
empty_statuses = record { from = empty_kind; count = 1 }

abbrev pub statuses : Kinds
statuses = record { from = empty_kind; count = 3 }

abbrev pub press_commands : Kinds
press_commands = record { from = press_delete_kind; count = 3 }

abbrev pub server_commands : Kinds
server_commands = record { from = server_delete_kind; count = 3 }

abbrev pub no_lists : Form
no_lists = record { answers = none; answersend = body_ends; commands = none; commandsend = message_ends }

-- by package number; there is no package 0
abbrev pub forms : List Form
forms =
    no_lists
    ∷ no_lists
    ∷ no_lists
    ∷ record { answers = report_kinds; answersend = sync_to_server; commands = press_commands; commandsend = sync_ends }
    ∷ record { answers = empty_statuses; answersend = sync_to_press; commands = server_commands; commandsend = sync_ends }
    ∷ record { answers = statuses; answersend = statuses_end; commands = none; commandsend = message_ends }
    ∷ no_lists
    ∷ []

unfoldable pub form_of : ℕ → Form
form_of k = get_or forms k no_lists

-- ---- the content of a message
pub record Message : Type 0 where
  pub head : Head
  -- the reports of Pkg 3; the statuses of commands of Pkg 4 and 5
  pub answers : List Element
  -- what ends them: in Pkg 3 and 4 the beginning of the Sync, with its number of changes
  pub answersend : End
  -- the commands in the Sync of Pkg 3 and 4
  pub commands : List Element
  pub commandsend : End

-- the fixed statuses have the CmdIDs 1 and 2, so the answers begin at 3; the Sync has the next one, and its commands those after it
abbrev pub answers_c : ℕ → Codec (List Element × End)
answers_c k = numbered 3 (element_c (form_of k).answers) (end_c (form_of k).answersend)

abbrev pub commands_c : ℕ → ℕ → Codec (List Element × End)
commands_c k n = numbered (4 + n) (element_c (form_of k).commands) (end_c (form_of k).commandsend)

abbrev pub parts_c : Codec (Head × ((List Element × End) × (List Element × End)))
parts_c = seq_by head_c (λ h. seq_by (answers_c h.pkg) (λ x. commands_c h.pkg (length x.0)))

abbrev pub to_message : Head × ((List Element × End) × (List Element × End)) → Message
to_message x = record { head = x.0; answers = x.1.0.0; answersend = x.1.0.1; commands = x.1.1.0; commandsend = x.1.1.1 }

abbrev pub of_message : Message → Head × ((List Element × End) × (List Element × End))
of_message m = (m.head, ((m.answers, m.answersend), (m.commands, m.commandsend)))

unfoldable pub message_c : Codec Message
message_c = named to_message of_message parts_c

-- ---- a whole message: nothing stands after it, and it has at most 32768 bytes; else 7

abbrev pub to_the_end : {A : Type 0} → ℕ → Ans A → Ans A
to_the_end n (got a p) = cond (eqb p n) (got a p) (bad 7 p)
to_the_end n (bad k p) = bad k p

unfoldable pub read_message : List ℕ → Ans Message
read_message s = cond (leb (length s) limit) (to_the_end (length s) (message_c.read s 0)) (bad 7 limit)
