-- The press's calls on bytes (01, "Refusal numbers" and the paragraph below the table): a start with refusals 1, 2, 9, a message with 7, 5, 8, 9, each in this order.
use Rattle.std.specs.Prelude.{ℕ, List}
use Rattle.cards.specs.declared.Press.{Press}
use Rattle.message.specs.declared.Content.{Content}
use Rattle.message.specs.Message.{read_message}
use Rattle.calls.specs.After.{After, refused_with, if_read, answered_in}
use Rattle.press_awaits.specs.OnContent.{press_begins, press_judges}

-- ---- a start: as on content, then 9
unfoldable pub press_start : Press → List ℕ → After Press
press_start p out = answered_in p out (press_begins p)

-- ---- a message: 7, then as on content, then 9. Pkg 6 has no answer, so it is never refused 9
abbrev pub press_hears : Press → List ℕ → Content → After Press
press_hears p out x = answered_in p out (press_judges p x)

unfoldable pub press_takes : Press → List ℕ → List ℕ → After Press
press_takes p m out = if_read (read_message m) (refused_with 7 p out) (press_hears p out)
