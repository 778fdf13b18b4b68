-- The server's call on bytes: refusals 7, 5, 6, 8, 9 in this order (01, "Refusal numbers" and the paragraph below the table).
use Rattle.std.specs.Prelude.{ℕ, List}
use Rattle.records.specs.declared.Server.{Server}
use Rattle.message.specs.declared.Content.{Content}
use Rattle.message.specs.Message.{read_message}
use Rattle.calls.specs.After.{After, refused_with, if_read, answered_in}
use Rattle.server_awaits.specs.OnContent.{server_judges}

-- ---- 7, then as on content, then 9
abbrev pub server_hears : Server → List ℕ → Content → After Server
server_hears s out x = answered_in s out (server_judges s x)

unfoldable pub server_takes : Server → List ℕ → List ℕ → After Server
server_takes s m out = if_read (read_message m) (refused_with 7 s out) (server_hears s out)
