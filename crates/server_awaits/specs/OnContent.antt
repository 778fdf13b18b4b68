-- The server's call on content (01, "Refusal numbers" and the paragraph below the table): 5, 6, then 8. 7 and 9 are of bytes.
use Rattle.terms.specs.Check.{checked, or_refuse}
use Rattle.records.specs.declared.Server.{Server}
use Rattle.message.specs.declared.Content.{Content}
use Rattle.calls.specs.Says.{Called, sending, refusing}
use Rattle.server_rules.specs.Took.{Took}
use Rattle.server_awaits.specs.Awaited.{awaited, is_new, server_does}

abbrev pub server_ruled : Server → Took → Called Server Content
server_ruled s t = or_refuse t.check (refusing 8 s) (sending t.server t.answer)

abbrev pub server_judges : Server → Content → Called Server Content
server_judges s x =
    or_refuse (checked (awaited s.link.awaits s.link.session x.head))
    (refusing 5 s)
    (or_refuse (checked (is_new s.link.session x.head)) (refusing 6 s) (server_ruled s (server_does s.link.awaits s x)))
