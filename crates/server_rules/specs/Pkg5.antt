-- The server at Pkg 5, and Pkg 6 (01, "The six packages"; row 8 of "Refusal numbers").
use Rattle.std.specs.Prelude.{ℕ, ◌+◌, Bool, ◌&&◌, List, [], leb}
use Rattle.lists.specs.Lists.{most_listed}
use Rattle.terms.specs.Check.{checked, or_refuse}
use Rattle.records.specs.declared.Awaits.{Awaits}
use Rattle.records.specs.declared.Records.{Records}
use Rattle.records.specs.declared.Server.{Server}
use Rattle.lists.specs.declared.Entry.{Entry}
use Rattle.message.specs.declared.Content.{Content}
use Rattle.statuses.specs.declared.Side.{Side}
use Rattle.statuses.specs.Status.{all_fit}
use Rattle.packages.specs.Package.{head5, head6, packed, answers_in, refs_fit}
use Rattle.server_offers.specs.Offer.{offers}
use Rattle.server_answers.specs.Answer.{answered}
use Rattle.server_rules.specs.Took.{Took}
use Rattle.server_rules.specs.Took.{refused, taken, server_with}

-- ---- 8: n is the number of the press's commands (at most 32), so the Sync of Pkg 4 is command 3 + n; os: the server's offers; a status for each in order
unfoldable pub fits5 : ℕ → List Entry → Content → Bool
fits5 n os p =
    leb n most_listed
    && (refs_fit (head5 p.head.session (3 + n)) p.head
    && (leb p.answered most_listed && all_fit Side.Server (4 + n) os (answers_in p)))

-- the anchor becomes the session number, and the server closes
abbrev pub closes : Server → Records → Took
closes s r = taken (server_with s.rule r s.link.session s.link.session Awaits.Nothing) (packed (head6 s.link.session) [] [])

unfoldable pub server_takes5 : ℕ → Server → Content → Took
server_takes5 n s p =
    or_refuse (checked (fits5 n (offers s.records) p))
    (refused s)
    (or_refuse (answered (offers s.records) (answers_in p) s.records).check
    (refused s)
    (closes s (answered (offers s.records) (answers_in p) s.records).records))
