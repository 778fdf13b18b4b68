-- The server at Pkg 3, and Pkg 4 (01, "The six packages"; row 8 of "Refusal numbers").
use Rattle.std.specs.Prelude.{ℕ, ◌+◌}
use Rattle.terms.specs.Check.{checked, or_refuse}
use Rattle.terms.specs.declared.Mode.{Mode}
use Rattle.records.specs.declared.Awaits.{Awaits}
use Rattle.records.specs.declared.Records.{Records}
use Rattle.records.specs.declared.Rule.{Rule}
use Rattle.records.specs.declared.Server.{Server}
use Rattle.message.specs.declared.Content.{Content}
use Rattle.packages.specs.Package.{head4, packed, answers_in, commands_in}
use Rattle.server_judges.specs.Lawful.{lawful3}
use Rattle.server_reports.specs.Step1.{reported}
use Rattle.server_merge.specs.Merge.{merged, statuses_for}
use Rattle.server_offers.specs.Offer.{commands, offered}
use Rattle.server_rules.specs.Took.{Took}
use Rattle.server_rules.specs.Took.{refused, taken, server_with}

-- ---- steps 1 to 5; then Pkg 4: the statuses of the commands, and the server's commands. The Sync of Pkg 3 comes after its two fixed statuses and the reports, its commands after it
abbrev pub sync_ref : Content → ℕ
sync_ref p = 3 + p.answered

abbrev pub pkg4 : Rule → Mode → ℕ → Content → Records → Content
pkg4 rule m session p r =
    packed (head4 session (sync_ref p)) (statuses_for rule m (4 + p.answered) (commands_in p) r) (commands (merged rule m (commands_in p) r))

-- r: the records after the reports; two edits of one card go by the rule that the server has now (02, 7). All dirty become offered; the server awaits Pkg 5
abbrev pub merges : Mode → Server → Content → Records → Took
merges m s p r =
    taken
    (server_with s.rule (offered (merged s.rule m (commands_in p) r)) s.link.anchor s.link.session (Awaits.Five p.commanded))
    (pkg4 s.rule m s.link.session p r)

unfoldable pub server_takes3 : Mode → Server → Content → Took
server_takes3 m s p =
    or_refuse (checked (lawful3 m p))
    (refused s)
    (or_refuse (reported (answers_in p) s.records).check (refused s) (merges m s p (reported (answers_in p) s.records).records))
