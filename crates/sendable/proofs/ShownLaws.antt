-- What a panel shows of a package that a side writes: which one it is, and as many changes as it has commands.
-- Assumes nothing.
use mathlib.Core.Path.{◌≡◌, ap, ◌∙◌}
use lib.ListN.{length}
use Rattle.message.specs.declared.Content.{Content}
use Rattle.message.specs.Message.{message_c, read_message}
use Rattle.message.specs.Answer.{message_of}
use Rattle.message_changes.specs.Shown.{shown, shown_of}
use Rattle.packages.specs.Package.{changes_of}
use Rattle.sendable.specs.Sendable.{SendablePackage}
use Rattle.sendable.proofs.SentLaws.{sent_reads_back}

pub sent_shown : (c : Content) (s : SendablePackage c) → shown_of (read_message (message_c.write (message_of c))) ≡ shown c.head (changes_of (length s.commands))
sent_shown c s = ap shown_of (sent_reads_back c s) ∙ ap (λ (x : Content). shown c.head x.answersend) s.kept
