use Rattle.std.proofs.Common.{◌≡◌, rules}
use Rattle.token.proofs.PutLaws.{put_seq}
use Rattle.message_changes.specs.Shown.{Changes, shown_as}
use Rattle.panel.proofs.put_shown.Goals as goal

pub returns-in-Ok-Some : goal.returns-in-Ok-Some
returns-in-Ok-Some c =
    let says : shown_as c.args.shown ≡ Changes c.in-Ok-Some.package c.in-Ok-Some.n = search rules in
    rw (says, ← c.in-Ok-Some.package-is, ← c.in-Ok-Some.n-is) (put_seq c.put_package-at.ensures (put_seq c.put_field-at.ensures c.put_text.ensures))
