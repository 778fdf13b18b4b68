use mathlib.Core.Path.{refl, sym, ◌∙◌}
use Rattle.lists.specs.Lists.{blank_entry}
use Rattle.message.specs.Message.{read_message}
use Rattle.measured.proofs.LuidLaws.{luid_past, luid_refused, luid_got, luid_blank}
use Rattle.measured.proofs.measured_message.Goals as goal

pub returns-in_default : goal.returns-in_default
returns-in_default c = luid_refused c.args.i (read_message c.args.s.now) _ (sym c.in_default.is ∙ c.read.ensures)

pub returns-then-i-ge-KEPT : goal.returns-then-i-ge-KEPT
returns-then-i-ge-KEPT c = luid_past c.args.i (read_message c.args.s.now) c.if-i-ge-KEPT.true

pub returns : goal.returns
returns c =
    let i = c.args.i in
    luid_blank c.in-Ok.content.commands i _ blank_entry refl ∙ luid_got i (read_message c.args.s.now) _ (sym c.in-Ok.is ∙ c.read.ensures)
