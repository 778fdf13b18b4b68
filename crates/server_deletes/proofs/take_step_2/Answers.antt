use Rattle.std.proofs.Common.{List, ◌≡◌, sym, ap, ap₂, ◌∙◌, take, arith}
use lib.Seq.{length-take-le}
use Rattle.terms.specs.declared.Mode.{Mode}
use Rattle.lists.specs.declared.Entry.{Entry}
use Rattle.places.specs.Act.{in_order, replies}
use Rattle.listing.specs.Listing.{listing}
use Rattle.server_deletes.specs.Step2.{delete, delete_status, deletes_of, step2, told_with, taken2}
use Rattle.server_deletes.proofs.StepLaws.{deletes_most}
use Rattle.server_deletes.proofs.take_step_2.Goals as goal
use Rattle.server_deletes.proofs.take_step_2.Goals.{After-take_deletes-told}

pub slice_bounds-take_deletes-end : goal.slice_bounds-take_deletes-end
slice_bounds-take_deletes-end c = sym (length-take-le c.args.d c.args.commands.now (omega (arith, c.requires.counted, deletes_most c.args.commands.now)))

-- the d commands in front are the Deletes
front : (c : After-take_deletes-told) → take c.args.d c.args.commands.now ≡ deletes_of c.args.commands.now
front c = ap (λ k. take k c.args.commands.now) c.requires.counted

told : (c : After-take_deletes-told) → c.take_deletes-told.result ≡ listing (replies delete_status delete c.args.first (deletes_of c.args.commands.now) c.args.s.now)
told c = c.take_deletes-told.ensures.told ∙ ap (λ (xs : List Entry). listing (replies delete_status delete c.args.first xs c.args.s.now)) (front c)

pub returns-in-Normal : goal.returns-in-Normal
unfolding taken2 step2
returns-in-Normal c =
    let a = c.args in
    let t = (goal.at.returns-in-Normal c).After-take_deletes-told in
    ap₂ told_with (c.take_deletes-told.ensures.records ∙ ap (λ (xs : List Entry). in_order delete xs a.s.now) (front t)) (told t)
    ∙ sym (ap (λ (m : Mode). taken2 m a.first a.commands.now a.s.now) c.in-Normal.is)

pub returns-in-Recovery : goal.returns-in-Recovery
unfolding taken2
returns-in-Recovery c =
    let a = c.args in
    ap₂ told_with c.leave_out.ensures (told (goal.at.returns-in-Recovery c).After-take_deletes-told)
    ∙ sym (ap (λ (m : Mode). taken2 m a.first a.commands.now a.s.now) c.in-Recovery.is)
