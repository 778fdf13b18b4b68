use Prim.Native.Nat.{◌+◌}
use mathlib.Core.Path.{◌≡◌, refl, sym, ap, ap₂, ◌∙◌}
use mathlib.Core.List.{◌∷◌}
use native.Mathlib.Omega.{arith}
use lib.ListN.{get_or, drop}
use Rattle.lists.proofs.EntryLaws.{no_entry}
use Rattle.places.specs.Act.{in_order}
use Rattle.places.proofs.Turns.{next_of_lem, end_of, in_order_step, in_order_end}
use Rattle.listing.proofs.ListingLaws.{listing_holds}
use Rattle.listing.proofs.Answering.{answering_none, answering_count, answering_turn, answering_end}
use Rattle.press_replies.specs.Reply.{after_command}
use Rattle.press_takes.specs.Take.{taken, taken_all}
use Rattle.press_takes.proofs.take_commands.Goals as goal
use Rattle.press_takes.proofs.take_commands.Goals.{In-loop-i}

pub loop-i-init : goal.loop-i-init
loop-i-init c = (refl, answering_none c.none-answers.ensures (omega arith))

now : (c : In-loop-i) → drop c.loop-i.i c.args.commands.now ≡ get_or c.args.commands.now c.loop-i.i no_entry ∷ drop (c.loop-i.i + 1) c.args.commands.now
now c = next_of_lem c.args.commands.now c.loop-i.i no_entry c.loop-i-test.true

pub push-requires : goal.push-requires
push-requires c = omega (arith, answering_count _ _ _ _ _ _ _ _ _ c.loop-i.invariant.1, c.requires.few)

pub loop-i-preserved : goal.loop-i-preserved
loop-i-preserved c =
    let on = now (goal.at.loop-i-preserved c).In-loop-i in (
      ap (in_order after_command (drop (c.loop-i.i + 1) c.args.commands.now)) c.take_command.ensures.after ∙ in_order_step after_command _ _ _ _ on ∙ c.loop-i.invariant.0,
      answering_turn _ _ _ _ _ _ _ _ _ c.loop-i.invariant.1 _ _ _ _ _ _ on (omega arith) c.take_command.ensures.answer c.take_command.ensures.after c.push.ensures,
    )

pub returns : goal.returns
unfolding taken_all
returns c =
    let none = end_of c.args.commands.now c.loop-i.i c.loop-i-test.false in
    ap₂ taken (sym (in_order_end after_command _ _ none) ∙ c.loop-i.invariant.0) (answering_end _ _ _ _ _ _ _ _ _ c.loop-i.invariant.1 none ∙ listing_holds _)
