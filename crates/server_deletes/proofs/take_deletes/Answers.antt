use Prim.Native.Nat.{◌+◌}
use mathlib.Core.Path.{◌≡◌, refl, sym, ap, ◌∙◌}
use mathlib.Core.List.{◌∷◌}
use native.Mathlib.Omega.{arith}
use lib.ListN.{get_or, drop}
use Rattle.lists.proofs.EntryLaws.{no_entry}
use Rattle.places.specs.Act.{in_order}
use Rattle.places.proofs.Turns.{next_of_lem, end_of, in_order_step, in_order_end}
use Rattle.listing.proofs.ListingLaws.{listing_holds}
use Rattle.listing.proofs.Answering.{answering_none, answering_count, answering_turn, answering_end}
use Rattle.statuses.specs.declared.Name.{Name}
use Rattle.statuses.specs.Status.{empty_status}
use Rattle.server_deletes.specs.Step2.{delete, delete_status}
use Rattle.server_deletes.proofs.take_deletes.Goals as goal
use Rattle.server_deletes.proofs.take_deletes.Goals.{In-loop-i, After-empty_status}

pub loop-i-init : goal.loop-i-init
loop-i-init c = (refl, answering_none c.none-told.ensures (omega arith))

now : (c : In-loop-i) → drop c.loop-i.i c.args.deletes.now ≡ get_or c.args.deletes.now c.loop-i.i no_entry ∷ drop (c.loop-i.i + 1) c.args.deletes.now
now c = next_of_lem c.args.deletes.now c.loop-i.i no_entry c.loop-i-test.true

pub push-requires : goal.push-requires
push-requires c = omega (arith, answering_count _ _ _ _ _ _ _ _ _ c.loop-i.invariant.1, c.requires.few)

status : (c : After-empty_status) → c.empty_status.result ≡ delete_status (c.args.first + c.loop-i.i) (get_or c.args.deletes.now c.loop-i.i no_entry) c.loop-i.s
unfolding delete_status
status c = c.empty_status.ensures ∙ ap (empty_status (c.args.first + c.loop-i.i) Name.Delete) c.take_delete-code.ensures.code

pub loop-i-preserved : goal.loop-i-preserved
loop-i-preserved c =
    let on = now (goal.at.loop-i-preserved c).In-loop-i in (
      ap (in_order delete (drop (c.loop-i.i + 1) c.args.deletes.now)) c.take_delete-code.ensures.records ∙ in_order_step delete _ _ _ _ on ∙ c.loop-i.invariant.0,
      answering_turn _ _ _ _ _ _ _ _ _ c.loop-i.invariant.1 _ _ _ _ _ _ on (omega arith) (status (goal.at.loop-i-preserved c).After-empty_status) c.take_delete-code.ensures.records c.push.ensures,
    )

pub returns : goal.returns
returns c =
    let none = end_of c.args.deletes.now c.loop-i.i c.loop-i-test.false in
    record {
      records = sym (in_order_end delete _ _ none) ∙ c.loop-i.invariant.0;
      told = answering_end _ _ _ _ _ _ _ _ _ c.loop-i.invariant.1 none ∙ listing_holds _;
    }
