use borrow.Author.Rules.{rules}
use Prim.Native.Nat.{ℕ, ◌+◌, ◌≤◌}
use mathlib.Core.Path.{◌≡◌, refl, sym, ap, ap₂, ◌∙◌}
use mathlib.Core.List.{◌++◌}
use native.Mathlib.Nat.{add-zero}
use native.Mathlib.Omega.{arith}
use lib.ListN.{length, get_or, drop}
use lib.Seq.{length-take-le}
use Rattle.lists.specs.Lists.{kept_listed}
use Rattle.lists.proofs.EntryLaws.{no_entry}
use Rattle.records.specs.declared.Records.{Records}
use Rattle.places.specs.Act.{in_order, replies}
use Rattle.places.proofs.First.{held_length}
use Rattle.places.proofs.Turns.{next_of_lem, end_of, in_order_step, in_order_end}
use Rattle.listing.specs.declared.Listing.{Listing}
use Rattle.listing.specs.Listing.{items_of}
use Rattle.listing.proofs.ListingLaws.{holding_own}
use Rattle.listing.proofs.Answering.{answering_count, answering_turn, answering_end}
use Rattle.statuses.specs.Status.{empty_status}
use Rattle.server_changes.specs.Step4.{change, change_status}
use Rattle.server_changes.proofs.take_changes.Goals as goal

pub loop-i-init : goal.loop-i-init
loop-i-init c =
    let a = c.args in
    let told = a.told in
    let long : length told.items ≡ kept_listed = search (rules, held_length) in
    let fits : told.n ≤ length told.items = omega (arith, c.requires.few) in (
      omega arith,
      refl,
      record {
        made = items_of told;
        kept = sym (holding_own told fits);
        count = omega (arith, length-take-le told.n told.items fits);
        gives = ap (λ (k : ℕ). items_of told ++ replies (change_status a.rule) (change a.rule) k a.commands.now a.s.now) (add-zero a.first);
      },
    )

pub push-requires : goal.push-requires
push-requires c = omega (arith, answering_count _ _ _ _ _ _ _ _ _ c.loop-i.invariant.2, c.requires.few)

pub loop-i-preserved : goal.loop-i-preserved
unfolding change_status
loop-i-preserved c =
    let a = c.args in
    let l = c.loop-i in
    let next = next_of_lem a.commands.now l.i no_entry c.loop-i-test.true in
    let more : a.told.n + (l.i + 1) ≡ (a.told.n + l.i) + 1 = omega arith in (
      omega arith,
      ap (in_order (change a.rule) (drop (l.i + 1) a.commands.now)) c.take_change-code.ensures.records ∙ in_order_step (change a.rule) _ _ _ _ next ∙ l.invariant.1,
      rw more
          (answering_turn (change_status a.rule) (change a.rule) _ _ _ (a.first + l.i) _ l.s _ l.invariant.2 _ _ (a.first + (l.i + 1)) c.empty_status.result _ _ next (omega arith)
          (c.empty_status.ensures ∙ ap₂ (empty_status (a.first + l.i)) c.of.ensures c.take_change-code.ensures.code) c.take_change-code.ensures.records c.push.ensures),
    )

pub returns : goal.returns
returns c =
    let a = c.args in
    let none = end_of a.commands.now c.loop-i.i c.loop-i-test.false in
    ap (λ (t : Records). record { records = t; statuses = c.loop-i.statuses }) (sym (in_order_end (change a.rule) _ _ none) ∙ c.loop-i.invariant.1)
    ∙ ap (λ (t : Listing). record { records = in_order (change a.rule) a.commands.now a.s.now; statuses = t }) (answering_end _ _ _ _ _ _ _ _ _ c.loop-i.invariant.2 none)
