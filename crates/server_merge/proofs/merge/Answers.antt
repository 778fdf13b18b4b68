use Prim.Native.Nat.{ℕ, ◌+◌, ◌-◌}
use mathlib.Core.Path.{◌≡◌, refl, ap, ap₂, sym, ◌∙◌}
use mathlib.Core.List.{List}
use native.Mathlib.Omega.{arith}
use lib.ListN.{length, drop, length-take, length-drop}
use lib.Seq.{take_all}
use Rattle.lists.specs.declared.Entry.{Entry}
use Rattle.records.specs.declared.Records.{Records}
use Rattle.places.specs.Act.{replies}
use Rattle.places.proofs.Turns.{replies_length}
use Rattle.listing.specs.declared.Listing.{Listing}
use Rattle.listing.specs.Listing.{listing}
use Rattle.listing.proofs.ListingLaws.{counted, lists_more}
use Rattle.server_deletes.specs.Step2.{Deleted, delete, delete_status, deletes_in, deletes_of, step2, taken2}
use Rattle.server_forgets.specs.Step3.{step3}
use Rattle.server_deletes.proofs.StepLaws.{deletes_most}
use Rattle.server_changes.specs.Step4.{changed_by}
use Rattle.server_merge.specs.Merge.{merged, statuses_for}
use Rattle.server_merge.proofs.merge.Goals as goal
use Rattle.server_merge.proofs.merge.Goals.{After-take_step_3}

-- the statuses of the Deletes, and the records after step 2
abbrev told_for : (c : After-take_step_3) → List Entry
told_for c = let a = c.args in replies delete_status delete a.first (deletes_of a.commands.now) a.s.now

told : (c : After-take_step_3) → c.take_step_2-told.result ≡ listing (told_for c)
unfolding taken2
told c = ap (λ (d : Deleted). d.statuses) c.take_step_2-told.ensures

left : (c : After-take_step_3) → c.take_step_2-told.new.s ≡ step2 c.args.mode c.args.commands.now c.args.s.now
unfolding taken2
left c = ap (λ (d : Deleted). d.records) c.take_step_2-told.ensures

told-length : (c : After-take_step_3) → length (told_for c) ≡ c.deletes_in-d.result
told-length c =
    let l = c.args.commands.now in
    let cut : length (deletes_of l) ≡ deletes_in l = omega (arith, length-take (deletes_in l) l, deletes_most l) in
    replies_length delete_status delete c.args.first (deletes_of l) c.args.s.now ∙ cut ∙ sym c.deletes_in-d.ensures

pub take_changes-requires-clause-few : goal.take_changes-requires-clause-few
take_changes-requires-clause-few c =
    let s = (goal.at.take_changes-requires-clause-few c).After-take_step_3 in
    omega (arith, ap counted (told s), told-length s, length-drop c.deletes_in-d.result c.args.commands.now, deletes_most c.args.commands.now, c.deletes_in-d.ensures, c.requires.few)

pub returns : goal.returns
unfolding merged statuses_for
returns c = let a = c.args in
    let l = a.commands.now in
    let s = (goal.at.returns c).After-take_step_3 in
    let d = c.deletes_in-d.ensures in
    c.take_changes.ensures
    ∙ ap (λ (xs : List Entry). changed_by a.rule c.take_step_2-told.result (a.first + c.deletes_in-d.result) xs c.take_step_3.new.s)
    (take_all (length l - c.deletes_in-d.result) (drop c.deletes_in-d.result l) (omega (arith, length-drop c.deletes_in-d.result l)))
    ∙ ap₂ (λ (n : ℕ) (r : Records). changed_by a.rule c.take_step_2-told.result (a.first + n) (drop n l) r) d (c.take_step_3.ensures ∙ ap step3 (left s))
    ∙ ap (λ (t : Listing). record { records = merged a.rule a.mode l a.s.now; statuses = t }) (lists_more (told_for s) _ _ _ (told s) refl)
