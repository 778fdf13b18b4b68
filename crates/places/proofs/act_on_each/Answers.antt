use Rattle.std.proofs.Common.{rules, refl, sym, ap, ap₂, ◌∙◌, ◌+◌, ◌-◌, ◌≡◌, ◌<◌, Option, length, arith}
use Rattle.std.proofs.lemmas.List.{get_or_read}
use Rattle.places.specs.Set.{all_places}
use Rattle.places.specs.Act.{Table, put_at, each_from, slot, table}
use Rattle.places.proofs.Choice.{and_both, and_chosen, and_passed}
use Rattle.places.proofs.Turns.{each_hit, each_miss, each_end}
use Rattle.places.proofs.act_on_each.Goals as goal
use Rattle.places.proofs.act_on_each.Goals.{then-in_use+then-passes, else-in_use, else-in_use-via-then-in_use+else-passes, else-in_use-via-else-in_use}

pub loop-i-init : goal.loop-i-init
loop-i-init g c = (search rules, c.requires.long, λ d q f t m. refl)

pub loop-i-preserved : goal.loop-i-preserved
loop-i-preserved g c =
    let l = c.loop-i in
    let i = l.i in
    let inside : i < length l.entries = omega (arith, l.invariant.1) in
    let used = sym c.in_use.ensures in
    let kept : length c.if-in_use.entries ≡ all_places = c.if-in_use.auto.entries ∙ l.invariant.1 in (
      omega arith,
      kept,
      λ d q f tells makes.
          let on : Table g.row.T.Denot → Table g.row.T.Denot = each_from d q (λ x. slot (f x)) (i + 1) (all_places - (i + 1)) in
          elim c.if-in_use.branch [
            | then-in_use+then-passes w ↦
                let tested = get_or_read l.entries _ _ inside w.index-entries-i.is d in
                let made = get_or_read l.entries _ _ inside w.index-entries-i-then-passes.is d in
                ap on (ap₂ table w.used-is w.entries-is ∙ w.put.ensures ∙ ap (λ (o : Option g.row.T.Denot). put_at (table l.used l.entries) i (slot o)) (makes _ _ w.becomes-after.ensures ∙ ap f (sym w.index-entries-i-then-passes.is ∙ made)))
                ∙ each_hit d q (λ x. slot (f x)) all_places i (table l.used l.entries) c.loop-i-test.true
                (and_both _ _ (used ∙ w.if-in_use.true) (ap q (sym (sym w.index-entries-i.is ∙ tested)) ∙ sym (tells _ _ w.passes.ensures) ∙ w.if-passes.true))
            | else-in_use w ↦
                ap on (ap₂ table w.used-is w.entries-is)
                ∙ each_miss d q (λ x. slot (f x)) all_places i (table l.used l.entries) c.loop-i-test.true
                (elim w.else-in_use.branch [
                  | else-in_use-via-then-in_use+else-passes v ↦
                      let tested = get_or_read l.entries _ _ inside v.index-entries-i.is d in
                      and_chosen _ _ (used ∙ v.if-in_use.true) ∙ ap q (sym (sym v.index-entries-i.is ∙ tested)) ∙ sym (tells _ _ v.passes.ensures) ∙ v.if-passes.false
                  | else-in_use-via-else-in_use v ↦ and_passed _ _ (used ∙ v.if-in_use.false)
                ])
          ]
          ∙ l.invariant.2 d q f tells makes,
    )

pub returns : goal.returns
returns g c =
    let l = c.loop-i in
    λ d q f tells makes. sym (each_end d q (λ x. slot (f x)) all_places l.i (table l.used l.entries) c.loop-i-test.false) ∙ l.invariant.2 d q f tells makes
