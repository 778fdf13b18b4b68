use mathlib.Core.Path.{◌≡◌, sym, ap, ◌∙◌}
use mathlib.Core.Logic.{◌⊎◌, inl, inr}
use lib.ListN.{length}
use Rattle.cards.specs.declared.Cards.{Cards}
use Rattle.places.specs.Act.{in_order, with_answers}
use Rattle.places.proofs.Answers.{both_step, both_end}
use Rattle.card_moves.specs.Moves.{without_delete_marks}
use Rattle.press_ends.specs.End.{end_mark, ends, marks_end}
use mathlib.Core.Path.{refl}
use mathlib.Core.List.{List}
use mathlib.Core.Bool.{Bool, true, false, cond}
use denote.Enum.Bare.{sameb}
use Rattle.terms.specs.contracts.Mode.{the_type}
use Rattle.terms.specs.declared.Mode.{Mode}
use Rattle.terms.specs.declared.Mode.TheVariants.{Normal, Recovery}
use Rattle.lists.specs.declared.Entry.{Entry}
use Rattle.press_ends.proofs.take_statuses.Goals as goal
use Rattle.press_ends.proofs.take_statuses.Goals.{In-None}

pub loop-command-preserved : goal.loop-command-preserved
loop-command-preserved c =
    let s = c.in-Some.ensures.steps in
    ap (in_order end_mark (with_answers c.next.new.self.a.rest.now c.next.new.self.b.rest.now)) c.take_status.ensures
    ∙ both_step end_mark _ _ c.loop-command.c _ _ _ _ s.0 s.1
    ∙ c.loop-command.invariant

-- all statuses were taken
taken : (c : In-None) → c.loop-command.c ≡ ends c.args.commands.now c.args.statuses.now c.args.c.now
unfolding ends
taken c =
    let left : (length c.loop-command.command-iterator.a.rest.now ≡ 0) ⊎ (length c.loop-command.command-iterator.b.rest.now ≡ 0) =
    elim c.in-None.ensures.steps [ inl e ↦ inl e.1.0 | inr e ↦ inr e.1.0 ] in
    sym (both_end end_mark _ _ c.loop-command.c left) ∙ c.loop-command.invariant ∙ ap (in_order end_mark (with_answers c.args.commands.now c.args.statuses.now)) c.without_reports.ensures

by_mode : (m : Mode) (b : Bool) (c : Cards) (cs xs : List Entry) → b ≡ sameb the_type m Recovery → cond b (without_delete_marks (ends cs xs c)) (ends cs xs c) ≡ marks_end m cs xs c
unfolding marks_end
by_mode Normal b c cs xs e = rw e refl
by_mode Recovery b c cs xs e = rw e refl

pub returns-else-eq : goal.returns-else-eq
returns-else-eq c =
    let a = c.args in
    taken (goal.at.returns-else-eq c).In-None ∙ by_mode a.mode false a.c.now a.commands.now a.statuses.now (sym c.if-eq.false ∙ c.eq.ensures)

pub returns-then-eq : goal.returns-then-eq
returns-then-eq c =
    let a = c.args in
    c.without_delete_marks.ensures ∙ ap without_delete_marks (taken (goal.at.returns-then-eq c).In-None) ∙ by_mode a.mode true a.c.now a.commands.now a.statuses.now (sym c.if-eq.true ∙ c.eq.ensures)
