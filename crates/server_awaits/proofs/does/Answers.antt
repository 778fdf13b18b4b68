use mathlib.Core.Path.{◌≡◌, sym, ap, ◌∙◌}
use mathlib.Core.Bool.{true}
use borrow.Author.Tests.{eq-eqb, ne_eqb}
use Rattle.places.proofs.Choice.{chosen, passed}
use Rattle.records.specs.declared.Awaits.{Awaits}
use Rattle.server_awaits.specs.Awaited.{awaited, is_new, later_does}
use Rattle.server_awaits.proofs.JudgeLaws.{stays_1, stays_3, stays_5, judged}
use Rattle.server_awaits.proofs.does.Goals as goal
use Rattle.server_awaits.proofs.does.Goals.{Else-not-is_new}

-- what the checks that have passed say
due : (c : Else-not-is_new) → (let s = c.args.server.now in awaited s.link.awaits s.link.session c.args.x.now.head ≡ true)
due c = sym c.is_awaited.ensures ∙ c.if-not-is_awaited.false

new : (c : Else-not-is_new) → is_new c.args.server.now.link.session c.args.x.now.head ≡ true
new c = sym c.is_new.ensures ∙ c.if-not-is_new.false

pub returns-then-x-eq1 : goal.returns-then-x-eq1
returns-then-x-eq1 c =
    let s = c.args.server.now in
    let x = c.args.x.now in
    let at = (goal.at.returns-then-x-eq1 c).Else-not-is_new in
    judged s x (due at) (new at) (sym (chosen _ _ _ (eq-eqb _ _ c.if-x-eq1.true))) (stays_1 s x) c.takes_1.ensures.said c.takes_1.ensures.side

pub returns-in-Three : goal.returns-in-Three
returns-in-Three c =
    let s = c.args.server.now in
    let x = c.args.x.now in
    let at = (goal.at.returns-in-Three c).Else-not-is_new in
    judged s x (due at) (new at) (sym (passed _ _ _ (ne_eqb _ _ c.if-x-eq1.false) ∙ ap (λ (a : Awaits). later_does a s x) c.in-Three.is))
    (stays_3 c.in-Three.mode s x)
    c.takes_3.ensures.said
    c.takes_3.ensures.side

pub returns-in-Five : goal.returns-in-Five
returns-in-Five c =
    let s = c.args.server.now in
    let x = c.args.x.now in
    let at = (goal.at.returns-in-Five c).Else-not-is_new in
    judged s x (due at) (new at) (sym (passed _ _ _ (ne_eqb _ _ c.if-x-eq1.false) ∙ ap (λ (a : Awaits). later_does a s x) c.in-Five.is))
    (stays_5 c.in-Five.n s x)
    c.takes_5.ensures.said
    c.takes_5.ensures.side
