use borrow.Author.Rules.{rules}
use Rattle.std.proofs.Common.{Ok, Result}
use mathlib.Core.Path.{◌≡◌, refl, sym, ap, ◌∙◌}
use mathlib.Core.Bool.{Bool, true, false}
use native.Mathlib.Omega.{arith}
use lib.ListN.{length, length-take}
use Rattle.terms.specs.declared.Mode.{Mode}
use Rattle.terms.specs.declared.Refusal.{Refusal}
use Rattle.terms.specs.Refusal.{required}
use Rattle.cards.specs.declared.Press.{Press}
use Rattle.message.specs.declared.Content.{Content}
use Rattle.press_judges.specs.Lawful.{lawful4}
use Rattle.press_judges.proofs.LawfulLaws.{Lawful, lawful_parts}
use Rattle.press_rules.proofs.takes_4.Goals as goal

met : (b : Bool) (r : Refusal) (u : Unit) → required b r ≡ Ok u → b ≡ true
met true r u e = refl
met false r u e = cc

-- what a lawful Pkg 4 has
lawful : (m : Mode) (p : Press) (x : Content) (u : Unit) {said : Result Unit Refusal} → said ≡ required (lawful4 m p x) Refusal.Unlawful → said ≡ Ok u → Lawful m p x
lawful m p x u e f = lawful_parts m p x (met (lawful4 m p x) Refusal.Unlawful u (sym e ∙ f))

pub overflow_cast-answered : goal.overflow_cast-answered
overflow_cast-answered c = let a = c.args in let few = (lawful a.mode a.press.now a.x.now tt c.check_4.ensures c.in_ok-check_4.was).answered in search rules

pub overflow_add-answered : goal.overflow_add-answered
overflow_add-answered c = let a = c.args in let few = (lawful a.mode a.press.now a.x.now tt c.check_4.ensures c.in_ok-check_4.was).answered in search rules

pub overflow_add-answered-2 : goal.overflow_add-answered-2
overflow_add-answered-2 c = let a = c.args in let few = (lawful a.mode a.press.now a.x.now tt c.check_4.ensures c.in_ok-check_4.was).answered in search rules

pub take_commands-told-requires-clause-low : goal.take_commands-told-requires-clause-low
take_commands-told-requires-clause-low c = let a = c.args in omega (arith, (lawful a.mode a.press.now a.x.now tt c.check_4.ensures c.in_ok-check_4.was).answered)

pub take_commands-told-requires-clause-few : goal.take_commands-told-requires-clause-few
take_commands-told-requires-clause-few c =
    let a = c.args in
    let w = lawful a.mode a.press.now a.x.now tt c.check_4.ensures c.in_ok-check_4.was in
    omega (arith, ap length c.commands.ensures.kept, length-take a.x.now.commanded a.x.now.commands, w.commanded)
