-- No package breaks the press's table, lawful or not: it stays well-formed, if texts and stations keep their rule. Assumes nothing.
use Rattle.text.specs.Wording.{IsWording}
use Rattle.terms.specs.Check.{checked}
use Rattle.terms.specs.declared.Mode.{Mode}
use Rattle.terms.proofs.CheckLaws.{of_either}
use Rattle.cards.specs.declared.Press.{Press}
use Rattle.cards.specs.Press.{WellFormed}
use Rattle.message.specs.declared.Content.{Content}
use Rattle.places.proofs.Every.{Every}
use Rattle.packages.specs.Package.{head6, answers_in, commands_in, refs_fit}
use Rattle.card_moves.proofs.FormedLaws.{bare_formed}
use Rattle.press_tells.specs.Tell.{commands}
use Rattle.press_ends.specs.End.{marks_end}
use Rattle.press_ends.proofs.FormedEnds.{marks_formed}
use Rattle.press_takes.specs.Take.{taken_all}
use Rattle.press_takes.proofs.FormedTakes.{takings_formed}
use Rattle.press_rules.specs.Took.{Took}
use Rattle.press_judges.specs.Lawful.{lawful4}
use Rattle.press_rules.specs.Took.{refused}
use Rattle.press_rules.specs.Pkg2.{lawful2, mode_in, sends_pkg3, press_takes2}
use Rattle.press_rules.specs.Pkg4.{taken_from, sends_pkg5, press_takes4}
use Rattle.press_rules.specs.Pkg6.{closed, press_takes6}

module _ (p : Press) (h : WellFormed p.cards) where
  abbrev Formed : Took → Type 0
  Formed t = WellFormed t.press.cards

  module _ (x : Content) where
    pub takes_2_formed : Formed (press_takes2 p x)
    unfolding press_takes2
    takes_2_formed = of_either (checked (lawful2 p x.head)) (refused p) (sends_pkg3 p (mode_in x.head)) Formed h h

    pub takes_4_formed : (m : Mode) → Every (λ o. IsWording o.wording) (commands_in x) → Formed (press_takes4 m p x)
    unfolding press_takes4 taken_all
    takes_4_formed m t =
        of_either (checked (lawful4 m p x)) (refused p) (sends_pkg5 p x (taken_from m p.cards x)) Formed h
        (takings_formed (commands_in x) t (marks_end m (commands m p.cards) (answers_in x) p.cards) (marks_formed m (commands m p.cards) (answers_in x) p.cards h))

    pub takes_6_formed : Formed (press_takes6 p x)
    unfolding press_takes6
    takes_6_formed = of_either (checked (refs_fit (head6 p.session) x.head)) (refused p) (closed p) Formed h (bare_formed p.cards h)
