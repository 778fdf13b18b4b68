-- Starting a session and each package keep the press in range, refused or not.
-- Assumes nothing.
use native.Mathlib.Omega.{arith}
use Rattle.terms.specs.Check.{checked}
use Rattle.terms.specs.declared.Mode.{Mode}
use Rattle.terms.proofs.CheckLaws.{of_either}
use Rattle.cards.specs.declared.Press.{Press}
use Rattle.message.specs.declared.Content.{Content}
use Rattle.message.specs.Message.{form_of}
use Rattle.places.proofs.Every.{Every}
use Rattle.packages.specs.Package.{head6, answers_in, commands_in, refs_fit}
use Rattle.sendable.specs.Sendable.{Sendable}
use Rattle.card_moves.proofs.FormedLaws.{bare_formed}
use Rattle.press_tells.specs.Tell.{commands}
use Rattle.press_judges.specs.Lawful.{lawful4}
use Rattle.press_ends.specs.End.{marks_end}
use Rattle.press_takes.specs.Take.{taken_all}
use Rattle.press_rules.specs.Pkg1.{Started}
use Rattle.press_rules.specs.Took.{Took}
use Rattle.press_rules.specs.Took.{refused}
use Rattle.press_rules.specs.Pkg1.{press_starts}
use Rattle.press_rules.specs.Pkg2.{lawful2, mode_in, sends_pkg3, press_takes2}
use Rattle.press_rules.specs.Pkg4.{taken_from, sends_pkg5, press_takes4}
use Rattle.press_rules.specs.Pkg6.{closed, press_takes6}
use Rattle.press_rules.proofs.Cases.{start_all}
use Rattle.press_sends.specs.InRange.{PressInRange}
use Rattle.press_sends.proofs.MoveLaws.{bare_ranged}
use Rattle.press_sends.proofs.TakeLaws.{marks_good, takings_good}

module _ (p : Press) (h : PressInRange p) where
  abbrev After : Took → Type 0
  After t = PressInRange t.press

  pub starts_in_range : PressInRange (press_starts p).press
  starts_in_range =
      start_all p (λ (t : Started). PressInRange t.press) (λ n. h)
      (λ left. record { formed = h.formed; cards = h.cards; anchor = h.anchor; session = (omega arith, omega (arith, h.session.1, left)) })

  module _ (x : Content) where
    pub takes_2_in_range : PressInRange (press_takes2 p x).press
    unfolding press_takes2
    takes_2_in_range =
        of_either (checked (lawful2 p x.head)) (refused p) (sends_pkg3 p (mode_in x.head)) After h
        (record { formed = h.formed; cards = h.cards; anchor = h.anchor; session = h.session })

    pub takes_4_in_range : (m : Mode) → Every (Sendable (form_of 4).commands) (commands_in x) → PressInRange (press_takes4 m p x).press
    unfolding press_takes4 taken_all form_of
    takes_4_in_range m s =
        let ended = marks_good m (commands m p.cards) (answers_in x) p.cards (h.formed, h.cards) in
        let taken = takings_good (commands_in x) (marks_end m (commands m p.cards) (answers_in x) p.cards) s ended in
        of_either (checked (lawful4 m p x)) (refused p) (sends_pkg5 p x (taken_from m p.cards x)) After h
        (record { formed = taken.0; cards = taken.1; anchor = h.anchor; session = h.session })

    pub takes_6_in_range : PressInRange (press_takes6 p x).press
    unfolding press_takes6
    takes_6_in_range =
        of_either (checked (refs_fit (head6 p.session) x.head)) (refused p) (closed p) After h
        (record { formed = bare_formed p.cards h.formed; cards = bare_ranged p.cards h.formed h.cards; anchor = h.session; session = h.session })
