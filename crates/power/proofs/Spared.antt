-- A store that may be left out: the message that is taken where Pkg 2 is awaited changes the press's open state alone, which a boot forgets. Assumes nothing.
use Prim.Native.Nat.{ℕ}
use mathlib.Core.Path.{◌≡◌, refl, sym, subst}
use mathlib.Core.List.{List}
use Rattle.terms.specs.Check.{checked}
use Rattle.terms.proofs.CheckLaws.{of_either}
use Rattle.message.specs.declared.Content.{Content}
use Rattle.cards.specs.declared.Awaits.{Awaits}
use Rattle.cards.specs.declared.Press.{Press}
use Rattle.cards.specs.Press.{press_gives_up}
use Rattle.press_rules.specs.Took.{Took}
use Rattle.press_rules.specs.Took.{refused}
use Rattle.press_rules.specs.Pkg2.{lawful2, mode_in, sends_pkg3, press_takes2}
use Rattle.press_awaits.specs.Awaited.{press_does}
use Rattle.press_calls.specs.Call.{press_takes}
use Rattle.demand3.proofs.AnyMessage.{press_keeps}

module _ (p : Press) where
  -- with either in its store the press boots as the same
  abbrev BootsAlike : Press → Type 0
  BootsAlike q = press_gives_up q ≡ press_gives_up p

  took_2 : (x : Content) → BootsAlike (press_does Awaits.Two p x).press
  unfolding press_takes2
  took_2 x = of_either (checked (lawful2 p x.head)) (refused p) (sends_pkg3 p (mode_in x.head)) (λ (t : Took). BootsAlike t.press) refl refl

  pub pkg_2_spared : p.awaits ≡ Awaits.Two → (m out : List ℕ) → BootsAlike (press_takes p m out).side
  pkg_2_spared e = press_keeps BootsAlike p refl (λ x r. subst (λ (a : Awaits). BootsAlike (press_does a p x).press) (sym e) (took_2 x))
