-- The cases of each call of the press, by what its checks said. Assumes nothing.
use Prim.Native.Nat.{ℕ}
use mathlib.Core.Path.{◌≡◌, refl, ◌∙◌}
use mathlib.Core.Bool.{not}
use lib.Dec.{eqb}
use borrow.Author.Tests.{eqb-false, not-true}
use Rattle.terms.specs.Check.{checked}
use Rattle.terms.specs.declared.Check.{Check}
use Rattle.terms.specs.declared.Check.TheVariants.{Pass, Fail}
use Rattle.terms.specs.declared.Mode.{Mode}
use Rattle.terms.proofs.CheckLaws.{goes_on, stops, passes}
use Rattle.cards.specs.declared.Press.{Press}
use Rattle.cards.specs.Press.{is_open}
use Rattle.message.specs.declared.Content.{Content}
use Rattle.packages.specs.Package.{head6, refs_fit}
use Rattle.press_judges.specs.Lawful.{lawful4}
use Rattle.press_rules.specs.Pkg1.{Started}
use Rattle.press_rules.specs.Took.{refused}
use Rattle.press_rules.specs.Pkg1.{not_started, started, press_starts}
use Rattle.press_rules.specs.Pkg2.{lawful2, mode_in, sends_pkg3, press_takes2}
use Rattle.press_rules.specs.Pkg4.{taken_from, sends_pkg5, press_takes4}
use Rattle.press_rules.specs.Pkg6.{closed, press_takes6}

module _ (p : Press) where
  abbrev pub Closed : Check → Type 0
  Closed k = checked (not (is_open p.awaits)) ≡ k

  abbrev pub Left : Check → Type 0
  Left k = checked (not (eqb p.session 4294967295)) ≡ k

  pub start_open : Closed Fail → press_starts p ≡ not_started 1 p
  unfolding press_starts
  start_open e = stops _ _ _ e

  pub start_spent : Closed Pass → Left Fail → press_starts p ≡ not_started 2 p
  unfolding press_starts
  start_spent e f = goes_on _ _ _ e ∙ stops _ _ _ f

  pub start_done : Closed Pass → Left Pass → press_starts p ≡ started p
  unfolding press_starts
  start_done e f = goes_on _ _ _ e ∙ goes_on _ _ _ f

  -- what holds of each refusal and of the start that is done holds of the call
  pub start_all : (P : Started → Type 0) → ((n : ℕ) → P (not_started n p)) → ((p.session ≡ 4294967295 → ⊥) → P (started p)) → P (press_starts p)
  start_all P if-refused if-done = go (checked (not (is_open p.awaits))) (checked (not (eqb p.session 4294967295))) refl refl
    where
      go : (k m : Check) → Closed k → Left m → P (press_starts p)
      go Fail m e f = rw (start_open e) (if-refused 1)
      go Pass Fail e f = rw (start_spent e f) (if-refused 2)
      go Pass Pass e f = rw (start_done e f) (if-done (eqb-false p.session 4294967295 (not-true (eqb p.session 4294967295) (passes _ f))))

  module _ (x : Content) where
    pub refused_2 : checked (lawful2 p x.head) ≡ Fail → press_takes2 p x ≡ refused p
    unfolding press_takes2
    refused_2 e = stops _ _ _ e

    pub taken_2 : checked (lawful2 p x.head) ≡ Pass → press_takes2 p x ≡ sends_pkg3 p (mode_in x.head)
    unfolding press_takes2
    taken_2 e = goes_on _ _ _ e

    pub refused_4 : (m : Mode) → checked (lawful4 m p x) ≡ Fail → press_takes4 m p x ≡ refused p
    unfolding press_takes4
    refused_4 m e = stops _ _ _ e

    pub taken_4 : (m : Mode) → checked (lawful4 m p x) ≡ Pass → press_takes4 m p x ≡ sends_pkg5 p x (taken_from m p.cards x)
    unfolding press_takes4
    taken_4 m e = goes_on _ _ _ e

    pub refused_6 : checked (refs_fit (head6 p.session) x.head) ≡ Fail → press_takes6 p x ≡ refused p
    unfolding press_takes6
    refused_6 e = stops _ _ _ e

    pub taken_6 : checked (refs_fit (head6 p.session) x.head) ≡ Pass → press_takes6 p x ≡ closed p
    unfolding press_takes6
    taken_6 e = goes_on _ _ _ e
