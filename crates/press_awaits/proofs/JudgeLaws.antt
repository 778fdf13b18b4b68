-- What the press's answer comes to, by what the rules said. Assumes nothing.
use mathlib.Core.Path.{◌≡◌, refl, sym, ap, ap₂, ◌∙◌}
use Prim.Native.Nat.{ℕ}
use mathlib.Core.Bool.{Bool, true, false, cond}
use lib.Dec.{eqb}
use Rattle.terms.proofs.CheckLaws.{of_either}
use Rattle.std.proofs.Common.{Result, Ok, Err}
use Rattle.terms.specs.declared.Check.{Check}
use Rattle.terms.specs.declared.Check.TheVariants.{Pass, Fail}
use Rattle.terms.specs.declared.Mode.{Mode}
use Rattle.terms.specs.declared.Refusal.{Refusal}
use Rattle.terms.specs.Refusal.{number_of}
use Rattle.terms.specs.Check.{checked, or_refuse}
use Rattle.cards.specs.declared.Press.{Press}
use Rattle.message.specs.declared.Content.{Content}
use Rattle.calls.specs.Says.{Says, Called, sends, done, refuses, sending, refusing}
use Rattle.press_rules.specs.Took.{Took, refused, taken}
use Rattle.packages.specs.Package.{head6, refs_fit}
use Rattle.press_judges.specs.Lawful.{lawful4}
use Rattle.press_rules.specs.Pkg2.{lawful2, mode_in, sends_pkg3, press_takes2}
use Rattle.press_rules.specs.Pkg4.{taken_from, sends_pkg5, press_takes4}
use Rattle.press_rules.specs.Pkg6.{closed, press_takes6}
use Rattle.press_awaits.specs.Awaited.{awaited, press_does}
use Rattle.press_awaits.specs.OnContent.{press_replies, press_ruled, press_judges}

-- ---- against the rules the press stays as it was
pub record Stays (p : Press) (t : Took) : Type 0 where
  pub same : t.check ≡ Fail → t.press ≡ p

stays : (k : Check) (p : Press) (t : Took) → t.check ≡ Pass → Stays p (or_refuse k (refused p) t)
stays Pass p t passes = record { same = λ e. cc }
stays Fail p t passes = record { same = λ e. refl }

pub stays_2 : (p : Press) (x : Content) → Stays p (press_takes2 p x)
unfolding press_takes2
stays_2 p x = stays (checked (lawful2 p x.head)) p (sends_pkg3 p (mode_in x.head)) refl

pub stays_4 : (m : Mode) (p : Press) (x : Content) → Stays p (press_takes4 m p x)
unfolding press_takes4
stays_4 m p x = stays (checked (lawful4 m p x)) p (sends_pkg5 p x (taken_from m p.cards x)) refl

pub stays_6 : (p : Press) (x : Content) → Stays p (press_takes6 p x)
unfolding press_takes6
stays_6 p x = stays (checked (refs_fit (head6 p.session) x.head)) p (closed p) refl

-- ---- a package that is awaited is refused as the rules say: t is what they make of it
module _ {A : Type 0} (p : Press) (x : Content) (t : Took) (a : A) (due : awaited p.awaits p.session x.head ≡ true) (rules : t ≡ press_does p.awaits p x) (keeps : Stays p t) where
  ruled : press_ruled p x.head.pkg t ≡ press_judges p x
  ruled = ap (press_ruled p x.head.pkg) rules ∙ sym (ap (λ (b : Bool). or_refuse (checked b) (refusing 5 p) (press_ruled p x.head.pkg (press_does p.awaits p x))) due)

  pub judged_not : {q : Press} {r : Refusal} → q ≡ t.press → or_refuse {A = Result A Refusal} t.check (Err Refusal.Unlawful) (Ok a) ≡ Err r
      → ◌≡◌ {A = Called Press Content} (record { side = q; says = refuses (number_of r) }) (press_judges p x)
  judged_not {q} {r} left said = go t.check refl said
    where
      go : (k : Check) → t.check ≡ k → or_refuse {A = Result A Refusal} k (Err Refusal.Unlawful) (Ok a) ≡ Err r
          → ◌≡◌ {A = Called Press Content} (record { side = q; says = refuses (number_of r) }) (press_judges p x)
      go Pass e i = cc
      go Fail e i =
          let why : Refusal.Unlawful ≡ r = cc in
          ap₂ (λ (s : Press) (v : Refusal). record { side = s; says = refuses (number_of v) }) (left ∙ keeps.same e) (sym why)
          ∙ sym (ap (λ (k : Check). or_refuse k (refusing 8 p) (press_replies x.head.pkg t)) e)
          ∙ ruled

-- ---- a press that refuses a package stays as it was
refused_same : (p q : Press) (m n : ℕ) → ◌≡◌ {A = Called Press Content} (refusing n q) (refusing m p) → q ≡ p
refused_same p q m n e = ap (λ (c : Called Press Content). c.side) e

abbrev Keeps : (p q : Press) (n : ℕ) → Called Press Content → Type 0
Keeps p q n c = refusing n q ≡ c → q ≡ p

answered : (p q : Press) (n : ℕ) (t : Took) (b : Bool) → Keeps p q n (cond b (record { side = t.press; says = done }) (sending t.press t.answer))
answered p q n t true e = let said : ◌≡◌ {A = Says Content} (refuses n) done = ap (λ (c : Called Press Content). c.says) e in cc
answered p q n t false e = let said : ◌≡◌ {A = Says Content} (refuses n) (sends t.answer) = ap (λ (c : Called Press Content). c.says) e in cc

pub judged_keeps : (p : Press) (x : Content) {q : Press} {n : ℕ} → refusing n q ≡ press_judges p x → q ≡ p
judged_keeps p x {q} {n} =
    let t = press_does p.awaits p x in
    of_either (checked (awaited p.awaits p.session x.head)) (refusing 5 p) (press_ruled p x.head.pkg t) (Keeps p q n)
    (refused_same p q 5 n)
    (of_either t.check (refusing 8 p) (press_replies x.head.pkg t) (Keeps p q n) (refused_same p q 8 n) (answered p q n t (eqb x.head.pkg 6)))
