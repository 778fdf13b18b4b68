-- Every package that a press in range sends is in the written form: Pkg 1, Pkg 3 and Pkg 5.
-- Assumes nothing.
use Prim.Native.Nat.{ℕ, ◌+◌, ◌≤◌}
use mathlib.Core.Path.{◌≡◌, refl}
use mathlib.Core.Bool.{true}
use native.Mathlib.Omega.{arith}
use lib.ListN.{length, length-take}
use Rattle.lists.specs.Lists.{most_listed}
use Rattle.terms.specs.Check.{checked, or_refuse}
use Rattle.terms.specs.declared.Check.{Check}
use Rattle.terms.specs.declared.Check.TheVariants.{Pass, Fail}
use Rattle.terms.specs.declared.Mode.{Mode}
use Rattle.terms.proofs.CheckLaws.{passes}
use Rattle.cards.specs.declared.Press.{Press}
use Rattle.message.specs.declared.Content.{Content}
use Rattle.message.specs.Message.{form_of}
use Rattle.places.specs.Act.{replies}
use Rattle.places.proofs.Every.{Every}
use Rattle.places.proofs.Turns.{replies_length}
use Rattle.packages.specs.Package.{answers_in, commands_in}
use Rattle.sendable.specs.Sendable.{Sendable, SendablePackage}
use Rattle.sendable.proofs.PackageLaws.{pkg1_sendable, pkg3_sendable, pkg5_sendable}
use Rattle.press_tells.specs.Tell.{reports, commands}
use Rattle.press_tells.proofs.TellLaws.{reports_most, commands_most}
use Rattle.press_judges.specs.Lawful.{lawful4}
use Rattle.press_judges.proofs.LawfulLaws.{lawful_parts}
use Rattle.press_ends.specs.End.{marks_end}
use Rattle.press_replies.specs.Reply.{answering}
use Rattle.press_takes.specs.Take.{after_command, taken_all}
use Rattle.press_rules.specs.Pkg1.{Start}
use Rattle.press_rules.specs.Pkg1.{Started}
use Rattle.press_rules.specs.Took.{Took}
use Rattle.press_rules.specs.Took.{refused}
use Rattle.press_rules.specs.Pkg1.{press_starts}
use Rattle.press_rules.specs.Pkg2.{lawful2, mode_in, sends_pkg3, press_takes2}
use Rattle.press_rules.specs.Pkg4.{taken_from, sends_pkg5, press_takes4}
use Rattle.press_rules.proofs.Cases.{start_all}
use Rattle.press_sends.specs.InRange.{PressInRange}
use Rattle.press_sends.proofs.TakeLaws.{marks_good}
use Rattle.press_sends.proofs.ToldLaws.{reports_sendable, commands_sendable}
use Rattle.press_sends.proofs.StatusLaws.{replies_sendable}

-- where the package is taken, its answer is in the written form
abbrev pub Sends : Took → Type 0
Sends t = t.check ≡ Pass → SendablePackage t.answer

module _ (p : Press) (h : PressInRange p) where
  where_taken : (k : Check) (t : Took) → (k ≡ Pass → SendablePackage t.answer) → Sends (or_refuse k (refused p) t)
  where_taken Pass t f = λ e. f refl
  where_taken Fail t f = λ e. let z : ◌≡◌ {A = ℕ} 0 1 = cc in absurd (omega arith)

  -- where the start is not refused
  pub sends_1 : (press_starts p).start ≡ Start.Open → SendablePackage (press_starts p).answer
  sends_1 =
      start_all p (λ (t : Started). t.start ≡ Start.Open → SendablePackage t.answer) (λ n e. let z : ◌≡◌ {A = ℕ} 0 1 = cc in absurd (omega arith))
      (λ left e. pkg1_sendable (p.session + 1) (omega arith, omega (arith, h.session.1, left)) p.anchor h.anchor)

  module _ (x : Content) where
    pub sends_3 : Sends (press_takes2 p x)
    unfolding press_takes2
    sends_3 =
        let m = mode_in x.head in
        let c = p.cards in
        let long = h.formed.luids.long in
        where_taken (checked (lawful2 p x.head)) (sends_pkg3 p m)
        (λ e. pkg3_sendable p.session h.session (reports c) (reports_most c long) (commands m c) (commands_most c long m) (reports_sendable c h.formed h.cards)
        (commands_sendable c h.formed h.cards m))

    -- the commands of Pkg 4 were read
    module _ (m : Mode) (s : Every (Sendable (form_of 4).commands) (commands_in x)) where
      pkg5_fits : lawful4 m p x ≡ true → SendablePackage (sends_pkg5 p x (taken_from m p.cards x)).answer
      unfolding taken_all form_of
      pkg5_fits e =
          let law = lawful_parts m p x e in
          let os = commands_in x in
          let c = marks_end m (commands m p.cards) (answers_in x) p.cards in
          let few : length os ≤ most_listed = omega (arith, length-take x.commanded x.commands, law.commanded) in
          pkg5_sendable p.session h.session (replies answering after_command (4 + x.answered) os c) (omega (arith, replies_length answering after_command (4 + x.answered) os c)) (3 + x.answered)
          (omega arith, omega (arith, law.answered))
          (replies_sendable (4 + x.answered) os c (omega (arith, law.answered)) s (marks_good m (commands m p.cards) (answers_in x) p.cards (h.formed, h.cards)))

      pub sends_5 : Sends (press_takes4 m p x)
      unfolding press_takes4
      sends_5 = where_taken (checked (lawful4 m p x)) (sends_pkg5 p x (taken_from m p.cards x)) (λ e. pkg5_fits (passes (lawful4 m p x) e))
