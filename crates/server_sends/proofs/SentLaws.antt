-- Every package that the server sends is in the written form: Pkg 2, 4 and 6, where the package before it was read and is taken. Assumes nothing.
use Prim.Native.Nat.{ℕ, ◌+◌, ◌≤◌}
use mathlib.Core.Path.{◌≡◌, refl}
use mathlib.Core.Bool.{true}
use native.Mathlib.Omega.{arith}
use lib.ListN.{length, length-take}
use Rattle.lists.specs.Lists.{most_listed}
use Rattle.terms.specs.declared.Check.{Check}
use Rattle.terms.specs.declared.Check.TheVariants.{Pass, Fail}
use Rattle.terms.proofs.CheckLaws.{passes}
use Rattle.terms.specs.declared.Mode.{Mode}
use Rattle.terms.specs.Check.{checked, or_refuse}
use Rattle.records.specs.declared.Server.{Server}
use Rattle.page.specs.declared.Kinds.{Kinds}
use Rattle.elements.specs.Element.{head_c}
use Rattle.message.specs.declared.Content.{Content}
use Rattle.packages.specs.Package.{answers_in, commands_in}
use Rattle.places.proofs.Every.{Every}
use Rattle.sendable.specs.Sendable.{Sendable, SendablePackage}
use Rattle.sendable.proofs.TakenLaws.{head_session}
use Rattle.sendable.proofs.PackageLaws.{pkg2_sendable, pkg4_sendable, pkg6_sendable}
use Rattle.server_reports.specs.Step1.{InTurn}
use Rattle.server_reports.specs.Step1.{reported}
use Rattle.server_merge.specs.Merge.{merged, statuses_for}
use Rattle.server_offers.specs.Offer.{offers, commands}
use Rattle.server_offers.proofs.OfferLaws.{commands_most}
use Rattle.server_answers.specs.Answer.{answered}
use Rattle.server_judges.specs.Lawful.{lawful3}
use Rattle.server_judges.proofs.LawfulLaws.{lawful_counts}
use Rattle.server_rules.specs.Took.{Took}
use Rattle.server_rules.specs.Took.{refused}
use Rattle.server_rules.specs.Pkg1.{lawful1, mode_for, opens, server_takes1}
use Rattle.server_rules.specs.Pkg3.{sync_ref, pkg4, merges, server_takes3}
use Rattle.server_rules.specs.Pkg5.{fits5, closes, server_takes5}
use Rattle.server_sends.specs.InRange.{ServerInRange}
use Rattle.server_sends.proofs.AllLaws.{all_of}
use Rattle.server_sends.proofs.StepLaws.{merged_ready}
use Rattle.server_sends.proofs.ServerLaws.{read_in_range, read_texts, reported_in_range, merged_in_range}
use Rattle.server_sends.proofs.CommandLaws.{commands_sendable}
use Rattle.server_sends.proofs.StatusLaws.{statuses_sendable, statuses_length}

-- where the package is taken, its answer is in the written form
abbrev pub Sends : Took → Type 0
Sends t = t.check ≡ Pass → SendablePackage t.answer

module _ (s : Server) (h : ServerInRange s) (x : Content) where
  where_taken : (k : Check) (t : Took) → (k ≡ Pass → Sends t) → Sends (or_refuse k (refused s) t)
  where_taken Pass t f = f refl
  where_taken Fail t f = λ e. let z : ◌≡◌ {A = ℕ} 0 1 = cc in absurd (omega arith)

  pub sends_2 : head_c.good x.head → Sends (server_takes1 s x)
  unfolding server_takes1
  sends_2 g =
      let m = mode_for x.head.last s.link.anchor in
      where_taken (checked (lawful1 x.head)) (opens s x.head m)
      (λ e p. pkg2_sendable x.head.session (head_session x.head g) s.link.anchor m h.anchor)

  -- k and l are the kinds of element that the lists of Pkg 3 can hold
  module _ (k l : Kinds) (a : Every (Sendable k) (answers_in x)) (c : Every (Sendable l) (commands_in x)) (m : Mode) where
    abbrev after : InTurn
    after = reported (answers_in x) s.records

    pkg4_fits : lawful3 m x ≡ true → SendablePackage (pkg4 s.rule m s.link.session x after.records)
    pkg4_fits e =
        let cs = commands_in x in
        let r = after.records in
        let few = lawful_counts m x e in
        let many : length cs ≤ most_listed = omega (arith, length-take x.commanded x.commands, few.1) in
        let reports = reported_in_range s.records h.records (answers_in x) (read_in_range k (answers_in x) a) in
        let formed = (merged_in_range r reports s.rule m cs (read_in_range l cs c) (read_texts l cs c)).safe.formed in
        pkg4_sendable s.link.session h.session (statuses_for s.rule m (4 + x.answered) cs r) (omega (arith, statuses_length s.rule m (4 + x.answered) cs r))
        (commands (merged s.rule m cs r)) (commands_most (merged s.rule m cs r) formed.guids.long) (sync_ref x) (omega arith, omega (arith, few.0))
        (statuses_sendable s.rule m (4 + x.answered) cs r (omega (arith, few.0)))
        (commands_sendable (merged s.rule m cs r) (merged_ready s.rule m cs r (read_in_range l cs c) (all_of r reports)) formed)

    pub sends_4 : Sends (server_takes3 m s x)
    unfolding server_takes3
    sends_4 =
        where_taken (checked (lawful3 m x)) (or_refuse after.check (refused s) (merges m s x after.records))
        (λ e. where_taken after.check (merges m s x after.records) (λ q p. pkg4_fits (passes (lawful3 m x) e)))

  pub sends_6 : (n : ℕ) → Sends (server_takes5 n s x)
  unfolding server_takes5
  sends_6 n =
      let os = offers s.records in
      let r = answered os (answers_in x) s.records in
      where_taken (checked (fits5 n os x)) (or_refuse r.check (refused s) (closes s r.records))
      (λ e. where_taken r.check (closes s r.records) (λ q p. pkg6_sendable s.link.session h.session))
