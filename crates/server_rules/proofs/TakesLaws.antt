-- What holds of the server as it was, and of what a package makes of it, holds of it after the package, taken or refused. Assumes nothing.
use Prim.Native.Nat.{ℕ}
use Rattle.terms.proofs.CheckLaws.{of_either}
use Rattle.terms.specs.declared.Check.{Check}
use Rattle.terms.specs.declared.Mode.{Mode}
use Rattle.terms.specs.Check.{checked, or_refuse}
use Rattle.records.specs.declared.Server.{Server}
use Rattle.message.specs.declared.Content.{Content}
use Rattle.packages.specs.Package.{answers_in}
use Rattle.server_reports.specs.Step1.{reported}
use Rattle.server_offers.specs.Offer.{offers}
use Rattle.server_answers.specs.Answer.{answered}
use Rattle.server_judges.specs.Lawful.{lawful3}
use Rattle.server_rules.specs.Took.{Took}
use Rattle.server_rules.specs.Took.{refused}
use Rattle.server_rules.specs.Pkg1.{lawful1, mode_for, opens, server_takes1}
use Rattle.server_rules.specs.Pkg3.{merges, server_takes3}
use Rattle.server_rules.specs.Pkg5.{fits5, closes, server_takes5}

module _ (In : Server → Type 0) (s : Server) (h : In s) where
  abbrev pub InTook : Took → Type 0
  InTook t = In t.server

  either : (k : Check) (t : Took) → InTook t → InTook (or_refuse k (refused s) t)
  either k t e = of_either k (refused s) t InTook h e

  pub takes_1_in : (p : Content) → InTook (opens s p.head (mode_for p.head.last s.link.anchor)) → InTook (server_takes1 s p)
  unfolding server_takes1
  takes_1_in p e = either (checked (lawful1 p.head)) (opens s p.head (mode_for p.head.last s.link.anchor)) e

  pub takes_3_in : (m : Mode) (p : Content) → InTook (merges m s p (reported (answers_in p) s.records).records) → InTook (server_takes3 m s p)
  unfolding server_takes3
  takes_3_in m p e =
      let r = reported (answers_in p) s.records in
      let next = merges m s p r.records in
      either (checked (lawful3 m p)) (or_refuse r.check (refused s) next) (either r.check next e)

  pub takes_5_in : (n : ℕ) (p : Content) → InTook (closes s (answered (offers s.records) (answers_in p) s.records).records) → InTook (server_takes5 n s p)
  unfolding server_takes5
  takes_5_in n p e =
      let os = offers s.records in
      let r = answered os (answers_in p) s.records in
      let next = closes s r.records in
      either (checked (fits5 n os p)) (or_refuse r.check (refused s) next) (either r.check next e)
