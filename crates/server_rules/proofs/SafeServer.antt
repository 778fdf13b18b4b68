-- Whatever package comes, the server's table stays safe: well-formed, and no LUID in two records (the texts and stations of Pkg 3 keep their rules). Assumes nothing.
use Prim.Native.Nat.{ℕ}
use mathlib.Core.List.{List}
use Rattle.text.specs.Wording.{IsWording}
use Rattle.terms.specs.declared.Mode.{Mode}
use Rattle.records.specs.declared.Records.{Records}
use Rattle.records.specs.declared.Rule.{Rule}
use Rattle.records.specs.declared.Server.{Server}
use Rattle.lists.specs.declared.Entry.{Entry}
use Rattle.message.specs.declared.Content.{Content}
use Rattle.packages.specs.Package.{answers_in, commands_in}
use Rattle.places.proofs.Every.{Every, every_drop}
use Rattle.record_moves.specs.Named.{Safe}
use Rattle.server_reports.specs.Step1.{reported}
use Rattle.server_reports.proofs.SafeReports.{reports_safe}
use Rattle.server_deletes.specs.Step2.{deletes_in, step2}
use Rattle.server_deletes.proofs.SafeDeletes.{step2_safe}
use Rattle.server_forgets.proofs.SafeForgets.{step3_safe}
use Rattle.server_changes.proofs.SafeChanges.{changes_safe}
use Rattle.server_merge.specs.Merge.{changes_of, up_to3, merged}
use Rattle.server_offers.specs.Offer.{offers}
use Rattle.server_offers.proofs.SafeOffers.{offered_safe}
use Rattle.server_answers.proofs.SafeAnswers.{answers_safe}
use Rattle.server_rules.specs.Took.{Took}
use Rattle.server_rules.specs.Pkg1.{server_takes1}
use Rattle.server_rules.specs.Pkg3.{server_takes3}
use Rattle.server_rules.specs.Pkg5.{server_takes5}
use Rattle.server_rules.proofs.TakesLaws.{takes_1_in, takes_3_in, takes_5_in}

-- each command's text and station keep their rules
abbrev pub Texts : List Entry → Type 0
Texts = Every (λ c. IsWording c.wording)

pub merged_safe : (rule : Rule) (m : Mode) (cs : List Entry) → Texts cs → (s : Records) → Safe s → Safe (merged rule m cs s)
unfolding merged
merged_safe rule m cs t s h =
    changes_safe rule (changes_of cs) (every_drop (λ c. IsWording c.wording) (deletes_in cs) cs t) (up_to3 m cs s) (step3_safe (step2 m cs s) (step2_safe m cs s h))

-- the server that is left is safe; as it was where the package is refused
abbrev pub SafeTook : Took → Type 0
SafeTook t = Safe t.server.records

module _ (s : Server) (h : Safe s.records) where
  abbrev SafeServer : Server → Type 0
  SafeServer t = Safe t.records

  pub takes_1_safe : (p : Content) → SafeTook (server_takes1 s p)
  takes_1_safe p = takes_1_in SafeServer s h p h

  pub takes_3_safe : (m : Mode) (p : Content) → Texts (commands_in p) → SafeTook (server_takes3 m s p)
  takes_3_safe m p t =
      let r = reported (answers_in p) s.records in
      takes_3_in SafeServer s h m p (offered_safe (merged s.rule m (commands_in p) r.records) (merged_safe s.rule m (commands_in p) t r.records (reports_safe (answers_in p) s.records h)))

  pub takes_5_safe : (n : ℕ) (p : Content) → SafeTook (server_takes5 n s p)
  takes_5_safe n p = takes_5_in SafeServer s h n p (answers_safe (offers s.records) (answers_in p) s.records h)
