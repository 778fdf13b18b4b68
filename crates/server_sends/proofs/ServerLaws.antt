-- Whatever package was read, taken or refused: the server stays in range. Assumes nothing.
use Prim.Native.Nat.{ℕ}
use mathlib.Core.List.{List}
use Rattle.text.specs.Wording.{IsWording}
use Rattle.terms.specs.declared.Mode.{Mode}
use Rattle.records.specs.declared.Records.{Records}
use Rattle.records.specs.declared.Rule.{Rule}
use Rattle.records.specs.declared.Server.{Server}
use Rattle.page.specs.declared.Kinds.{Kinds}
use Rattle.elements.specs.Element.{head_c}
use Rattle.lists.specs.declared.Entry.{Entry}
use Rattle.message.specs.declared.Content.{Content}
use Rattle.packages.specs.Package.{answers_in, commands_in}
use Rattle.places.proofs.Every.{Every, every}
use Rattle.sendable.specs.Sendable.{Sendable}
use Rattle.sendable.proofs.TakenLaws.{taken_luid, taken_fp, head_session}
use Rattle.server_reports.specs.Step1.{reported}
use Rattle.server_reports.proofs.SafeReports.{reports_safe}
use Rattle.server_merge.specs.Merge.{merged}
use Rattle.server_offers.specs.Offer.{offers, offered}
use Rattle.server_offers.proofs.SafeOffers.{offered_safe}
use Rattle.server_answers.specs.Answer.{answered}
use Rattle.server_answers.proofs.SafeAnswers.{answers_safe}
use Rattle.server_rules.specs.Took.{Took}
use Rattle.server_rules.specs.Pkg1.{server_takes1}
use Rattle.server_rules.specs.Pkg3.{server_takes3}
use Rattle.server_rules.specs.Pkg5.{server_takes5}
use Rattle.server_rules.proofs.SafeServer.{Texts, merged_safe}
use Rattle.server_rules.proofs.TakesLaws.{takes_1_in, takes_3_in, takes_5_in}
use Rattle.server_sends.specs.InRange.{RecordsInRange, ServerInRange}
use Rattle.server_sends.proofs.AllLaws.{all_of, in_range_lem}
use Rattle.server_sends.proofs.RecordLaws.{EntryInRange}
use Rattle.server_sends.proofs.StepLaws.{reported_ranged, merged_ready, ready_ranged, offered_ranged, answered_ranged}

-- ---- what was read tells the ranges of its LUIDs and fingerprints, and that its texts keep the text rule
module _ (k : Kinds) (xs : List Entry) (h : Every (Sendable k) xs) where
  pub read_in_range : Every EntryInRange xs
  read_in_range = every (Sendable k) EntryInRange (λ e s. (taken_luid k e s, taken_fp k e s)) xs h

  pub read_texts : Texts xs
  read_texts = every (Sendable k) (λ e. IsWording e.wording) (λ e s. s.1) xs h

-- ---- the records after each step
module _ (c : Records) (h : RecordsInRange c) where
  pub reported_in_range : (rs : List Entry) → Every EntryInRange rs → RecordsInRange (reported rs c).records
  reported_in_range rs e = in_range_lem (reported rs c).records (reports_safe rs c h.safe) (reported_ranged rs c e (all_of c h))

  pub merged_in_range : (rule : Rule) (m : Mode) (cs : List Entry) → Every EntryInRange cs → Texts cs → RecordsInRange (merged rule m cs c)
  merged_in_range rule m cs e t = in_range_lem (merged rule m cs c) (merged_safe rule m cs t c h.safe) (ready_ranged (merged rule m cs c) (merged_ready rule m cs c e (all_of c h)))

  offered_in_range : RecordsInRange (offered c)
  offered_in_range = in_range_lem (offered c) (offered_safe c h.safe) (offered_ranged c (all_of c h))

  answered_in_range : (os xs : List Entry) → Every EntryInRange xs → RecordsInRange (answered os xs c).records
  answered_in_range os xs e = in_range_lem (answered os xs c).records (answers_safe os xs c h.safe) (answered_ranged os xs c e (all_of c h))

-- ---- the packages: k and l are the kinds of element that the package's lists can hold
abbrev pub TookInRange : Took → Type 0
TookInRange t = ServerInRange t.server

module _ (s : Server) (h : ServerInRange s) (x : Content) where
  pub takes_1_in_range : head_c.good x.head → TookInRange (server_takes1 s x)
  takes_1_in_range g = takes_1_in ServerInRange s h x (record { records = h.records; session = head_session x.head g; anchor = h.anchor })

  module _ (k : Kinds) (a : Every (Sendable k) (answers_in x)) where
    pub takes_3_in_range : (l : Kinds) → Every (Sendable l) (commands_in x) → (m : Mode) → TookInRange (server_takes3 m s x)
    takes_3_in_range l c m =
        let cs = commands_in x in
        let r = reported (answers_in x) s.records in
        let reports = reported_in_range s.records h.records (answers_in x) (read_in_range k (answers_in x) a) in
        let merge = merged_in_range r.records reports s.rule m cs (read_in_range l cs c) (read_texts l cs c) in
        takes_3_in ServerInRange s h m x (record { records = offered_in_range (merged s.rule m cs r.records) merge; session = h.session; anchor = h.anchor })

    pub takes_5_in_range : (n : ℕ) → TookInRange (server_takes5 n s x)
    takes_5_in_range n =
        takes_5_in ServerInRange s h n x (record { records = answered_in_range s.records h.records (offers s.records) (answers_in x) (read_in_range k (answers_in x) a); session = h.session; anchor = h.session })
