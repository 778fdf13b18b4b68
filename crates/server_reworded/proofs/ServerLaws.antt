-- The server at each package with other wordings: it takes or refuses the package as before, and answers the same. Assumes nothing.
use Prim.Native.Nat.{ℕ, ◌+◌}
use mathlib.Core.Path.{◌≡◌, refl, ap, ap₂, ◌∙◌}
use mathlib.Core.Bool.{Bool, cond, ◌&&◌}
use mathlib.Core.List.{List, []}
use lib.Dec.{eqb, leb}
use Rattle.lists.specs.declared.Entry.{Entry}
use Rattle.lists.specs.Lists.{most_listed}
use Rattle.terms.specs.declared.Check.{Check}
use Rattle.terms.specs.declared.Mode.{Mode}
use Rattle.terms.specs.declared.Mode.TheVariants.{Normal, Recovery}
use Rattle.terms.specs.Check.{checked, or_refuse}
use Rattle.records.specs.declared.Awaits.{Awaits}
use Rattle.records.specs.declared.Records.{Records}
use Rattle.records.specs.declared.Server.{Server}
use Rattle.message.specs.declared.Content.{Content}
use Rattle.ranks.specs.declared.Row.TheVariants.{Reports, PressCommands}
use Rattle.statuses.specs.declared.Side.{Side}
use Rattle.statuses.specs.Status.{all_fit}
use Rattle.packages.specs.Package.{head2, head3, head4, head5, head6, packed, answers_in, commands_in, refs_fit, counts_fit}
use Rattle.server_reports.specs.Step1.{InTurn}
use Rattle.server_reports.specs.Step1.{reported}
use Rattle.server_judges.specs.Lawful.{mode_has, in_rows, lawful3}
use Rattle.server_merge.specs.Merge.{merged, statuses_for}
use Rattle.server_offers.specs.Offer.{offers, commands, offered}
use Rattle.server_answers.specs.Answer.{answered}
use Rattle.server_rules.specs.Took.{Took}
use Rattle.server_rules.specs.Took.{refused, taken, server_with}
use Rattle.server_rules.specs.Pkg1.{lawful1, mode_for, opens, server_takes1}
use Rattle.server_rules.specs.Pkg3.{sync_ref, merges, server_takes3}
use Rattle.server_rules.specs.Pkg5.{fits5, closes, server_takes5}
use Rattle.server_awaits.specs.Awaited.{awaited, is_new, later_does, server_does}
use Rattle.server_awaits.specs.OnContent.{server_ruled, server_judges}
use Rattle.calls.specs.Says.{sending, refusing}
use Rattle.reworded.specs.Reworded.{Rewording, reword_records, reword_server, reword_entries, reword_content, reword_called_server}
use Rattle.places.proofs.MapLaws.{cond_map}
use Rattle.terms.proofs.CheckLaws.{refuse_map}
use Rattle.reworded.proofs.EntryLaws.{same_ranked, same_once, same_replaces, same_fit, packed_reworded, no_package_lem, answers_reworded, commands_reworded}
use Rattle.server_reworded.proofs.RecordLaws.{reword_in_turn, reported_reworded}
use Rattle.server_reworded.proofs.MergeLaws.{merged_reworded, statuses_reworded}
use Rattle.server_reworded.proofs.OfferLaws as offer

module _ (r : Rewording) where
  abbrev pub reword_took : Took → Took
  reword_took t = record { check = t.check; server = reword_server r t.server; answer = reword_content r t.answer }

  refused_reworded : (s : Server) → refused (reword_server r s) ≡ reword_took (refused s)
  refused_reworded s = ap (λ (x : Content). record { check = Check.Fail; server = reword_server r s; answer = x }) (no_package_lem r)

  -- refused, or taken
  either : (s : Server) (k : Check) (t : Took) {k' : Check} {t' : Took} → k' ≡ k → t' ≡ reword_took t → or_refuse k' (refused (reword_server r s)) t' ≡ reword_took (or_refuse k (refused s) t)
  either s k t e q = refuse_map reword_took k (refused s) t e (refused_reworded s) q

  -- ---- Pkg 1
  pub takes_1_reworded : (s : Server) (x : Content) → server_takes1 (reword_server r s) (reword_content r x) ≡ reword_took (server_takes1 s x)
  unfolding server_takes1
  takes_1_reworded s x =
      let m = mode_for x.head.last s.link.anchor in
      either s (checked (lawful1 x.head)) (opens s x.head m) refl
      (ap (taken (server_with s.rule (reword_records r s.records) s.link.anchor x.head.session (Awaits.Three m))) (packed_reworded r (head2 x.head.session s.link.anchor m) [] []))

  -- ---- Pkg 3
  same_mode : (m : Mode) (cs : List Entry) → mode_has m (reword_entries r cs) ≡ mode_has m cs
  same_mode Normal cs = refl
  same_mode Recovery cs = same_replaces r cs

  same_rows : (es cs : List Entry) → in_rows (reword_entries r es) (reword_entries r cs) ≡ in_rows es cs
  same_rows es cs =
      ap₂ (λ (a b : Bool). a && b) (same_ranked r Reports es) (ap₂ (λ (a b : Bool). a && b) (same_ranked r PressCommands cs) (same_once r cs))

  pub same_lawful : (m : Mode) (x : Content) → lawful3 m (reword_content r x) ≡ lawful3 m x
  unfolding lawful3
  same_lawful m x =
      ap₂ (λ (es cs : List Entry). refs_fit (head3 x.head.session) x.head && (counts_fit x.answered x.commanded x.answersend && (in_rows es cs && mode_has m cs))) (answers_reworded r x) (commands_reworded r x)
      ∙ ap₂ (λ (a b : Bool). refs_fit (head3 x.head.session) x.head && (counts_fit x.answered x.commanded x.answersend && (a && b))) (same_rows (answers_in x) (commands_in x)) (same_mode m (commands_in x))

  merges_reworded : (m : Mode) (s : Server) (x : Content) (t : Records) → merges m (reword_server r s) (reword_content r x) (reword_records r t) ≡ reword_took (merges m s x t)
  merges_reworded m s x t =
      let cs = commands_in x in
      let after = merged s.rule m cs t in
      let told = statuses_for s.rule m (4 + x.answered) cs t in
      ap
      (λ (l : List Entry). taken
      (server_with s.rule (offered (merged s.rule m l (reword_records r t))) s.link.anchor s.link.session (Awaits.Five x.commanded))
      (packed (head4 s.link.session (sync_ref x)) (statuses_for s.rule m (4 + x.answered) l (reword_records r t)) (commands (merged s.rule m l (reword_records r t)))))
      (commands_reworded r x)
      ∙ ap₂
      (λ (u : Records) (l : List Entry). taken (server_with s.rule (offered u) s.link.anchor s.link.session (Awaits.Five x.commanded)) (packed (head4 s.link.session (sync_ref x)) l (commands u)))
      (merged_reworded r s.rule m cs t) (statuses_reworded r s.rule m (4 + x.answered) cs t)
      ∙ ap₂
      (λ (u : Records) (l : List Entry). taken (server_with s.rule u s.link.anchor s.link.session (Awaits.Five x.commanded)) (packed (head4 s.link.session (sync_ref x)) (reword_entries r told) l))
      (offer.offered_reworded r after) (offer.commands_reworded r after)
      ∙ ap (taken (server_with s.rule (reword_records r (offered after)) s.link.anchor s.link.session (Awaits.Five x.commanded))) (packed_reworded r (head4 s.link.session (sync_ref x)) told (commands after))

  pub takes_3_reworded : (m : Mode) (s : Server) (x : Content) → server_takes3 m (reword_server r s) (reword_content r x) ≡ reword_took (server_takes3 m s x)
  unfolding server_takes3
  takes_3_reworded m s x =
      let t = reported (answers_in x) s.records in
      let after : reported (answers_in (reword_content r x)) (reword_records r s.records) ≡ reword_in_turn r t =
      ap (λ (l : List Entry). reported l (reword_records r s.records)) (answers_reworded r x) ∙ reported_reworded r (answers_in x) s.records in
      either s (checked (lawful3 m x)) (or_refuse t.check (refused s) (merges m s x t.records)) (ap checked (same_lawful m x))
      (ap in_turn after ∙ either s t.check (merges m s x t.records) refl (merges_reworded m s x t.records))
    where
      in_turn : InTurn → Took
      in_turn u = or_refuse u.check (refused (reword_server r s)) (merges m (reword_server r s) (reword_content r x) u.records)

  -- ---- Pkg 5
  pub same_fits : (n : ℕ) (os : List Entry) (x : Content) → fits5 n (reword_entries r os) (reword_content r x) ≡ fits5 n os x
  unfolding fits5
  same_fits n os x =
      ap (λ (b : Bool). leb n most_listed && (refs_fit (head5 x.head.session (3 + n)) x.head && (leb x.answered most_listed && b)))
      (ap (all_fit Side.Server (4 + n) (reword_entries r os)) (answers_reworded r x) ∙ same_fit r Side.Server (4 + n) os (answers_in x))

  closes_reworded : (s : Server) (t : Records) → closes (reword_server r s) (reword_records r t) ≡ reword_took (closes s t)
  closes_reworded s t = ap (taken (server_with s.rule (reword_records r t) s.link.session s.link.session Awaits.Nothing)) (packed_reworded r (head6 s.link.session) [] [])

  pub takes_5_reworded : (n : ℕ) (s : Server) (x : Content) → server_takes5 n (reword_server r s) (reword_content r x) ≡ reword_took (server_takes5 n s x)
  unfolding server_takes5
  takes_5_reworded n s x =
      let os = offers s.records in
      let t = answered os (answers_in x) s.records in
      let after : answered (offers (reword_records r s.records)) (answers_in (reword_content r x)) (reword_records r s.records) ≡ reword_in_turn r t =
      ap₂ (λ (k l : List Entry). answered k l (reword_records r s.records)) (offer.offers_reworded r s.records) (answers_reworded r x) ∙ offer.answered_reworded r os (answers_in x) s.records in
      either s (checked (fits5 n os x)) (or_refuse t.check (refused s) (closes s t.records))
      (ap checked (ap (λ (l : List Entry). fits5 n l (reword_content r x)) (offer.offers_reworded r s.records) ∙ same_fits n os x))
      (ap in_turn after ∙ either s t.check (closes s t.records) refl (closes_reworded s t.records))
    where
      in_turn : InTurn → Took
      in_turn u = or_refuse u.check (refused (reword_server r s)) (closes (reword_server r s) u.records)

  -- ---- whatever is awaited
  later_reworded : (a : Awaits) (s : Server) (x : Content) → later_does a (reword_server r s) (reword_content r x) ≡ reword_took (later_does a s x)
  later_reworded Awaits.Nothing s x = takes_1_reworded s x
  later_reworded (Awaits.Three m) s x = takes_3_reworded m s x
  later_reworded (Awaits.Five n) s x = takes_5_reworded n s x

  does_reworded : (a : Awaits) (s : Server) (x : Content) → server_does a (reword_server r s) (reword_content r x) ≡ reword_took (server_does a s x)
  does_reworded a s x = ap₂ (cond (eqb x.head.pkg 1)) (takes_1_reworded s x) (later_reworded a s x) ∙ cond_map reword_took (eqb x.head.pkg 1) (server_takes1 s x) (later_does a s x)

  pub server_judges_reworded : (s : Server) (x : Content) → server_judges (reword_server r s) (reword_content r x) ≡ reword_called_server r (server_judges s x)
  server_judges_reworded s x =
      let n = checked (is_new s.link.session x.head) in
      let t = server_does s.link.awaits s x in
      refuse_map (reword_called_server r) (checked (awaited s.link.awaits s.link.session x.head)) (refusing 5 s) (or_refuse n (refusing 6 s) (server_ruled s t)) refl refl
      (refuse_map (reword_called_server r) n (refusing 6 s) (server_ruled s t) refl refl
      (ap (server_ruled (reword_server r s)) (does_reworded s.link.awaits s x) ∙ refuse_map (reword_called_server r) t.check (refusing 8 s) (sending t.server t.answer) refl refl refl))
