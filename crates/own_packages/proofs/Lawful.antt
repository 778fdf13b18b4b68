-- Every package that a side builds keeps the rules that the other side judges it by (8). Assumes nothing.
use Prim.Native.Nat.{ℕ, ◌+◌, ◌≤◌}
use mathlib.Core.Path.{◌≡◌, refl, sym, ap, ap₂, ◌∙◌, subst}
use mathlib.Core.Bool.{true, ◌&&◌}
use mathlib.Core.List.{List}
use native.Mathlib.Omega.{arith}
use lib.Dec.{leb}
use lib.ListN.{length}
use borrow.Author.Tests.{eq-eqb, le-leb}
use Rattle.lists.specs.Lists.{most_listed}
use Rattle.places.specs.Set.{all_places}
use Rattle.places.proofs.Choice.{chosen, and_both}
use Rattle.places.specs.Act.{all_pass}
use Rattle.places.proofs.Turns.{replies_length}
use Rattle.lists.specs.declared.Entry.{Entry}
use Rattle.terms.specs.declared.Mode.{Mode}
use Rattle.terms.specs.declared.Mode.TheVariants.{Normal, Recovery}
use Rattle.cards.specs.declared.Cards.{Cards}
use Rattle.cards.specs.declared.Press.{Press}
use Rattle.cards.specs.Press.{WellFormed}
use Rattle.records.specs.declared.Records.{Records}
use Rattle.records.specs.declared.Rule.{Rule}
use Rattle.listing.proofs.ListingLaws.{listing_items}
use Rattle.statuses.specs.declared.Side.{Side}
use Rattle.statuses.specs.Status.{all_fit}
use Rattle.ranks.specs.declared.Row.TheVariants.{Reports, PressCommands, ServerCommands}
use Rattle.ranks.specs.Rank.{ranked, luids_once}
use Rattle.packages.specs.Package.{head4, head5, head6, answers_in, commands_in, refs_fit, counts_fit}
use Rattle.packages.proofs.PackageLaws.{own_counts}
use Rattle.record_moves.specs.Named.{Safe}
use Rattle.server_reports.specs.Step1.{report, report_fits, all_or_none}
use Rattle.server_reports.proofs.SafeReports.{reports_safe}
use Rattle.server_offers.specs.Offer as server
use Rattle.server_offers.proofs.OfferLaws as offer
use Rattle.server_judges.specs.Lawful.{mode_has, in_rows, lawful3}
use Rattle.server_rules.specs.Pkg1.{lawful1}
use Rattle.server_rules.specs.Pkg5.{fits5}
use Rattle.server_rules.proofs.SafeServer.{merged_safe}
use Rattle.press_tells.specs.Tell.{reports, commands}
use Rattle.press_tells.proofs.TellLaws.{reports_most, commands_most}
use Rattle.press_replies.specs.Reply.{answering}
use Rattle.press_takes.specs.Take.{after_command}
use Rattle.press_judges.specs.Lawful.{sync_ref, in_row, lawful4}
use Rattle.press_rules.specs.Pkg2.{lawful2, mode_in}
use Rattle.server_sends.proofs.StatusLaws.{statuses_length}
use Rattle.own_packages.proofs.Rows.{in_order, each_once, all_replaces}
use Rattle.own_packages.proofs.Told as told
use Rattle.own_packages.proofs.Fit.{statuses4_fit, statuses5_fit}
use Rattle.own_packages.proofs.Offers.{commands_ordered, offers_same}
use Rattle.own_packages.proofs.Own.{pkg1, pkg2, pkg3, heard_all, merged_of, server4, statuses4, commands4, pkg4, unmarked, answers5, pkg5, pkg6}

-- ---- Pkg 1, Pkg 2 and Pkg 6: heads alone
pub lawful_1 : (n a : ℕ) → lawful1 (pkg1 n a).head ≡ true
lawful_1 n a = eq-eqb n n refl

pub lawful_2 : (p : Press) (b : ℕ) (m : Mode) → lawful2 p (pkg2 p.session b m).head ≡ true
lawful_2 p b m = eq-eqb p.session p.session refl

-- the press reads the mode that the server told
pub mode_told : (n b : ℕ) (m : Mode) → mode_in (pkg2 n b m).head ≡ m
mode_told n b Normal = refl
mode_told n b Recovery = refl

pub lawful_6 : (n k : ℕ) → refs_fit (head6 n) (pkg6 k).head ≡ true
lawful_6 n k = refl

-- ---- Pkg 3 of a well-formed press
module _ (m : Mode) (c : Cards) (f : WellFormed c) where
  ordered : ranked PressCommands (commands m c) ≡ true
  ordered = in_order PressCommands (commands m c) (told.commands_ordered c f m)

  -- the statuses of Pkg 4 fit its commands
  pub statuses4_own : (rule : Rule) (s : Records) → all_fit Side.Press (4 + length (reports c)) (commands m c) (statuses4 rule m c s) ≡ true
  statuses4_own rule s = statuses4_fit rule m (4 + length (reports c)) (commands m c) (heard_all c s) ordered

  mode_has_lem : (m : Mode) → mode_has m (commands m c) ≡ true
  mode_has_lem Normal = refl
  mode_has_lem Recovery = all_replaces (commands Recovery c) (told.recovery_replaces c f)

  pub lawful_3 : (n : ℕ) → lawful3 m (pkg3 n m c) ≡ true
  unfolding lawful3
  lawful_3 n =
      let x = pkg3 n m c in
      let rs = reports c in
      let cs = commands m c in
      let long = f.luids.long in
      let rows : in_rows (answers_in x) (commands_in x) ≡ true =
      ap₂ in_rows (listing_items rs) (listing_items cs)
      ∙ and_both (ranked Reports rs) (ranked PressCommands cs && luids_once cs) (in_order Reports rs (told.reports_ordered c f)) (and_both (ranked PressCommands cs) (luids_once cs) ordered (each_once PressCommands cs (told.commands_ordered c f m))) in
      let has : mode_has m (commands_in x) ≡ true = ap (mode_has m) (listing_items cs) ∙ mode_has_lem m in
      let rest = in_rows (answers_in x) (commands_in x) && mode_has m (commands_in x) in
      and_both (counts_fit x.answered x.commanded x.answersend) rest (own_counts (length rs) (length cs) (reports_most c long) (commands_most c long m)) (and_both (in_rows (answers_in x) (commands_in x)) (mode_has m (commands_in x)) rows has)

  -- ---- where the server's records are safe and each report may be taken
  module _ (s : Records) (h : Safe s) (fit : all_pass report_fits report (reports c) s ≡ true) where
    pub heard_safe : Safe (heard_all c s)
    unfolding all_or_none
    heard_safe = subst Safe (chosen (all_pass report_fits report (reports c) s) (heard_all c s) s fit) (reports_safe (reports c) s h)

    -- ---- Pkg 4 and Pkg 5 under a rule
    module _ (rule : Rule) where
      pub merged_own_safe : Safe (merged_of rule m c s)
      merged_own_safe = merged_safe rule m (commands m c) (told.commands_texts c f m) (heard_all c s) heard_safe

      long4 : length (merged_of rule m c s).places ≡ all_places
      long4 = merged_own_safe.formed.guids.long

      few : length (commands4 rule m c s) ≤ most_listed
      few = offer.commands_most (merged_of rule m c s) long4

      -- a status for each command
      pub statuses_many : length (statuses4 rule m c s) ≡ length (commands m c)
      statuses_many = statuses_length rule m (4 + length (reports c)) (commands m c) (heard_all c s)

      told_few : length (statuses4 rule m c s) ≤ most_listed
      told_few = omega (arith, statuses_many, commands_most c f.luids.long m)

      pub lawful_4 : (p : Press) → p.cards ≡ c → (n : ℕ) → lawful4 m p (pkg4 rule n m c s) ≡ true
      unfolding lawful4
      lawful_4 p same n =
          let x = pkg4 rule n m c s in
          let cs = commands m c in
          let os = commands4 rule m c s in
          let num : 1 + sync_ref c ≡ 4 + length (reports c) = omega arith in
          let said : all_fit Side.Press (1 + sync_ref c) cs (answers_in x) ≡ true =
          ap₂ (λ (k : ℕ) (l : List Entry). all_fit Side.Press k cs l) num (listing_items (statuses4 rule m c s)) ∙ statuses4_own rule s in
          let pairs = commands_ordered (merged_of rule m c s) merged_own_safe in
          let row : in_row (commands_in x) ≡ true = ap in_row (listing_items os) ∙ and_both (ranked ServerCommands os) (luids_once os) (in_order ServerCommands os pairs) (each_once ServerCommands os pairs) in
          let rest = all_fit Side.Press (1 + sync_ref c) cs (answers_in x) && in_row (commands_in x) in
          subst (λ (d : Cards). (refs_fit (head4 p.session (sync_ref d)) x.head && (counts_fit x.answered x.commanded x.answersend && (all_fit Side.Press (1 + sync_ref d) (commands m d) (answers_in x) && in_row (commands_in x)))) ≡ true) (sym same)
          (and_both (refs_fit (head4 p.session (sync_ref c)) x.head) (counts_fit x.answered x.commanded x.answersend && rest) (eq-eqb (sync_ref c) (sync_ref c) refl)
          (and_both (counts_fit x.answered x.commanded x.answersend) rest (own_counts (length (statuses4 rule m c s)) (length os) told_few few) (and_both (all_fit Side.Press (1 + sync_ref c) cs (answers_in x)) (in_row (commands_in x)) said row)))

      -- the answers are those to the commands of the offers
      replied_fit : all_fit Side.Server (4 + length (statuses4 rule m c s)) (server.offers (merged_of rule m c s)) (answers5 rule m c s) ≡ true
      unfolding server.commands
      replied_fit = statuses5_fit (4 + length (statuses4 rule m c s)) (server.offers (merged_of rule m c s)) (unmarked rule m c s)

      pub fits_5 : (n : ℕ) → fits5 (length (commands m c)) (server.offers (server4 rule m c s)) (pkg5 rule n m c s) ≡ true
      unfolding fits5
      fits_5 n =
          let x = pkg5 rule n m c s in
          let k = length (statuses4 rule m c s) in
          let os = server.offers (server4 rule m c s) in
          let said : all_fit Side.Server (4 + k) os (answers_in x) ≡ true = ap₂ (λ (a b : List Entry). all_fit Side.Server (4 + k) a b) (offers_same (merged_of rule m c s) long4) (listing_items (answers5 rule m c s)) ∙ replied_fit in
          let rest = leb x.answered most_listed && all_fit Side.Server (4 + k) os (answers_in x) in
          subst (λ (j : ℕ). (leb j most_listed && (refs_fit (head5 n (3 + j)) x.head && (leb x.answered most_listed && all_fit Side.Server (4 + j) os (answers_in x)))) ≡ true) statuses_many
          (and_both (leb k most_listed) (refs_fit (head5 n (3 + k)) x.head && rest) (le-leb k most_listed told_few)
          (and_both (refs_fit (head5 n (3 + k)) x.head) rest (eq-eqb (3 + k) (3 + k) refl)
          (and_both (leb x.answered most_listed) (all_fit Side.Server (4 + k) os (answers_in x)) (le-leb x.answered most_listed (omega (arith, few, replies_length answering after_command (4 + k) (commands4 rule m c s) (unmarked rule m c s)))) said)))
