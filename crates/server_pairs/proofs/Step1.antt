-- Step 1 with the reports of the press's own Pkg 3: none is refused, the invariant stays, and then there is nothing new to hear. Assumes nothing.
use Prim.Native.Nat.{ℕ}
use mathlib.Core.Path.{◌≡◌, refl, subst}
use mathlib.Core.Bool.{Bool, true, false}
use lib.ListN.{get_or}
use Rattle.places.specs.Act.{holds, in_order, all_pass}
use Rattle.places.proofs.Every.{Every, every, every_in}
use Rattle.places.proofs.Held.{hit_holds, holds_hit, holds_is}
use Rattle.lists.specs.declared.Entry.{Entry}
use Rattle.cards.specs.declared.Card.{Card}
use Rattle.cards.specs.declared.Cards.{Cards}
use Rattle.cards.specs.Press.{no_card}
use Rattle.records.specs.declared.Records.{Records}
use Rattle.card_moves.specs.Moves as moves
use Rattle.server_reports.specs.Step1.{report, report_fits}
use Rattle.press_tells.specs.Tell.{Tell}
use Rattle.press_tells.specs.Tell.{tells, reports}
use Rattle.press_tells.proofs.TellLaws.{IsTold, words, told_only, told_each}
use Rattle.pairs.proofs.Invariant.{card_at, report_in, Invariant}
use Rattle.pairs.proofs.Heard.{no_report_lem}
use Rattle.server_pairs.proofs.Reports.{IsReport, reports_pass, reports_keep}
use Rattle.server_pairs.proofs.Quiet.{Quiet, QuietFor, reports_quiet}

module _ (c : Cards) where
  pub own_reports : Every (IsReport c) (reports c)
  own_reports =
      every (λ e. (j : ℕ) × IsTold Tell.Reports c j × (e ≡ words Tell.Reports c j)) (IsReport c)
      (λ r t. (t.0, get_or c.places t.0 no_card, hit_holds no_card (tells Tell.Reports) (moves.table_of c) t.0 t.1, t.1.passes, t.2)) (reports c) (told_only Tell.Reports c)

  module _ (s : Records) (h : Invariant c s) where
    pub step1_passes : all_pass report_fits report (reports c) s ≡ true
    step1_passes = reports_pass c (reports c) own_reports s h

    pub step1_inv : Invariant c (in_order report (reports c) s)
    step1_inv = reports_keep c (reports c) own_reports s h

    pub step1_quiet : Quiet c (in_order report (reports c) s)
    step1_quiet i x e = go x.report.on refl
      where
        go : (b : Bool) → x.report.on ≡ b → QuietFor (in_order report (reports c) s) x
        go false q = λ j y w. no_report_lem x q y
        go true q =
            let is : get_or c.places i no_card ≡ x = holds_is no_card (moves.table_of c) i x e in
            let there : IsTold Tell.Reports c i = holds_hit no_card (tells Tell.Reports) (moves.table_of c) i x e q in
            every_in (λ (r : Entry). (k : ℕ) (z : Card) → card_at c k ≡ holds z → z.report.on ≡ true → r ≡ report_in z → QuietFor (in_order report (reports c) s) z) (words Tell.Reports c i) (reports c) (told_each Tell.Reports c i there)
            (reports_quiet c (reports c) own_reports s h) i x e q (subst (λ (z : Card). words Tell.Reports c i ≡ report_in z) is refl)
