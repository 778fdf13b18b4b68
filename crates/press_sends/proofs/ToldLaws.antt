-- The reports and commands of Pkg 3 are in the written form.
-- Assumes nothing.
use Prim.Native.Nat.{ℕ}
use mathlib.Core.Path.{◌≡◌, refl, sym, ap, subst}
use mathlib.Core.Bool.{Bool, true, false, cond}
use mathlib.Core.List.{◌++◌}
use native.Mathlib.Omega.{arith}
use lib.Dec.{eqb}
use lib.ListN.{get_or}
use borrow.Author.Tests.{eqb-true, eqb-false}
use Rattle.text.specs.Wording.{no_wording}
use Rattle.page.specs.declared.Kinds.{Kinds}
use Rattle.places.specs.Set.{in_use}
use Rattle.terms.specs.declared.Mode.{Mode}
use Rattle.terms.specs.declared.Mode.TheVariants.{Normal, Recovery}
use Rattle.terms.specs.declared.Luid.{Luid}
use Rattle.terms.specs.declared.Guid.{Guid}
use Rattle.cards.specs.declared.Card.{Card}
use Rattle.cards.specs.declared.Cards.{Cards}
use Rattle.cards.specs.Press.{no_card, WellFormed}
use Rattle.message.specs.Message.{press_commands}
use Rattle.message.specs.Message as message
use Rattle.places.proofs.Every.{Every, every, every_append}
use Rattle.press_tells.specs.Tell.{Tell}
use Rattle.press_tells.specs.Tell.{worded_as, told_of, reports, commands}
use Rattle.press_tells.proofs.TellLaws.{IsTold, words, told_only}
use Rattle.sendable.specs.Sendable.{CardNumber, Fingerprint, Sendable}
use Rattle.sendable.proofs.ElementLaws.{report_with_guid_lem, report_without_guid_lem, press_delete_lem, press_replace, press_add_lem}
use Rattle.press_sends.specs.InRange.{GuidOrNone, CardsInRange}

-- the list of Pkg 3 in which it is told
abbrev kinds_of : Tell → Kinds
kinds_of Tell.Reports = message.report_kinds
kinds_of Tell.Deletes = press_commands
kinds_of Tell.Replaces = press_commands
kinds_of Tell.Adds = press_commands
kinds_of Tell.AllCards = press_commands

report_sendable : (guid : Guid) (luid : Luid) (fp : ℕ) → GuidOrNone guid → CardNumber luid.0 → Fingerprint fp → Sendable message.report_kinds (worded_as (cond (eqb guid.0 0) 8 7) guid luid fp no_wording)
report_sendable guid luid fp g l f = go (eqb guid.0 0) refl
  where
    go : (b : Bool) → eqb guid.0 0 ≡ b → Sendable message.report_kinds (worded_as (cond b 8 7) guid luid fp no_wording)
    go true e = subst (λ (k : ℕ). Sendable message.report_kinds (worded_as 8 (record { 0 = k }) luid fp no_wording)) (sym (eqb-true guid.0 0 e)) (report_without_guid_lem luid fp l f)
    go false e = report_with_guid_lem luid fp l f guid (omega (arith, eqb-false guid.0 0 e), g.1)

module _ (c : Cards) (w : WellFormed c) (h : CardsInRange c) where
  -- place j is in use: the ranges of its card or delete mark
  module _ (j : ℕ) (used : in_use c.used j ≡ true) where
    abbrev card : Card
    card = get_or c.places j no_card

    luid_in_lem : CardNumber card.luid.0
    luid_in_lem = (w.luids.least j used, omega (arith, w.luids.given j used, h.luid))

    fp_in : Fingerprint card.fp
    fp_in = ((w.cards j used).0, omega (arith, (w.cards j used).1, h.fp))

  words_sendable : (k : Tell) (j : ℕ) → IsTold k c j → Sendable (kinds_of k) (words k c j)
  words_sendable Tell.Reports j t =
      let x = get_or c.places j no_card in
      let same = ap (λ (l : Luid). l.0) ((w.cards j t.used).3 t.passes) in
      let r = h.reports j t.used t.passes in
      report_sendable x.report.guid x.report.luid x.report.fp r.0 (subst CardNumber (sym same) (luid_in_lem j t.used)) r.1
  words_sendable Tell.Deletes j t = press_delete_lem _ (luid_in_lem j t.used)
  words_sendable Tell.Replaces j t = press_replace _ (luid_in_lem j t.used) _ _ (fp_in j t.used) (w.cards j t.used).2
  words_sendable Tell.Adds j t = press_add_lem _ (luid_in_lem j t.used) _ _ (fp_in j t.used) (w.cards j t.used).2
  words_sendable Tell.AllCards j t = press_replace _ (luid_in_lem j t.used) _ _ (fp_in j t.used) (w.cards j t.used).2

  told_sendable : (k : Tell) → Every (Sendable (kinds_of k)) (told_of k c)
  told_sendable k =
      every (λ e. (j : ℕ) × IsTold k c j × (e ≡ words k c j)) (Sendable (kinds_of k))
      (λ e t. subst (Sendable (kinds_of k)) (sym t.2) (words_sendable k t.0 t.1)) (told_of k c) (told_only k c)

  pub reports_sendable : Every (Sendable message.report_kinds) (reports c)
  reports_sendable = told_sendable Tell.Reports

  pub commands_sendable : (m : Mode) → Every (Sendable press_commands) (commands m c)
  unfolding commands
  commands_sendable Normal =
      every_append (Sendable press_commands) (told_of Tell.Replaces c ++ told_of Tell.Adds c) (told_of Tell.Deletes c) (told_sendable Tell.Deletes)
      (every_append (Sendable press_commands) (told_of Tell.Adds c) (told_of Tell.Replaces c) (told_sendable Tell.Replaces) (told_sendable Tell.Adds))
  commands_sendable Recovery = told_sendable Tell.AllCards
