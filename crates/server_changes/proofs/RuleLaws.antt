-- Under either rule a change takes the command's text or keeps the record's; and edit beats delete. Assumes nothing.
use Prim.Native.Nat.{ℕ}
use mathlib.Core.Path.{◌≡◌, refl, ap, ◌∙◌}
use mathlib.Core.Bool.{Bool, true, false, cond}
use Rattle.places.proofs.Choice.{never, passed}
use Rattle.records.specs.declared.Mark.{Mark}
use Rattle.records.specs.declared.Mark.TheVariants.{Clean, Dirty, Offered, Deleted}
use Rattle.records.specs.declared.Record.{Record}
use Rattle.records.specs.declared.Rule.{Rule}
use Rattle.records.specs.declared.Rule.TheVariants.{PressWins, ServerWins}
use Rattle.lists.specs.declared.Entry.{Entry}
use Rattle.server_reports.specs.Step1.{is_late}
use Rattle.server_changes.specs.Step4.{taking, keeping, both_changed, newer, newer_code, changed, changed_code}

-- the server has changed the record too: it is dirty or offered
abbrev pub Busy : Mark → Type 0
Busy m = (m ≡ Clean → ⊥) × (m ≡ Deleted → ⊥)

-- ---- what holds of a record taken and of one kept holds of a changed one
module _ (rule : Rule) (c : Entry) (x : Record) (P : Record → Type 0) where
  both_all : (r : Rule) → P (taking c x) → P (keeping c x) → P ((both_changed r).0 c x)
  both_all PressWins taken kept = taken
  both_all ServerWins taken kept = kept

  newer_all : (m : Mark) → P (taking c x) → (Busy m → P (keeping c x)) → P (newer rule m c x)
  newer_all Clean taken kept = taken
  newer_all Deleted taken kept = taken
  newer_all Dirty taken kept = both_all rule taken (kept ((λ e. never (cc)), (λ e. never (cc))))
  newer_all Offered taken kept = both_all rule taken (kept ((λ e. never (cc)), (λ e. never (cc))))

  pub changed_all : (is_late c x ≡ true → P x) → (is_late c x ≡ false → P (taking c x)) → (is_late c x ≡ false → Busy x.pairing.mark → P (keeping c x)) → P (changed rule c x)
  unfolding changed
  changed_all late taken kept = go (is_late c x) refl
    where
      go : (b : Bool) → is_late c x ≡ b → P (cond b x (newer rule x.pairing.mark c x))
      go true e = late e
      go false e = newer_all x.pairing.mark (taken e) (kept e)

-- ---- and its code is 200, 208 or 419
module _ (rule : Rule) (Q : ℕ → Type 0) (q200 : Q 200) (q208 : Q 208) (q419 : Q 419) where
  both_code_all : (r : Rule) → Q (both_changed r).1
  both_code_all PressWins = q208
  both_code_all ServerWins = q419

  pub newer_code_all : (m : Mark) → Q (newer_code rule m)
  newer_code_all Clean = q200
  newer_code_all Deleted = q208
  newer_code_all Dirty = both_code_all rule
  newer_code_all Offered = both_code_all rule

-- ---- edit beats delete: a card that the press changed and the server deleted lives on with the press's text, 208, under either rule
-- (that the press deleted and the server changed: step 2 knows no rule)
pub edit_beats_delete : (rule : Rule) (c : Entry) (x : Record) → x.pairing.mark ≡ Deleted → is_late c x ≡ false → (changed rule c x ≡ taking c x) × (changed_code rule c x ≡ 208)
unfolding changed
edit_beats_delete rule c x e new =
    (passed (is_late c x) x (newer rule x.pairing.mark c x) new ∙ ap (λ (m : Mark). newer rule m c x) e, passed (is_late c x) 200 (newer_code rule x.pairing.mark) new ∙ ap (newer_code rule) e)
