-- What each rule does to a record keeps its numbers in range, if those that are given have their ranges. Assumes nothing.
use Prim.Native.Nat.{◌≤◌}
use mathlib.Core.Path.{refl}
use mathlib.Core.Bool.{Bool, true, false, cond}
use native.Mathlib.Omega.{arith}
use lib.Dec.{eqb}
use Rattle.records.specs.declared.Mark.{Mark}
use Rattle.records.specs.declared.Mark.TheVariants.{Clean, Dirty, Offered, Deleted}
use Rattle.records.specs.declared.Record.{Record}
use Rattle.records.specs.declared.Rule.{Rule}
use Rattle.lists.specs.declared.Entry.{Entry}
use Rattle.statuses.specs.declared.Name.{Name}
use Rattle.statuses.specs.declared.Name.TheVariants.{Delete, Replace, Add}
use Rattle.places.specs.Act.{free, holds}
use Rattle.server_reports.specs.Step1.{is_late, counted, told}
use Rattle.server_deletes.specs.Step2.{lost_by}
use Rattle.server_changes.specs.Step4.{changed}
use Rattle.server_changes.proofs.RuleLaws.{changed_all}
use Rattle.server_offers.specs.Offer.{offered_now}
use Rattle.server_answers.specs.Answer.{recorded, dirty_again, answered_by}
use Rattle.server_sends.specs.InRange.{RecordInRange}
use Rattle.server_sends.proofs.AllLaws.{Kept}

-- the LUID and the fingerprint that an element gives have their ranges, or are not there (0)
abbrev pub EntryInRange : Entry → Type 0
EntryInRange e = (e.fields.luid.0 ≤ 65535) × (e.fields.fp ≤ 4294967295)

-- ---- a record that is freed, or takes other numbers
pub freed : (P : Record → Type 0) (x : Record) → Kept P x free
freed P x = record { same = tt; holds = λ p. tt }

-- ---- Pkg 3: reports, deletes, changes; Pkg 4: offers
pub told_kept : (r : Entry) → EntryInRange r → (x : Record) → Kept RecordInRange x (holds (told r x))
unfolding told
told_kept r h x = go (is_late r x)
  where
    go : (b : Bool) → Kept RecordInRange x (holds (cond b x (counted r x)))
    go true = record { same = refl; holds = λ p. p }
    go false = record { same = refl; holds = λ p. h }

pub lost_kept : (m : Mark) (x : Record) → Kept RecordInRange x (lost_by m x)
lost_kept Clean x = freed RecordInRange x
lost_kept Deleted x = freed RecordInRange x
lost_kept Dirty x = record { same = refl; holds = λ p. (omega arith, p.1) }
lost_kept Offered x = record { same = refl; holds = λ p. (omega arith, p.1) }

pub changed_kept : (rule : Rule) (c : Entry) → EntryInRange c → (x : Record) → Kept RecordInRange x (holds (changed rule c x))
changed_kept rule c h x =
    changed_all rule c x (λ y. Kept RecordInRange x (holds y))
    (λ e. record { same = refl; holds = λ p. p }) (λ e. record { same = refl; holds = λ p. (p.0, h.1) }) (λ e b. record { same = refl; holds = λ p. (p.0, h.1) })

pub offered_kept : (x : Record) → Kept RecordInRange x (holds (offered_now x))
offered_kept x = record { same = refl; holds = λ p. p }

-- ---- Pkg 5: answers
settled_kept : (a : Entry) → EntryInRange a → (x : Record) (b : Bool) → Kept RecordInRange x (holds (cond b (recorded a x) (dirty_again x)))
settled_kept a h x true = record { same = refl; holds = λ p. h }
settled_kept a h x false = record { same = refl; holds = λ p. p }

pub answered_kept : (m : Name) (a : Entry) → EntryInRange a → (x : Record) → Kept RecordInRange x (answered_by m a x)
answered_kept Delete a h x = freed RecordInRange x
answered_kept Replace a h x = settled_kept a h x (eqb a.fields.code 200)
answered_kept Add a h x = settled_kept a h x (eqb a.fields.code 200)
