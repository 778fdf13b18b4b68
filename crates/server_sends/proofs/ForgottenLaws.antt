-- After step 3 no deleted record is without LUID, and steps 4 and 5 leave it so. Assumes nothing.
use Prim.Native.Nat.{ℕ}
use mathlib.Core.Path.{◌≡◌, refl, sym, ap, ◌∙◌}
use mathlib.Core.Bool.{Bool, true, false, cond}
use native.Mathlib.Omega.{arith}
use lib.Dec.{ltb}
use lib.ListN.{length, get_or, get_or-eq_default}
use borrow.Author.Tests.{ltb-false}
use Rattle.places.specs.Set.{all_places}
use Rattle.places.specs.Table.{Each}
use Rattle.records.specs.declared.Record.{Record}
use Rattle.records.specs.declared.Records.{Records}
use Rattle.records.specs.declared.Rule.{Rule}
use Rattle.records.specs.Server.{no_record}
use Rattle.lists.specs.declared.Entry.{Entry}
use Rattle.places.specs.Act.{Table, Slot, free, holds, each}
use Rattle.places.proofs.Views.{view, on, each_view}
use Rattle.record_moves.specs.Named.{table_of}
use Rattle.server_forgets.specs.Step3.{is_forgotten, step3}
use Rattle.server_changes.specs.Step4.{changed}
use Rattle.server_changes.proofs.RuleLaws.{changed_all}
use Rattle.server_sends.proofs.AllLaws.{All, all_each}
use Rattle.server_sends.proofs.RecordLaws.{freed}

-- ---- where each entry that passes a test is freed, none that passes is left
module _ {A : Type 0} (d : A) (q : A → Bool) (w : q d ≡ false) (t : Table A) (long : length t.places ≡ all_places) where
  abbrev rest : Table A
  rest = each d q (λ x. free) t

  left : (z : Slot A) (y : A) → on q (λ x. free) z ≡ holds y → q y ≡ false
  left free y e = let n : ◌≡◌ {A = ℕ} 0 1 = cc in absurd (omega arith)
  left (holds x) y e = go (q x) refl e
    where
      go : (b : Bool) → q x ≡ b → cond b free (holds x) ≡ holds y → q y ≡ false
      go true p r = let n : ◌≡◌ {A = ℕ} 0 1 = cc in absurd (omega arith)
      go false p r = let same : y ≡ x = cc in ap q same ∙ p

  pub none_passes : Each (λ x. q x ≡ false) d rest.used rest.places
  unfolding view
  none_passes j u = go (ltb j (length rest.places)) refl
    where
      go : (b : Bool) → ltb j (length rest.places) ≡ b → q (get_or rest.places j d) ≡ false
      go false h = ap q (get_or-eq_default rest.places d (ltb-false j (length rest.places) h)) ∙ w
      go true h =
          let here : view d rest j ≡ holds (get_or rest.places j d) = rw (u, h) in
          left (view d t j) (get_or rest.places j d) (sym (each_view d q (λ x. free) t long j) ∙ here)

-- ---- deleted, and without LUID
abbrev pub Remembered : Record → Type 0
Remembered x = is_forgotten x ≡ false

-- what else holds of each record still does
pub all_remembered : (P : Record → Type 0) (s : Records) → All P s → All (λ x. P x × Remembered x) (step3 s)
unfolding step3
all_remembered P s h =
    let k = all_each P s h is_forgotten (λ x. free) (freed P) in
    let n = none_passes no_record is_forgotten refl (table_of s) h.fine.sound.long in
    record { fine = record { sound = k.fine.sound; each = λ i u. (k.fine.each i u, n i u) }; guids = k.guids }

-- ---- a changed record is clean, or is marked and paired as it was
pub changed_remembered : (rule : Rule) (c : Entry) (x : Record) → Remembered x → Remembered (changed rule c x)
changed_remembered rule c x e = changed_all rule c x Remembered (λ q. e) (λ q. refl) (λ q b. e)
