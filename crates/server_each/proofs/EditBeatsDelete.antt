-- Edit beats delete, whatever the server's rule for two edits is (02, 7): what is left of the record, and what the command is answered. Assumes nothing.
use Rattle.std.proofs.Common.{Some}
use Prim.Native.Nat.{ℕ}
use mathlib.Core.Path.{◌≡◌, refl, sym, ap, ◌∙◌, subst}
use mathlib.Core.Bool.{Bool, true, false, not, ◌&&◌, false≢true}
use mathlib.Core.List.{List, ◌∷◌, Memᴰ, []}
use lib.Dec.{eqb}
use lib.ListN.{get_or}
use borrow.Author.Tests.{eq-eqb}
use Rattle.text.specs.Wording.{IsWording}
use Rattle.places.specs.Act.{Slot, free, holds, put_at, in_order}
use Rattle.places.proofs.Choice.{chosen, passed, and_passed}
use Rattle.places.proofs.Every.{Every, every, every_in, every_of, Pairs}
use Rattle.places.proofs.SameLaws.{order_same}
use Rattle.terms.specs.declared.Luid.{Luid}
use Rattle.terms.specs.declared.Mode.{Mode}
use Rattle.terms.specs.declared.Mode.TheVariants.{Normal, Recovery}
use Rattle.records.specs.declared.Mark.{Mark}
use Rattle.records.specs.declared.Record.{Record}
use Rattle.records.specs.declared.Records.{Records}
use Rattle.records.specs.declared.Rule.{Rule}
use Rattle.records.specs.Server.{no_record, is_live}
use Rattle.lists.specs.declared.Entry.{Entry}
use Rattle.record_moves.specs.Named.{table_of, with_table, with_record, is_paired, has_luid, place_of, Safe}
use Rattle.record_moves.proofs.NamedLaws.{acted}
use Rattle.record_moves.proofs.HasLaws.{has_paired, has_number_lem, has_same}
use Rattle.ranks.specs.Rank.{luids_once}
use Rattle.ranks.proofs.RankLaws.{OtherLuid, luids_differ}
use Rattle.server_reports.specs.Step1.{is_late}
use Rattle.server_deletes.specs.Step2.{unpaired_now, lost_by, lost_code, lost, deleted, delete, delete_code_at, deletes_in, deletes_of, names_luid, left_out, step2}
use Rattle.server_deletes.proofs.SafeDeletes.{step2_safe}
use Rattle.server_forgets.specs.Step3.{is_forgotten, step3}
use Rattle.server_forgets.proofs.SafeForgets.{step3_safe}
use Rattle.server_changes.specs.Step4.{taking, changed, paired, change_at, change, change_code_at}
use Rattle.server_changes.proofs.RuleLaws.{Busy, edit_beats_delete}
use Rattle.server_merge.specs.Merge.{changes_of, up_to3, merged}
use Rattle.server_each.proofs.EachRecord.{record_at, delete_here, step2_here, step3_here, change_here, step2_each, step3_each, step45_each}
use Rattle.server_each.proofs.InSteps.{pairs_drop}

-- ---- the press has changed a card that the server deleted: the record has the press's text and station, clean and paired, 208
pub press_edit_lem : (rule : Rule) (c : Entry) (s : Records) (i : ℕ) → place_of s (paired c) ≡ Some i → (get_or s.places i no_record).pairing.mark ≡ Mark.Deleted → is_late c (get_or s.places i no_record) ≡ false
    → (change rule c s ≡ with_record s i (taking c (get_or s.places i no_record))) × (change_code_at rule c s (place_of s (paired c)) ≡ 208)
unfolding change
press_edit_lem rule c s i e gone new =
    let x = get_or s.places i no_record in
    let k = edit_beats_delete rule c x gone new in
    (ap (change_at rule c s) e ∙ ap (with_record s i) k.0, ap (change_code_at rule c s) e ∙ k.1)

-- ---- the server has changed a card that the press deleted: the record has its own text and station, dirty and without LUID, 419
lost_busy : (m : Mark) (x : Record) → Busy m → (lost_by m x ≡ holds (unpaired_now x)) × (lost_code m ≡ 419)
lost_busy Mark.Clean x b = absurd (b.0 refl)
lost_busy Mark.Deleted x b = absurd (b.1 refl)
lost_busy Mark.Dirty x b = (refl, refl)
lost_busy Mark.Offered x b = (refl, refl)

pub server_edit_lem : (d : Entry) (s : Records) (i : ℕ) → place_of s (deleted d) ≡ Some i → Busy (get_or s.places i no_record).pairing.mark
    → (delete d s ≡ with_record s i (unpaired_now (get_or s.places i no_record))) × (delete_code_at s (place_of s (deleted d)) ≡ 419)
unfolding delete
server_edit_lem d s i e busy =
    let x = get_or s.places i no_record in
    let k = lost_busy x.pairing.mark x busy in
    (acted s (deleted d) lost (Some i) e ∙ ap (λ (z : Slot Record). with_table s (put_at (table_of s) i z)) k.0, ap (delete_code_at s) e ∙ k.1)

-- and a record that lives and has no LUID stays as it is in steps 2 to 5, under either rule: Pkg 4 sends it as an Add
module _ (x : Record) (live : is_live x.pairing.mark ≡ true) (alone : is_paired x ≡ false) where
  unnamed : (l : Luid) → has_luid l x ≡ false
  unnamed l = and_passed (is_paired x) (eqb x.pairing.luid.0 l.0) alone

  pub deletes_stay : (ds : List Entry) → in_order delete_here ds (holds x) ≡ holds x
  deletes_stay ds = order_same delete_here ds (holds x) (every_of (λ d. delete_here d (holds x) ≡ holds x) (λ d. passed (has_luid d.fields.luid x) (lost x) (holds x) (unnamed d.fields.luid)) ds)

  step2_stays : (m : Mode) (cs : List Entry) → step2_here m cs (holds x) ≡ holds x
  unfolding left_out
  step2_stays Normal cs = deletes_stay (deletes_of cs)
  step2_stays Recovery cs = passed (left_out cs x) (lost x) (holds x) (and_passed (is_paired x) (not (names_luid cs x.pairing.luid)) alone)

  step3_stays : step3_here (holds x) ≡ holds x
  step3_stays = passed (is_forgotten x) free (holds x) (ap (λ (b : Bool). not b && not (is_paired x)) live)

  changes_stay : (rule : Rule) (cs : List Entry) → in_order (change_here rule) cs (holds x) ≡ holds x
  changes_stay rule cs =
      order_same (change_here rule) cs (holds x) (every_of (λ c. change_here rule c (holds x) ≡ holds x) (λ c. passed (has_luid c.fields.luid x) (holds (changed rule c x)) (holds x) (unnamed c.fields.luid)) cs)

  module _ (rule : Rule) (m : Mode) (cs : List Entry) (texts : Every (λ c. IsWording c.wording) (changes_of cs)) (s : Records) (h : Safe s) (j : ℕ) where
    -- after step 2, and before it
    pub stays_after_2 : record_at (step2 m cs s) j ≡ holds x → record_at (merged rule m cs s) j ≡ holds x
    unfolding merged
    stays_after_2 at2 =
        let s2 = step2 m cs s in
        let safe2 = step2_safe m cs s h in
        let at3 : record_at (step3 s2) j ≡ holds x = step3_each s2 safe2 j ∙ (ap step3_here at2 ∙ step3_stays) in
        step45_each rule (changes_of cs) texts (step3 s2) (step3_safe s2 safe2) j x at3 ∙ changes_stay rule (changes_of cs)

    pub unpaired_stays : record_at s j ≡ holds x → record_at (merged rule m cs s) j ≡ holds x
    unpaired_stays e = stays_after_2 (step2_each m cs s h j ∙ (ap (step2_here m cs) e ∙ step2_stays m cs))

-- ---- both over a whole Pkg 3, whatever else it has
-- the press asks for the record to go: a Delete names its LUID; in recovery no Replace does
abbrev pub AskedFor : Mode → List Entry → Record → Type 0
AskedFor Normal cs x = (d : Entry) × Memᴰ d (deletes_of cs) × (has_luid d.fields.luid x ≡ true)
AskedFor Recovery cs x = left_out cs x ≡ true

module _ (x : Record) (busy : Busy x.pairing.mark) where
  named_loses : (ds : List Entry) (d : Entry) → Memᴰ d ds → has_luid d.fields.luid x ≡ true → in_order delete_here ds (holds x) ≡ holds (unpaired_now x)
  unfolding in_order
  named_loses [] d m has = elim m [ ]
  named_loses (e ∷ ds) d m has = go (has_luid e.fields.luid x) refl (λ k. named_loses ds d k has) m
    where
      go : (b : Bool) → has_luid e.fields.luid x ≡ b → (Memᴰ d ds → in_order delete_here ds (holds x) ≡ holds (unpaired_now x)) → Memᴰ d (e ∷ ds) → in_order delete_here ds (delete_here e (holds x)) ≡ holds (unpaired_now x)
      go true q rest m = ap (in_order delete_here ds) (chosen (has_luid e.fields.luid x) (lost x) (holds x) q ∙ (lost_busy x.pairing.mark x busy).0) ∙ deletes_stay (unpaired_now x) refl refl ds
      go false q rest (Memᴰ.head same) = absurd (false≢true (sym q ∙ (ap (λ (z : Entry). has_luid z.fields.luid x) (sym same) ∙ has)))
      go false q rest (Memᴰ.tail m) = ap (in_order delete_here ds) (passed (has_luid e.fields.luid x) (lost x) (holds x) q) ∙ rest m

  loses : (m : Mode) (cs : List Entry) → AskedFor m cs x → step2_here m cs (holds x) ≡ holds (unpaired_now x)
  loses Normal cs a = named_loses (deletes_of cs) a.0 a.1 a.2
  loses Recovery cs a = chosen (left_out cs x) (lost x) (holds x) a ∙ (lost_busy x.pairing.mark x busy).0

  -- s: the records after the reports
  pub server_edit_beats : (rule : Rule) (m : Mode) (cs : List Entry) → Every (λ c. IsWording c.wording) (changes_of cs) → AskedFor m cs x → (s : Records) → Safe s → (j : ℕ) → record_at s j ≡ holds x
      → record_at (merged rule m cs s) j ≡ holds (unpaired_now x)
  server_edit_beats rule m cs texts a s h j e = stays_after_2 (unpaired_now x) refl refl rule m cs texts s h j (step2_each m cs s h j ∙ (ap (step2_here m cs) e ∙ loses m cs a))

module _ (rule : Rule) (x : Record) (gone : x.pairing.mark ≡ Mark.Deleted) (c : Entry) (has : has_luid c.fields.luid x ≡ true) (new : is_late c x ≡ false) where
  -- two commands with other LUIDs are not both for it
  not_both : (a b : Entry) → OtherLuid a b → has_luid a.fields.luid x ≡ true → has_luid b.fields.luid x ≡ true → ⊥
  not_both a b o p q =
      let given : a.fields.luid.0 ≡ 0 → ⊥ = λ z. false≢true (ap not (sym (eq-eqb x.pairing.luid.0 0 (has_number_lem a.fields.luid x p ∙ z))) ∙ has_paired a.fields.luid x p) in
      o given (has_same a.fields.luid b.fields.luid x p q)

  other : (e : Entry) → (has_luid e.fields.luid x ≡ true → ⊥) → has_luid e.fields.luid x ≡ false
  other e ne = go (has_luid e.fields.luid x) refl
    where
      go : (b : Bool) → has_luid e.fields.luid x ≡ b → has_luid e.fields.luid x ≡ false
      go false q = q
      go true q = absurd (ne q)

  takes : (cs : List Entry) → Pairs OtherLuid cs → Memᴰ c cs → in_order (change_here rule) cs (holds x) ≡ holds (taking c x)
  unfolding in_order
  takes [] p x3 = elim x3 [ ]
  takes (e ∷ cs) p (Memᴰ.head same) =
      ap (λ (z : Entry). in_order (change_here rule) cs (change_here rule z (holds x))) (sym same)
      ∙ (ap (in_order (change_here rule) cs) (chosen (has_luid c.fields.luid x) (holds (changed rule c x)) (holds x) has ∙ ap holds (edit_beats_delete rule c x gone new).0)
      ∙ order_same (change_here rule) cs (holds (taking c x))
      (every (OtherLuid c) (λ z. change_here rule z (holds (taking c x)) ≡ holds (taking c x))
      (λ z o. passed (has_luid z.fields.luid x) (holds (changed rule z (taking c x))) (holds (taking c x)) (other z (λ q. not_both c z o has q))) cs (subst (λ (z : Entry). Every (OtherLuid z) cs) (sym same) p.0)))
  takes (e ∷ cs) p (Memᴰ.tail m) =
      ap (in_order (change_here rule) cs) (passed (has_luid e.fields.luid x) (holds (changed rule e x)) (holds x) (other e (λ q. not_both e c (every_in (OtherLuid e) c cs m p.0) q has))) ∙ takes cs p.1 m

  -- the record is deleted and has its LUID when step 4 begins
  pub press_edit_beats : (m : Mode) (cs : List Entry) → luids_once cs ≡ true → Every (λ e. IsWording e.wording) (changes_of cs) → Memᴰ c (changes_of cs) → (s : Records) → Safe s → (j : ℕ) → record_at (up_to3 m cs s) j ≡ holds x
      → record_at (merged rule m cs s) j ≡ holds (taking c x)
  unfolding merged
  press_edit_beats m cs once texts here s h j e =
      step45_each rule (changes_of cs) texts (up_to3 m cs s) (step3_safe (step2 m cs s) (step2_safe m cs s h)) j x e ∙ takes (changes_of cs) (pairs_drop OtherLuid (deletes_in cs) cs (luids_differ cs once)) here
