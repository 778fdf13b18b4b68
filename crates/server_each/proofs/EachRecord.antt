-- The server at Pkg 3 acts on each record by itself: what a place holds after steps 1 to 4 follows from what it held before. Assumes nothing.
use Rattle.std.proofs.Common.{Option, Some, None}
use Prim.Native.Nat.{ℕ}
use mathlib.Core.Path.{◌≡◌, refl, sym, ap, ◌∙◌}
use mathlib.Core.Bool.{Bool, true, not, ◌&&◌, ◌||◌, or-true, false≢true}
use mathlib.Core.List.{List, ◌∷◌}
use lib.Dec.{eqb}
use lib.ListN.{get_or}
use borrow.Author.Tests.{eqb-true}
use Rattle.text.specs.Wording.{IsWording}
use Rattle.places.specs.Set.{in_use, with_place}
use Rattle.places.proofs.Choice.{and_first, and_second}
use Rattle.places.proofs.Bits.{taken_in}
use Rattle.terms.specs.declared.Luid.{Luid}
use Rattle.terms.specs.declared.Mode.{Mode}
use Rattle.terms.specs.declared.Mode.TheVariants.{Normal, Recovery}
use Rattle.records.specs.declared.Record.{Record}
use Rattle.records.specs.declared.Records.{Records}
use Rattle.records.specs.declared.Rule.{Rule}
use Rattle.records.specs.Server.{no_record, is_live}
use Rattle.lists.specs.declared.Entry.{Entry}
use Rattle.places.specs.Act.{Slot, free, holds, act_at, act, each, in_order, all_pass}
use Rattle.places.proofs.KeptLaws.{passed_keeps}
use Rattle.places.proofs.Views.{view, on, holds_used, view_other, Once, act_view, act_finds, each_view, order_view}
use Rattle.places.proofs.Every.{Every, every}
use Rattle.record_moves.specs.Named.{Named}
use Rattle.record_moves.specs.Named.{table_of, with_table, is_paired, has_luid, has_guid, is_named, place_of, Safe}
use Rattle.record_moves.proofs.NamedLaws.{acted}
use Rattle.server_edits.specs.Edit.{room_for}
use Rattle.server_edits.proofs.RoomLaws.{room_at}
use Rattle.server_reports.specs.Step1.{named_by, told, report, report_fits}
use Rattle.server_reports.proofs.SafeReports.{report_safe}
use Rattle.server_deletes.specs.Step2.{lost, deleted, delete, deletes_of, left_out, step2}
use Rattle.server_forgets.specs.Step3.{is_forgotten, step3}
use Rattle.server_deletes.proofs.SafeDeletes.{delete_safe, step2_safe}
use Rattle.server_changes.specs.Step4.{changed, made, make_at, paired, change_at, change}
use Rattle.server_changes.proofs.SafeChanges.{changed_same, change_safe}

-- what place j holds
abbrev pub record_at : Records → ℕ → Slot Record
record_at s j = view no_record (table_of s) j

-- ---- what each step does to one place
abbrev pub report_here : Entry → Slot Record → Slot Record
report_here r = on (is_named (named_by r)) (λ x. holds (told r x))

abbrev pub delete_here : Entry → Slot Record → Slot Record
delete_here c = on (is_named (deleted c)) lost

abbrev pub step2_here : Mode → List Entry → Slot Record → Slot Record
step2_here Normal cs y = in_order delete_here (deletes_of cs) y
step2_here Recovery cs y = on (left_out cs) lost y

abbrev pub step3_here : Slot Record → Slot Record
step3_here = on is_forgotten (λ x. free)

abbrev pub change_here : Rule → Entry → Slot Record → Slot Record
change_here rule c = on (is_named (paired c)) (λ x. holds (changed rule c x))

-- ---- a name means at most one record: GUIDs and LUIDs stand once
module _ (s : Records) (h : Safe s) where
  pub luid_once : (l : Luid) (i j : ℕ) → in_use s.used i ≡ true → in_use s.used j ≡ true
      → has_luid l (get_or s.places i no_record) ≡ true → has_luid l (get_or s.places j no_record) ≡ true → i ≡ j
  luid_once l i j u v a b =
      let x = get_or s.places i no_record in
      let y = get_or s.places j no_record in
      let same : x.pairing.luid.0 ≡ l.0 = eqb-true _ _ (and_second (is_paired x) (eqb x.pairing.luid.0 l.0) a) in
      h.once i j u v (ap (λ (n : ℕ). is_paired y && eqb y.pairing.luid.0 n) same ∙ b)

  pub named_once : (n : Named) → Once no_record (is_named n) (table_of s)
  named_once (Named.ByLuid l) i j a b = luid_once l i j a.used b.used a.passes b.passes
  named_once (Named.ByGuid g) i j a b = h.formed.guids.apart i j a.used b.used (eqb-true _ _ a.passes ∙ sym (eqb-true _ _ b.passes))
  named_once (Named.Elsewhere g l) i j a b =
      let x = get_or s.places i no_record in
      let y = get_or s.places j no_record in
      luid_once l i j a.used b.used (and_first (has_luid l x) (not (has_guid g x)) a.passes) (and_first (has_luid l y) (not (has_guid g y)) b.passes)
  named_once (Named.Known g) i j a b =
      let x = get_or s.places i no_record in
      let y = get_or s.places j no_record in
      let has : x.guid.0 ≡ g.0 = eqb-true _ _ (and_second (is_live x.pairing.mark) (eqb x.guid.0 g.0) a.passes) in
      let too : y.guid.0 ≡ g.0 = eqb-true _ _ (and_second (is_live y.pairing.mark) (eqb y.guid.0 g.0) b.passes) in
      h.formed.guids.apart i j a.used b.used (has ∙ sym too)

  pub named_each : (n : Named) (f : Record → Slot Record) (j : ℕ) → record_at (with_table s (act no_record (is_named n) f (table_of s))) j ≡ on (is_named n) f (record_at s j)
  named_each n f j = act_view no_record (is_named n) f (table_of s) (named_once n) j

  pub all_each : (q : Record → Bool) (f : Record → Slot Record) (j : ℕ) → record_at (with_table s (each no_record q f (table_of s))) j ≡ on q f (record_at s j)
  all_each q f j = each_view no_record q f (table_of s) h.formed.guids.long j

-- ---- step 1: reports that fit
module _ (rs : List Entry) (s : Records) (h : Safe s) (fits : all_pass report_fits report rs s ≡ true) where
  pub step1_each : (j : ℕ) → record_at (in_order report rs s) j ≡ in_order report_here rs (record_at s j)
  unfolding report all_pass
  step1_each j =
      order_view report report_here (λ (t : Records). record_at t j) (λ l t. Safe t × (all_pass report_fits report l t ≡ true))
      (λ r l t g. named_each t g.0 (named_by r) (λ x. holds (told r x)) j)
      (λ r l t g. (report_safe r t g.0 (and_first (report_fits r t) (all_pass report_fits report l (report r t)) g.1), and_second (report_fits r t) (all_pass report_fits report l (report r t)) g.1))
      rs s (h, fits)

  pub step1_safe : Safe (in_order report rs s)
  step1_safe = passed_keeps report Safe report_fits (λ r t e k. report_safe r t k e) rs s fits h

-- ---- steps 2 and 3
pub step2_each : (m : Mode) (cs : List Entry) (s : Records) → Safe s → (j : ℕ) → record_at (step2 m cs s) j ≡ step2_here m cs (record_at s j)
unfolding step2 delete
step2_each Normal cs s h j =
    order_view delete delete_here (λ (t : Records). record_at t j) (λ l t. Safe t)
    (λ c l t k. named_each t k (deleted c) lost j) (λ c l t k. delete_safe c t k) (deletes_of cs) s h
step2_each Recovery cs s h j = all_each s h (left_out cs) lost j

pub step3_each : (s : Records) → Safe s → (j : ℕ) → record_at (step3 s) j ≡ step3_here (record_at s j)
unfolding step3
step3_each s h j = all_each s h is_forgotten (λ x. free) j

-- ---- steps 1 to 3
pub up_to3_each : (m : Mode) (rs cs : List Entry) (s : Records) → Safe s → all_pass report_fits report rs s ≡ true → (j : ℕ)
    → record_at (step3 (step2 m cs (in_order report rs s))) j ≡ step3_here (step2_here m cs (in_order report_here rs (record_at s j)))
up_to3_each m rs cs s h fits j =
    let t = in_order report rs s in
    let k : Safe t = step1_safe rs s h fits in
    step3_each (step2 m cs t) (step2_safe m cs t k) j ∙ ap step3_here (step2_each m cs t k j ∙ ap (step2_here m cs) (step1_each rs s h fits j))

-- ---- step 4: a Replace or Add of a paired LUID
abbrev pub HasRecord : Records → Entry → Type 0
HasRecord s c = (i : ℕ) × (place_of s (paired c) ≡ Some i)

module _ (rule : Rule) (c : Entry) (s : Records) where
  abbrev new : Record → Slot Record
  new x = holds (changed rule c x)

  pub change_is : HasRecord s c → change rule c s ≡ with_table s (act no_record (is_named (paired c)) new (table_of s))
  unfolding change
  change_is (i, e) = ap (change_at rule c s) e ∙ sym (acted s (paired c) new (Some i) e)

  -- it keeps every LUID in its place
  stays_paired : HasRecord s c → (e : Entry) → HasRecord s e → HasRecord (change rule c s) e
  stays_paired k e (i, w) =
      (i, ap (λ (t : Records). place_of t (paired e)) (change_is k) ∙ act_finds no_record (is_named (paired e)) (is_named (paired c)) (changed rule c) same (table_of s) ∙ w)
    where
      same : (x : Record) → is_named (paired e) (changed rule c x) ≡ is_named (paired e) x
      same x = ap (λ (l : Luid). not (eqb l.0 0) && eqb l.0 e.fields.luid.0) (changed_same rule c x).luid

  pub change_each : Safe s → HasRecord s c → (j : ℕ) → record_at (change rule c s) j ≡ change_here rule c (record_at s j)
  change_each h k j = ap (λ (t : Records). record_at t j) (change_is k) ∙ named_each s h (paired c) new j

  -- ---- steps 4 and 5: of any LUID, at a place in use (a new record takes a free one)
  module _ (j : ℕ) (u : in_use s.used j ≡ true) where
    stays_used : in_use (change rule c s).used j ≡ true
    unfolding change
    stays_used = go (place_of s (paired c))
      where
        more : (i : ℕ) → in_use (with_place s.used i) j ≡ true
        more i = taken_in s.used i j ∙ ap (λ (b : Bool). eqb i j || b) u ∙ or-true (eqb i j)

        make : (r : Option ℕ) → in_use (make_at c s r).used j ≡ true
        make None = u
        make (Some i) = more i

        go : (r : Option ℕ) → in_use (change_at rule c s r).used j ≡ true
        go None = make (room_for s)
        go (Some i) = more i

    pub used_each : Safe s → record_at (change rule c s) j ≡ change_here rule c (record_at s j)
    unfolding change
    used_each h = go (place_of s (paired c)) refl
      where
        by : (r : Option ℕ) → place_of s (paired c) ≡ r → record_at (with_table s (act_at no_record new (table_of s) r)) j ≡ change_here rule c (record_at s j)
        by r e = sym (ap (λ (t : Records). record_at t j) (acted s (paired c) new r e)) ∙ named_each s h (paired c) new j

        make : (r : Option ℕ) → room_for s ≡ r → record_at (make_at c s r) j ≡ record_at s j
        make None e = refl
        make (Some i) e = view_other no_record (table_of s) i (holds (made c s)) j (λ (same : j ≡ i). false≢true (sym (room_at s i e).free ∙ ap (in_use s.used) (sym same) ∙ u))

        go : (r : Option ℕ) → place_of s (paired c) ≡ r → record_at (change_at rule c s r) j ≡ change_here rule c (record_at s j)
        go None e = make (room_for s) refl ∙ by None e
        go (Some i) e = by (Some i) e

-- ---- one after the other: all of paired LUIDs; or of any, for a record that is there
module _ (rule : Rule) (cs : List Entry) (texts : Every (λ c. IsWording c.wording) cs) (s : Records) (h : Safe s) (j : ℕ) where
  abbrev Fine : List Entry → Records → Type 0
  Fine l t = Safe t × Every (λ c. IsWording c.wording) l

  fine : (c : Entry) (l : List Entry) (t : Records) → Fine (c ∷ l) t → Fine l (change rule c t)
  fine c l t g = (change_safe rule c g.1.0 t g.0, g.1.1)

  pub step4_each : Every (HasRecord s) cs → record_at (in_order (change rule) cs s) j ≡ in_order (change_here rule) cs (record_at s j)
  step4_each k =
      order_view (change rule) (change_here rule) (λ (t : Records). record_at t j) (λ l t. Fine l t × Every (HasRecord t) l)
      (λ c l t g. change_each rule c t g.0.0 g.1.0 j)
      (λ c l t g. (fine c l t g.0, every (HasRecord t) (HasRecord (change rule c t)) (stays_paired rule c t g.1.0) l g.1.1))
      cs s ((h, texts), k)

  pub step45_each : (x : Record) → record_at s j ≡ holds x → record_at (in_order (change rule) cs s) j ≡ in_order (change_here rule) cs (holds x)
  step45_each x e =
      order_view (change rule) (change_here rule) (λ (t : Records). record_at t j) (λ l t. Fine l t × (in_use t.used j ≡ true))
      (λ c l t g. used_each rule c t j g.1 g.0.0) (λ c l t g. (fine c l t g.0, stays_used rule c t j g.1))
      cs s ((h, texts), holds_used no_record (table_of s) j x e)
      ∙ ap (in_order (change_here rule) cs) e
