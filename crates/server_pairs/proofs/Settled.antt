-- A server that has taken a Pkg 3 already: taking it again changes nothing. Assumes nothing.
use Rattle.std.proofs.Common.{Option, Some, None}
use Prim.Native.Nat.{ℕ}
use mathlib.Core.Path.{◌≡◌, refl, sym, ap, ◌∙◌, subst}
use mathlib.Core.Bool.{true, false, false≢true}
use mathlib.Core.List.{List, [], ◌∷◌}
use lib.ListN.{length, get_or}
use Rattle.places.specs.Set.{all_places, in_use}
use Rattle.places.proofs.Choice.{chosen, and_both}
use Rattle.places.specs.Act.{free, holds, put_at, in_order}
use Rattle.places.proofs.KeptLaws.{find_hit, find_nothing}
use Rattle.places.proofs.Views.{holds_used}
use Rattle.places.proofs.Every.{Every, every}
use Rattle.places.proofs.SameLaws.{act_same, each_same, order_same, put_same}
use Rattle.places.proofs.Held.{hit_holds, holds_is}
use Rattle.lists.specs.declared.Entry.{Entry}
use Rattle.terms.specs.declared.Mode.{Mode}
use Rattle.terms.specs.declared.Mode.TheVariants.{Normal, Recovery}
use Rattle.cards.specs.declared.Cards.{Cards}
use Rattle.records.specs.declared.Record.{Record}
use Rattle.records.specs.declared.Records.{Records}
use Rattle.records.specs.declared.Rule.{Rule}
use Rattle.records.specs.Server.{no_record}
use Rattle.record_moves.specs.Named.{table_of, with_table, has_luid, is_named, place_of, Safe}
use Rattle.server_reports.specs.Step1.{named_by, is_late, told, report}
use Rattle.server_deletes.specs.Step2.{lost, deleted, delete, deletes_of, left_out, step2}
use Rattle.server_forgets.specs.Step3.{is_forgotten, step3}
use Rattle.server_changes.specs.Step4.{changed, newer, paired, change_at, change}
use Rattle.server_merge.specs.Merge.{changes_of, merged}
use Rattle.server_offers.specs.Offer.{dirty_here, offered_now, offered}
use Rattle.server_each.proofs.EachRecord.{record_at}
use Rattle.press_tells.specs.Tell.{reports, commands}
use Rattle.own_packages.proofs.Own.{heard_all, server4}
use Rattle.pairs.proofs.Invariant.{report_in, tells_of}
use Rattle.pairs.proofs.Once.{one_luid}
use Rattle.pairs.proofs.Heard.{heard_told}
use Rattle.server_pairs.proofs.Reports.{IsReport}
use Rattle.server_pairs.proofs.Quiet.{Quiet}
use Rattle.server_pairs.proofs.Step1.{own_reports}

-- the record of a change is there, and knows it
pub record Done (s : Records) (d : Entry) : Type 0 where
  pub place : ℕ
  pub record' : Record
  pub here : record_at s place ≡ holds record'
  pub has : has_luid d.fields.luid record' ≡ true
  pub late : is_late d record' ≡ true

-- no Delete names it; in recovery it is not left out
abbrev pub Unasked : Mode → List Entry → Record → Type 0
Unasked Normal cs y = Every (λ d. has_luid d.fields.luid y ≡ false) (deletes_of cs)
Unasked Recovery cs y = left_out cs y ≡ false

pub record Settled (m : Mode) (c : Cards) (s : Records) : Type 0 where
  pub safe : Safe s
  pub quiet : Quiet c s
  pub unasked : (j : ℕ) (y : Record) → record_at s j ≡ holds y → Unasked m (commands m c) y
  pub there : (j : ℕ) (y : Record) → record_at s j ≡ holds y → is_forgotten y ≡ false
  pub known : Every (Done s) (changes_of (commands m c))
  pub offered' : (j : ℕ) (y : Record) → record_at s j ≡ holds y → dirty_here y ≡ false

swap : {A B : Type 0} (P : A → Type 0) (Q : A → B → Type 0) (bs : List B) → ((a : A) → P a → Every (Q a) bs) → Every (λ b. (a : A) → P a → Q a b) bs
swap P Q [] f = tt
swap P Q (b ∷ bs) f = ((λ a p. (f a p).0), swap P Q bs (λ a p. (f a p).1))

module _ (m : Mode) (c : Cards) (s : Records) (k : Settled m c s) where
  abbrev long : length s.places ≡ all_places
  long = k.safe.formed.guids.long

  -- ---- step 1
  report_still : (r : Entry) → IsReport c r → report r s ≡ s
  unfolding report tells_of
  report_still r (i, x, e, on, q) =
      ap (with_table s)
      (act_same no_record (is_named (named_by r)) (λ y. holds (told r y)) (table_of s)
      (λ j hit.
      let y = get_or s.places j no_record in
      let w = hit_holds no_record (is_named (named_by r)) (table_of s) j hit in
      let t = and_both x.report.on (is_named (named_by (report_in x)) y) on (subst (λ (u : Entry). is_named (named_by u) y ≡ true) q hit.passes) in
      ap holds (ap (λ (u : Entry). told u y) q ∙ (sym (heard_told x y t) ∙ k.quiet i x e j y w))))

  pub reports_still : heard_all c s ≡ s
  reports_still = order_same report (reports c) s (every (IsReport c) (λ r. report r s ≡ s) report_still (reports c) (own_reports c))

  -- ---- step 2
  step2_still_in : (n : Mode) → n ≡ m → ((j : ℕ) (y : Record) → record_at s j ≡ holds y → Unasked n (commands n c) y) → step2 n (commands n c) s ≡ s
  unfolding step2 delete
  step2_still_in Normal q u =
      order_same delete (deletes_of (commands Normal c)) s
      (every (λ d. (y : Record) → ((j : ℕ) × (record_at s j ≡ holds y)) → has_luid d.fields.luid y ≡ false) (λ d. delete d s ≡ s)
      (λ d none. ap (with_table s)
      (act_same no_record (is_named (deleted d)) lost (table_of s)
      (λ j hit. absurd (false≢true (sym (none (get_or s.places j no_record) (j, hit_holds no_record (is_named (deleted d)) (table_of s) j hit)) ∙ hit.passes)))))
      (deletes_of (commands Normal c))
      (swap (λ y. (j : ℕ) × (record_at s j ≡ holds y)) (λ y d. has_luid d.fields.luid y ≡ false) (deletes_of (commands Normal c)) (λ y w. u w.0 y w.1)))
  step2_still_in Recovery q u =
      ap (with_table s)
      (each_same no_record (left_out (commands Recovery c)) lost (table_of s)
      (λ j hit. absurd (false≢true (sym (u j (get_or s.places j no_record) (hit_holds no_record (left_out (commands Recovery c)) (table_of s) j hit)) ∙ hit.passes))) long)

  pub step2_still : step2 m (commands m c) s ≡ s
  step2_still = step2_still_in m refl k.unasked

  -- ---- step 3
  pub step3_still : step3 s ≡ s
  unfolding step3
  step3_still =
      ap (with_table s)
      (each_same no_record is_forgotten (λ x. free) (table_of s)
      (λ j hit. absurd (false≢true (sym (k.there j (get_or s.places j no_record) (hit_holds no_record is_forgotten (table_of s) j hit)) ∙ hit.passes))) long)

  -- ---- steps 4 and 5
  pub change_still : (rule : Rule) (d : Entry) → Done s d → change rule d s ≡ s
  unfolding change changed
  change_still rule d w = go (place_of s (paired d)) refl
    where
      used : in_use s.used w.place ≡ true
      used = holds_used no_record (table_of s) w.place w.record' w.here

      has : has_luid d.fields.luid (get_or s.places w.place no_record) ≡ true
      has = ap (has_luid d.fields.luid) (holds_is no_record (table_of s) w.place w.record' w.here) ∙ w.has

      go : (f : Option ℕ) → place_of s (paired d) ≡ f → change_at rule d s f ≡ s
      go None e = absurd (false≢true (sym (find_nothing no_record (is_named (paired d)) refl (table_of s) e w.place used) ∙ has))
      go (Some i) e =
          let hit = find_hit no_record (is_named (paired d)) (table_of s) i e in
          let y = get_or s.places i no_record in
          let same : y ≡ w.record' = one_luid s k.safe i y (hit_holds no_record (is_named (paired d)) (table_of s) i hit) w.place w.record' w.here d.fields.luid hit.passes w.has in
          let late : is_late d y ≡ true = ap (is_late d) same ∙ w.late in
          ap (with_table s) (ap (λ (u : Record). put_at (table_of s) i (holds u)) (chosen (is_late d y) y (newer rule y.pairing.mark d y) late) ∙ put_same no_record (table_of s) i hit.used)

  pub merged_still : (rule : Rule) → merged rule m (commands m c) s ≡ s
  unfolding merged
  merged_still rule =
      ap (in_order (change rule) (changes_of (commands m c))) (ap step3 step2_still ∙ step3_still)
      ∙ order_same (change rule) (changes_of (commands m c)) s (every (Done s) (λ d. change rule d s ≡ s) (change_still rule) (changes_of (commands m c)) k.known)

  pub offered_still : offered s ≡ s
  unfolding offered
  offered_still =
      ap (with_table s)
      (each_same no_record dirty_here (λ y. holds (offered_now y)) (table_of s)
      (λ j hit. absurd (false≢true (sym (k.offered' j (get_or s.places j no_record) (hit_holds no_record dirty_here (table_of s) j hit)) ∙ hit.passes))) long)

  -- ---- the law: taking this Pkg 3 again changes nothing
  pub server4_still : (rule : Rule) → server4 rule m c s ≡ s
  server4_still rule = ap (λ (t : Records). offered (merged rule m (commands m c) t)) reports_still ∙ (ap offered (merged_still rule) ∙ offered_still)
