-- A session from near tables, in either mode: the tables stay near with the same end, and at its end they are that. Assumes nothing.
use Prim.Native.Nat.{ℕ}
use mathlib.Core.Path.{◌≡◌, refl, sym, ap, ap₂, ◌∙◌, subst}
use mathlib.Core.Bool.{Bool, true, false, cond, not, ◌&&◌, false≢true}
use mathlib.Core.List.{List}
use native.Mathlib.Omega.{arith}
use lib.Dec.{eqb}
use borrow.Author.Tests.{le-leb}
use Rattle.places.proofs.Choice.{passed, never}
use Rattle.places.specs.Act.{Slot, free, holds, each, in_order}
use Rattle.places.proofs.Views.{on}
use Rattle.places.proofs.Every.{every}
use Rattle.places.proofs.Held.{holds_one, not_free, not_held}
use Rattle.places.proofs.SameLaws.{order_same}
use Rattle.lists.specs.declared.Entry.{Entry}
use Rattle.terms.specs.declared.Mode.{Mode}
use Rattle.terms.specs.declared.Mode.TheVariants.{Normal, Recovery}
use Rattle.cards.specs.declared.Cards.{Cards}
use Rattle.cards.specs.Press as press
use Rattle.records.specs.declared.Mark as rec
use Rattle.records.specs.declared.Record.{Record}
use Rattle.records.specs.declared.Records.{Records}
use Rattle.records.specs.declared.Rule.{Rule}
use Rattle.records.specs.Server as server
use Rattle.records.specs.Server.{no_record}
use Rattle.record_moves.specs.Named.{is_paired, has_luid, table_of, with_table}
use Rattle.server_deletes.specs.Step2.{lost, lost_by, delete, deletes_of, left_out, step2}
use Rattle.server_forgets.specs.Step3.{is_forgotten}
use Rattle.server_changes.specs.Step4.{change}
use Rattle.server_merge.specs.Merge.{changes_of, merged}
use Rattle.server_offers.specs.Offer as offer
use Rattle.server_each.proofs.EachRecord.{record_at, all_each}
use Rattle.press_tells.specs.Tell.{is_added, commands}
use Rattle.own_packages.proofs.Own.{heard_all, merged_of, server4}
use Rattle.pairs.proofs.Invariant.{Agrees, Invariant}
use Rattle.server_pairs.proofs.Later.{Told}
use Rattle.server_pairs.proofs.Merge.{IsDelete, IsChange}
use Rattle.server_pairs.proofs.Pkg3.{left_out_lem, own_changes, step2_told, deletes_are, told_heard}
use Rattle.server_pairs.proofs.Settled.{Done, Settled, step3_still, change_still, offered_still}
use Rattle.server_pairs.proofs.AfterPkg3.{step2_free}
use Rattle.broken_sessions.proofs.Near.{Ends, done, gone, Near, heard_near, Calm, calm}

module _ (rule : Rule) (m : Mode) (c : Cards) (s : Records) (e : Cards) (f : Records) (h : Invariant c s) (n : Near c s e f) where
  abbrev cs : List Entry
  cs = commands m c

  abbrev s1 : Records
  s1 = heard_all c s

  told1 : Told c s1
  told1 = told_heard c s h

  n1 : Near c s1 e f
  n1 = heard_near c e f s h n

  calm1 : (j : ℕ) (y : Record) → record_at s1 j ≡ holds y → Calm c y (record_at f j)
  calm1 j y w = calm c s1 told1.inv told1.quiet j y w (record_at f j) (n1.records j y w)

  -- a record that is done has a card
  not_left : (j : ℕ) (y : Record) → record_at s1 j ≡ holds y → y.pairing.mark ≡ rec.Mark.Clean → left_out (commands Recovery c) y ≡ false
  not_left j y w k = go (left_out (commands Recovery c) y) refl
    where
      pair : (b : Bool) → is_paired y ≡ b → is_paired y ≡ true
      pair true q = q
      pair false q = absurd ((told1.inv.records j y w).unclean q k)

      go : (b : Bool) → left_out (commands Recovery c) y ≡ b → left_out (commands Recovery c) y ≡ false
      go false q = q
      go true q =
          let o = told1.inv.owned j y w (pair (is_paired y) refl) (λ d. never (cc)) in
          let x = n.clean o.place o.card o.here in
          absurd (left_out_lem c h.formed y q o.place o.card o.here (record { live = ap press.is_live x; old = ap is_added x }) o.is)

  near_step2 : (k : Mode) → Near c (step2 k (commands k c) s1) e f
  unfolding step2
  near_step2 Normal =
      subst (λ (t : Records). Near c t e f)
      (sym (order_same delete (deletes_of (commands Normal c)) s1 (every (IsDelete c) (λ d. delete d s1 ≡ s1) (λ d w. absurd (false≢true (sym w.3 ∙ ap press.is_live (n.clean w.0 w.1 w.2)))) (deletes_of (commands Normal c)) (deletes_are c h.formed Normal)))) n1
  near_step2 Recovery =
      record {
        clean = n1.clean;
        cards = n1.cards;
        empty = λ j q. empty j (record_at s1 j) refl (sym (after j) ∙ q);
        records = λ j v q. records j v (record_at s1 j) refl (sym (after j) ∙ q);
      }
    where
      us : List Entry
      us = commands Recovery c

      after : (j : ℕ) → record_at (with_table s1 (each no_record (left_out (commands Recovery c)) lost (table_of s1))) j ≡ on (left_out (commands Recovery c)) lost (record_at s1 j)
      after j = all_each s1 told1.inv.safe (left_out (commands Recovery c)) lost j

      empty : (j : ℕ) (z : Slot Record) → record_at s1 j ≡ z → on (left_out (commands Recovery c)) lost z ≡ free → record_at f j ≡ free
      empty j free w q = n1.empty j w
      empty j (holds y) w q = by (calm1 j y w)
        where
          by : Calm c y (record_at f j) → record_at f j ≡ free
          by (done k r) = not_free y (sym (passed (left_out (commands Recovery c) y) (lost y) (holds y) (not_left j y w k)) ∙ q)
          by (gone k p none r) = r

      records : (j : ℕ) (v : Record) (z : Slot Record) → record_at s1 j ≡ z → on (left_out (commands Recovery c)) lost z ≡ holds v → Ends c v (record_at f j)
      records j v free w q = not_held v q
      records j v (holds y) w q = by (calm1 j y w)
        where
          same : y ≡ v → Ends c v (record_at f j)
          same u = subst (λ (z : Record). Ends c z (record_at f j)) u (n1.records j y w)

          left : (b : Bool) → y.pairing.mark ≡ rec.Mark.Deleted → cond b (lost y) (holds y) ≡ holds v → Ends c v (record_at f j)
          left true k u = not_held v (sym (ap (λ (x : rec.Mark). lost_by x y) k) ∙ u)
          left false k u = same (holds_one y v u)

          by : Calm c y (record_at f j) → Ends c v (record_at f j)
          by (done k r) = same (holds_one y v (sym (passed (left_out (commands Recovery c) y) (lost y) (holds y) (not_left j y w k)) ∙ q))
          by (gone k p none r) = left (left_out (commands Recovery c) y) k q

  abbrev pub s2 : Records
  s2 = step2 m cs s1

  pub told2 : Told c s2
  told2 = step2_told c h.formed m s1 told1

  pub n2 : Near c s2 e f
  n2 = near_step2 m

  pub calm2 : (j : ℕ) (y : Record) → record_at s2 j ≡ holds y → Calm c y (record_at f j)
  calm2 j y w = calm c s2 told2.inv told2.quiet j y w (record_at f j) (n2.records j y w)

  -- ---- nothing is left for steps 3 to 5
  known_change : (d : Entry) → IsChange c d → Done s2 d
  known_change d k =
      let x = k.card in
      let m = n.clean k.place x k.here in
      let r = told2.inv.recorded k.place x k.here k.live (ap is_added m) in
      let y = r.record' in
      let q = told2.quiet k.place x k.here r.place y r.here in
      let has : has_luid x.luid y ≡ true = subst (λ (z : Record). has_luid x.luid z ≡ true) q r.is in
      let a : Agrees x y = subst (λ (z : Record). Agrees x z) q ((told2.inv.pairs k.place x k.here r.place y r.here).agrees k.live r.is) in
      let fp : d.fields.fp ≡ y.pairing.known = k.fp ∙ sym (a.clean m) in
      record {
        place = r.place;
        record' = y;
        here = r.here;
        has = subst (λ (l : ℕ). (is_paired y && eqb y.pairing.luid.0 l) ≡ true) (sym k.luid) has;
        late = le-leb d.fields.fp y.pairing.known (omega (arith, fp));
      }

  settled2 : Settled m c s2
  settled2 =
      record {
        safe = told2.inv.safe;
        quiet = told2.quiet;
        unasked = step2_free m c s1 told1.inv.safe;
        there = λ j y w. there y (calm2 j y w);
        known = every (IsChange c) (Done s2) known_change (changes_of cs) (own_changes c h.formed m);
        offered' = λ j y w. clear y (calm2 j y w);
      }
    where
      there : {z : Slot Record} (y : Record) → Calm c y z → is_forgotten y ≡ false
      there y (done k r) = ap (λ (x : rec.Mark). not (server.is_live x) && not (is_paired y)) k
      there y (gone k p none r) = ap₂ (λ (x : rec.Mark) (b : Bool). not (server.is_live x) && not b) k p

      clear : {z : Slot Record} (y : Record) → Calm c y z → offer.dirty_here y ≡ false
      clear y (done k r) = ap offer.is_dirty k
      clear y (gone k p none r) = ap offer.is_dirty k

  pub merged_is : merged_of rule m c s ≡ s2
  unfolding merged
  merged_is = ap (in_order (change rule) (changes_of cs)) (step3_still m c s2 settled2) ∙ order_same (change rule) (changes_of cs) s2 (every (Done s2) (λ d. change rule d s2 ≡ s2) (change_still m c s2 settled2 rule) (changes_of cs) settled2.known)

  pub server4_is : server4 rule m c s ≡ s2
  server4_is = ap offer.offered merged_is ∙ offered_still m c s2 settled2

  pub near_4 : Near c (server4 rule m c s) e f
  near_4 = subst (λ (t : Records). Near c t e f) (sym server4_is) n2
