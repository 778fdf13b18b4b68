-- What holds of the server after the press's own Pkg 3, where no 420 is answered: the same Pkg 3 would change nothing. Assumes nothing.
use Rattle.std.proofs.Common.{Option, Some, None}
use Prim.Native.Nat.{ℕ, ◌≤◌}
use mathlib.Core.Path.{◌≡◌, refl, sym, ap, ◌∙◌, subst}
use mathlib.Core.Bool.{Bool, true, false, cond, not, ◌&&◌, false≢true, and-false}
use mathlib.Core.List.{List, [], ◌∷◌}
use native.Mathlib.Omega.{arith}
use lib.Dec.{eqb, leb}
use lib.ListN.{get_or}
use borrow.Author.Tests.{ne_eqb, le-leb, leb-true, leb-false}
use Rattle.places.specs.Act.{Slot, free, holds, put_at, each, in_order}
use Rattle.places.proofs.KeptLaws.{Holds, Hit, find_hit}
use Rattle.places.proofs.Views.{on, view_here, holds_used}
use Rattle.places.proofs.Every.{Every, every}
use Rattle.places.proofs.Held.{All, hit_holds, on_all, put_all}
use Rattle.lists.specs.declared.Entry.{Entry}
use Rattle.terms.specs.declared.Luid.{Luid}
use Rattle.terms.specs.declared.Mode.{Mode}
use Rattle.terms.specs.declared.Mode.TheVariants.{Normal, Recovery}
use Rattle.cards.specs.declared.Card.{Card}
use Rattle.cards.specs.declared.Cards.{Cards}
use Rattle.cards.specs.Press as press
use Rattle.records.specs.declared.Mark as rec
use Rattle.records.specs.declared.Record.{Record}
use Rattle.records.specs.declared.Records.{Records}
use Rattle.records.specs.declared.Rule.{Rule}
use Rattle.records.specs.Server.{no_record}
use Rattle.server_edits.specs.Edit.{room_for}
use Rattle.server_edits.proofs.RoomLaws.{room_at}
use Rattle.record_moves.specs.Named.{table_of, with_table, has_luid, is_named, place_of, Safe}
use Rattle.record_moves.proofs.HasLaws.{has_own, has_too}
use Rattle.server_reports.specs.Step1.{is_late}
use Rattle.server_deletes.specs.Step2.{lost_by, lost, deleted, delete, deletes_of, names_luid, left_out, step2}
use Rattle.server_deletes.proofs.SafeDeletes.{delete_safe, step2_safe}
use Rattle.server_forgets.specs.Step3.{is_forgotten, step3}
use Rattle.server_forgets.proofs.SafeForgets.{step3_safe}
use Rattle.server_changes.specs.Step4.{changed, made, make_at, paired, change_at, change, change_code_at, make_code}
use Rattle.server_changes.proofs.RuleLaws.{changed_all}
use Rattle.server_changes.proofs.SafeChanges.{changed_same, change_safe}
use Rattle.server_merge.specs.Merge.{changes_of, up_to3, merged}
use Rattle.server_offers.specs.Offer.{dirty_here, offered_now, offered}
use Rattle.server_each.proofs.EachRecord.{record_at, named_each, all_each, change_here, used_each}
use Rattle.press_tells.specs.Tell.{commands}
use Rattle.own_packages.proofs.Own.{heard_all, merged_of, server4}
use Rattle.pairs.proofs.Invariant.{Invariant}
use Rattle.pairs.proofs.Once.{luid_least, one_entry}
use Rattle.server_pairs.proofs.Step1.{step1_inv}
use Rattle.server_pairs.proofs.Merge.{IsDelete, IsChange}
use Rattle.server_pairs.proofs.Pkg3.{own_changes, own_names, pkg3_told, deletes_are, safe_merged}
use Rattle.server_pairs.proofs.Settled.{Done, Unasked, Settled}

abbrev pub AllRecords : (Record → Type 0) → Records → Type 0
AllRecords P s = All no_record P (table_of s)

-- ---- what a rule does to each record by itself
module _ (P Q : Record → Type 0) (q : Record → Bool) (f : Record → Slot Record) (passes : (y : Record) → q y ≡ true → P y → Holds Q (f y)) (other : (y : Record) → q y ≡ false → P y → Q y) where
  pub on_records : (s s' : Records) → ((j : ℕ) → record_at s' j ≡ on q f (record_at s j)) → AllRecords P s → AllRecords Q s'
  on_records s s' law = on_all no_record q f (table_of s) (table_of s') law P Q passes other

-- ---- a change, at each place and at the new one
module _ (rule : Rule) (d : Entry) (P : Record → Type 0) (keep : (y : Record) → P y → P (changed rule d y)) (s : Records) (h : Safe s) (new : P (made d s)) where
  pub change_all : AllRecords P s → AllRecords P (change rule d s)
  unfolding change
  change_all k = go (place_of s (paired d)) refl
    where
      put : (i : ℕ) → Hit no_record (is_named (paired d)) (table_of s) i → AllRecords P (with_table s (put_at (table_of s) i (holds (changed rule d (get_or s.places i no_record)))))
      put i hit =
          let y = get_or s.places i no_record in
          put_all no_record P (table_of s) i (holds (changed rule d y)) hit.inside k (keep y (k i y (hit_holds no_record (is_named (paired d)) (table_of s) i hit)))

      make : (f : Option ℕ) → room_for s ≡ f → AllRecords P (make_at d s f)
      make None e = k
      make (Some i) e = put_all no_record P (table_of s) i (holds (made d s)) (omega (arith, (room_at s i e).inside, h.formed.guids.long)) k new

      go : (f : Option ℕ) → place_of s (paired d) ≡ f → AllRecords P (change_at rule d s f)
      go None e = make (room_for s) refl
      go (Some i) e = put i (find_hit no_record (is_named (paired d)) (table_of s) i e)

-- ---- no deleted record is without a LUID
abbrev pub There : Record → Type 0
There y = is_forgotten y ≡ false

there_changed : (rule : Rule) (d : Entry) (y : Record) → There y → There (changed rule d y)
there_changed rule d y k = changed_all rule d y There (λ e. k) (λ e. refl) (λ e b. k)

-- ---- whether the press asks for a record to be deleted depends on its LUID alone
module _ (m : Mode) (c : Cards) where
  asked_luid : (n : Mode) (y y' : Record) → y'.pairing.luid ≡ y.pairing.luid → Unasked n (commands n c) y → Unasked n (commands n c) y'
  unfolding left_out
  asked_luid Normal y y' e k =
      every (λ d. has_luid d.fields.luid y ≡ false) (λ d. has_luid d.fields.luid y' ≡ false)
      (λ d g. subst (λ (l : Luid). (not (eqb l.0 0) && eqb l.0 d.fields.luid.0) ≡ false) (sym e) g) (deletes_of (commands Normal c)) k
  asked_luid Recovery y y' e k = subst (λ (l : Luid). (not (eqb l.0 0) && not (names_luid (commands Recovery c) l)) ≡ false) (sym e) k

-- a record that is made for a card is not asked for
unasked_made : (n : Mode) (c : Cards) → press.WellFormed c → (d : Entry) → IsChange c d → (s : Records) → Unasked n (commands n c) (made d s)
unfolding left_out
unasked_made Normal c f d k s =
    every (IsDelete c) (λ e. has_luid e.fields.luid (made d s) ≡ false)
    (λ e w.
    let ne : d.fields.luid.0 ≡ e.fields.luid.0 → ⊥ = λ q.
    let same : k.card ≡ w.1 = one_entry c f k.place w.0 k.card w.1 k.here w.2 (sym k.luid ∙ (q ∙ w.4)) in
    false≢true (sym w.3 ∙ subst (λ (u : Card). press.is_live u.mark ≡ true) same k.live) in
    ap (λ (b : Bool). not (eqb d.fields.luid.0 0) && b) (ne_eqb d.fields.luid.0 e.fields.luid.0 ne) ∙ and-false (not (eqb d.fields.luid.0 0)))
    (deletes_of (commands Normal c)) (deletes_are c f Normal)
unasked_made Recovery c f d k s =
    ap (λ (b : Bool). not (eqb d.fields.luid.0 0) && not b) (own_names c f d k) ∙ and-false (not (eqb d.fields.luid.0 0))

-- ---- after step 2 it asks for none: a LUID that a record does not have
abbrev pub Without : Luid → Record → Type 0
Without l y = has_luid l y ≡ false

abbrev NotHas : Entry → Record → Type 0
NotHas d = Without d.fields.luid

lost_not : (l : Luid) (y : Record) → Holds (Without l) (lost y)
lost_not l y = go y.pairing.mark
  where
    go : (m : rec.Mark) → Holds (Without l) (lost_by m y)
    go rec.Mark.Clean = tt
    go rec.Mark.Deleted = tt
    go rec.Mark.Dirty = refl
    go rec.Mark.Offered = refl

delete_view : (d : Entry) (s : Records) → Safe s → (j : ℕ) → record_at (delete d s) j ≡ on (is_named (deleted d)) lost (record_at s j)
unfolding delete
delete_view d s h j = named_each s h (deleted d) lost j

delete_own : (d : Entry) (s : Records) → Safe s → AllRecords (NotHas d) (delete d s)
delete_own d s h = on_records (λ y. Unit {0}) (NotHas d) (is_named (deleted d)) lost (λ y t p. lost_not d.fields.luid y) (λ y t p. t) s (delete d s) (delete_view d s h) (λ j y e. tt)

delete_keep : (d : Entry) (l : Luid) (s : Records) → Safe s → AllRecords (Without l) s → AllRecords (Without l) (delete d s)
delete_keep d l s h = on_records (Without l) (Without l) (is_named (deleted d)) lost (λ y t p. lost_not l y) (λ y t p. p) s (delete d s) (delete_view d s h)

deletes_keep : (ds : List Entry) (l : Luid) (s : Records) → Safe s → AllRecords (Without l) s → AllRecords (Without l) (in_order delete ds s)
unfolding in_order
deletes_keep [] l s h k = k
deletes_keep (d ∷ ds) l s h k = deletes_keep ds l (delete d s) (delete_safe d s h) (delete_keep d l s h k)

-- step 2 gives no record a LUID
pub step2_without : (n : Mode) (cs : List Entry) (l : Luid) (s : Records) → Safe s → AllRecords (Without l) s → AllRecords (Without l) (step2 n cs s)
unfolding step2
step2_without Normal cs l s h k = deletes_keep (deletes_of cs) l s h k
step2_without Recovery cs l s h k =
    on_records (Without l) (Without l) (left_out cs) lost (λ y t p. lost_not l y) (λ y t p. p) s (with_table s (each no_record (left_out cs) lost (table_of s))) (all_each s h (left_out cs) lost) k

deletes_own : (ds : List Entry) (s : Records) → Safe s → Every (λ d. AllRecords (NotHas d) (in_order delete ds s)) ds
unfolding in_order
deletes_own [] s h = tt
deletes_own (d ∷ ds) s h = (deletes_keep ds d.fields.luid (delete d s) (delete_safe d s h) (delete_own d s h), deletes_own ds (delete d s) (delete_safe d s h))

pub step2_free : (n : Mode) (c : Cards) (s : Records) → Safe s → AllRecords (Unasked n (commands n c)) (step2 n (commands n c) s)
unfolding step2 left_out
step2_free Normal c s h =
    λ j y e. every (λ d. AllRecords (NotHas d) (in_order delete (deletes_of (commands Normal c)) s)) (λ d. NotHas d y) (λ d k. k j y e) (deletes_of (commands Normal c)) (deletes_own (deletes_of (commands Normal c)) s h)
step2_free Recovery c s h =
    on_records (λ y. Unit {0}) (λ y. left_out (commands Recovery c) y ≡ false) (left_out (commands Recovery c)) lost (λ y t p. gone y.pairing.mark y) (λ y t p. t) s
    (with_table s (each no_record (left_out (commands Recovery c)) lost (table_of s))) (all_each s h (left_out (commands Recovery c)) lost) (λ j y e. tt)
  where
    gone : (m : rec.Mark) (y : Record) → Holds (λ u. left_out (commands Recovery c) u ≡ false) (lost_by m y)
    gone rec.Mark.Clean y = tt
    gone rec.Mark.Deleted y = tt
    gone rec.Mark.Dirty y = refl
    gone rec.Mark.Offered y = refl

-- ---- step 3, all changes, and the offer
pub step3_view : (s : Records) → Safe s → (j : ℕ) → record_at (step3 s) j ≡ on is_forgotten (λ x. free) (record_at s j)
unfolding step3
step3_view s h j = all_each s h is_forgotten (λ x. free) j

pub offered_view : (s : Records) → Safe s → (j : ℕ) → record_at (offered s) j ≡ on dirty_here (λ y. holds (offered_now y)) (record_at s j)
unfolding offered
offered_view s h j = all_each s h dirty_here (λ y. holds (offered_now y)) j

-- a new record has the next GUID
change_guid : (rule : Rule) (d : Entry) (s : Records) → s.guid ≤ (change rule d s).guid
unfolding change
change_guid rule d s = go (place_of s (paired d))
  where
    make : (f : Option ℕ) → s.guid ≤ (make_at d s f).guid
    make None = omega arith
    make (Some i) = omega arith

    go : (f : Option ℕ) → s.guid ≤ (change_at rule d s f).guid
    go None = make (room_for s)
    go (Some i) = omega arith

-- what holds of all records, stays where one is changed, and holds of those that are made after GUID g
pub changes_all : (rule : Rule) (c : Cards) (g : ℕ) (P : Record → Type 0) → ((d : Entry) → IsChange c d → (y : Record) → P y → P (changed rule d y)) → ((d : Entry) → IsChange c d → (s : Records) → g ≤ s.guid → P (made d s))
    → (ds : List Entry) → Every (IsChange c) ds → (s : Records) → Safe s → g ≤ s.guid → AllRecords P s → AllRecords P (in_order (change rule) ds s)
unfolding in_order
changes_all rule c g P keep new [] f s h b k = k
changes_all rule c g P keep new (d ∷ ds) f s h b k =
    changes_all rule c g P keep new ds f.1 (change rule d s) (change_safe rule d f.0.fine s h) (let u = change_guid rule d s in omega (arith, b, u)) (change_all rule d P (keep d f.0) s h (new d f.0 s b) k)

-- ---- each change is known
-- no 420: each finds its record, or room
abbrev pub Roomy : Rule → List Entry → Records → Type 0
Roomy rule [] s = Unit {0}
Roomy rule (d ∷ ds) s = (change_code_at rule d s (place_of s (paired d)) ≡ 420 → ⊥) × Roomy rule ds (change rule d s)

known_up : (rule : Rule) (d : Entry) (y : Record) → y.pairing.known ≤ (changed rule d y).pairing.known
known_up rule d y =
    let above : is_late d y ≡ false → y.pairing.known ≤ d.fields.fp = λ e. let l = leb-false d.fields.fp y.pairing.known e in omega (arith, l) in
    changed_all rule d y (λ z. y.pairing.known ≤ z.pairing.known) (λ e. omega arith) above (λ e b. above e)

late_changed : (rule : Rule) (d : Entry) (y : Record) → is_late d (changed rule d y) ≡ true
late_changed rule d y =
    let self : leb d.fields.fp d.fields.fp ≡ true = le-leb d.fields.fp d.fields.fp (omega arith) in
    changed_all rule d y (λ z. is_late d z ≡ true) (λ e. e) (λ e. self) (λ e b. self)

has_changed : (rule : Rule) (l : Luid) (d : Entry) (y : Record) → has_luid l y ≡ true → has_luid l (changed rule d y) ≡ true
has_changed rule l d y e = has_too l y (changed rule d y) (changed_same rule d y).luid e

module _ (rule : Rule) (d : Entry) (s : Records) (h : Safe s) where
  pub done_own : 1 ≤ d.fields.luid.0 → (change_code_at rule d s (place_of s (paired d)) ≡ 420 → ⊥) → Done (change rule d s) d
  unfolding change
  done_own low room = go (place_of s (paired d)) refl room
    where
      l : Luid
      l = d.fields.luid

      make : (f : Option ℕ) → room_for s ≡ f → (make_code f ≡ 420 → ⊥) → Done (make_at d s f) d
      make None e r = absurd (r refl)
      make (Some j) e r =
          let g = room_at s j e in
          record {
            place = j;
            record' = made d s;
            here = view_here no_record (table_of s) j (holds (made d s)) (omega (arith, g.inside, h.formed.guids.long));
            has = has_own d.fields.luid low;
            late = le-leb d.fields.fp d.fields.fp (omega arith);
          }

      go : (f : Option ℕ) → place_of s (paired d) ≡ f → (change_code_at rule d s f ≡ 420 → ⊥) → Done (change_at rule d s f) d
      go None e r = make (room_for s) refl r
      go (Some i) e r =
          let hit = find_hit no_record (is_named (paired d)) (table_of s) i e in
          let y = get_or s.places i no_record in
          record {
            place = i;
            record' = changed rule d y;
            here = view_here no_record (table_of s) i (holds (changed rule d y)) hit.inside;
            has = has_changed rule d.fields.luid d y hit.passes;
            late = late_changed rule d y;
          }

  done_keep : (z : Entry) → Done s z → Done (change rule d s) z
  done_keep z k = go (is_named (paired d) k.record') (used_each rule d s k.place (holds_used no_record (table_of s) k.place k.record' k.here) h ∙ ap (change_here rule d) k.here)
    where
      go : (b : Bool) → record_at (change rule d s) k.place ≡ cond b (holds (changed rule d k.record')) (holds k.record') → Done (change rule d s) z
      go false e = record { place = k.place; record' = k.record'; here = e; has = k.has; late = k.late }
      go true e =
          record {
            place = k.place;
            record' = changed rule d k.record';
            here = e;
            has = has_changed rule z.fields.luid d k.record' k.has;
            late = le-leb z.fields.fp (changed rule d k.record').pairing.known (omega (arith, leb-true z.fields.fp k.record'.pairing.known k.late, known_up rule d k.record'));
          }

pub done_offered : (s : Records) → Safe s → (z : Entry) → Done s z → Done (offered s) z
done_offered s h z k = go (dirty_here k.record') (offered_view s h k.place ∙ ap (on dirty_here (λ y. holds (offered_now y))) k.here)
  where
    go : (b : Bool) → record_at (offered s) k.place ≡ cond b (holds (offered_now k.record')) (holds k.record') → Done (offered s) z
    go false e = record { place = k.place; record' = k.record'; here = e; has = k.has; late = k.late }
    go true e = record { place = k.place; record' = offered_now k.record'; here = e; has = k.has; late = k.late }

pub changes_keep : (rule : Rule) (c : Cards) (ds : List Entry) → Every (IsChange c) ds → (s : Records) → Safe s → (z : Entry) → Done s z → Done (in_order (change rule) ds s) z
unfolding in_order
changes_keep rule c [] f s h z k = k
changes_keep rule c (d ∷ ds) f s h z k = changes_keep rule c ds f.1 (change rule d s) (change_safe rule d f.0.fine s h) z (done_keep rule d s h z k)

changes_done : (rule : Rule) (c : Cards) → press.WellFormed c → (ds : List Entry) → Every (IsChange c) ds → (s : Records) → Safe s → Roomy rule ds s → Every (Done (in_order (change rule) ds s)) ds
unfolding in_order
changes_done rule c w [] f s h r = tt
changes_done rule c w (d ∷ ds) f s h r =
    let safe = change_safe rule d f.0.fine s h in
    let k = f.0 in
    let low : 1 ≤ d.fields.luid.0 = omega (arith, k.luid, luid_least c w k.place k.card k.here) in
    (changes_keep rule c ds f.1 (change rule d s) safe d (done_own rule d s h low r.0), changes_done rule c w ds f.1 (change rule d s) safe r.1)

-- ---- the server after the press's own Pkg 3
module _ (rule : Rule) (m : Mode) (c : Cards) (s : Records) (h : Invariant c s) where
  abbrev cs : List Entry
  cs = commands m c

  abbrev s1 : Records
  s1 = heard_all c s

  abbrev s2 : Records
  s2 = step2 m cs s1

  abbrev s3 : Records
  s3 = up_to3 m cs s1

  pub safe1 : Safe s1
  safe1 = (step1_inv c s h).safe

  safe2 : Safe s2
  safe2 = step2_safe m cs s1 safe1

  pub safe3 : Safe s3
  safe3 = step3_safe s2 safe2

  -- no deleted record without LUID, and none that the press asks to be deleted, also where 420 is answered
  pub merged_there : AllRecords There (merged_of rule m c s)
  unfolding merged
  merged_there =
      changes_all rule c 0 There (λ d k y p. there_changed rule d y p) (λ d k u b. refl) (changes_of cs) (own_changes c h.formed m) s3 safe3 (omega arith)
      (on_records (λ y. Unit {0}) There is_forgotten (λ x. free) (λ y q p. tt) (λ y q p. q) s2 s3 (step3_view s2 safe2) (λ j y e. tt))

  merged_unasked : AllRecords (Unasked m cs) (merged_of rule m c s)
  unfolding merged
  merged_unasked =
      changes_all rule c 0 (Unasked m cs) (λ d k y p. asked_luid m c m y (changed rule d y) (changed_same rule d y).luid p) (λ d k u b. unasked_made m c h.formed d k u) (changes_of cs) (own_changes c h.formed m) s3 safe3 (omega arith)
      (on_records (Unasked m cs) (Unasked m cs) is_forgotten (λ x. free) (λ y q p. tt) (λ y q p. p) s2 s3 (step3_view s2 safe2) (step2_free m c s1 safe1))

  -- once all dirty records are offered
  offered_all : (P Q : Record → Type 0) → ((y : Record) → dirty_here y ≡ true → P y → Q (offered_now y)) → ((y : Record) → dirty_here y ≡ false → P y → Q y) → AllRecords P (merged_of rule m c s) → AllRecords Q (server4 rule m c s)
  offered_all P Q hit miss = on_records P Q dirty_here (λ y. holds (offered_now y)) hit miss (merged_of rule m c s) (server4 rule m c s) (offered_view (merged_of rule m c s) (safe_merged rule m c s h))

  pub server4_unasked : AllRecords (Unasked m cs) (server4 rule m c s)
  server4_unasked = offered_all (Unasked m cs) (Unasked m cs) (λ y q p. asked_luid m c m y (offered_now y) refl p) (λ y q p. p) merged_unasked

  -- no record is dirty now
  pub server4_undirty : AllRecords (λ y. dirty_here y ≡ false) (server4 rule m c s)
  server4_undirty = offered_all (λ y. Unit {0}) (λ y. dirty_here y ≡ false) (λ y q p. refl) (λ y q p. q) (λ j y e. tt)

  -- where no 420 is answered
  pub pkg3_settled : Roomy rule (changes_of cs) s3 → Settled m c (server4 rule m c s)
  unfolding merged
  pkg3_settled room =
      let t = pkg3_told rule m c s h in
      record {
        safe = t.inv.safe;
        quiet = t.quiet;
        unasked = server4_unasked;
        there = offered_all There There (λ y q p. refl) (λ y q p. p) merged_there;
        known = every (Done (merged_of rule m c s)) (Done (server4 rule m c s)) (done_offered (merged_of rule m c s) (safe_merged rule m c s h)) (changes_of cs) (changes_done rule c h.formed (changes_of cs) (own_changes c h.formed m) s3 safe3 room);
        offered' = server4_undirty;
      }
