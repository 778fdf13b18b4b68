-- Steps 2 to 5 of the server at Pkg 3, and its offer: each leaves the invariant, also where 420 is answered. Assumes nothing.
use Rattle.std.proofs.Common.{Option, Some, None}
use Prim.Native.Nat.{ℕ, ◌+◌, ◌≤◌, ◌<◌}
use mathlib.Core.Path.{◌≡◌, refl, sym, ap, ◌∙◌, subst}
use mathlib.Core.Bool.{Bool, true, false, not, false≢true}
use mathlib.Core.List.{List, [], ◌∷◌}
use mathlib.Core.Logic.{inl, inr}
use native.Mathlib.Omega.{arith}
use lib.ListN.{get_or}
use borrow.Author.Tests.{leb-false}
use Rattle.places.proofs.Choice.{and_first, and_second, never}
use Rattle.places.specs.Act.{Slot, free, holds, act, each, in_order}
use Rattle.places.proofs.KeptLaws.{find_nothing}
use Rattle.places.proofs.Views.{view_here, view_other, holds_used}
use Rattle.places.proofs.Every.{Every}
use Rattle.places.proofs.Held.{hit_holds, holds_is}
use Rattle.text.specs.Wording.{IsWording}
use Rattle.lists.specs.declared.Entry.{Entry}
use Rattle.terms.specs.declared.Luid.{Luid}
use Rattle.cards.specs.declared.Card.{Card}
use Rattle.cards.specs.declared.Cards.{Cards}
use Rattle.cards.specs.Press as press
use Rattle.records.specs.declared.Mark as rec
use Rattle.records.specs.declared.Record.{Record}
use Rattle.records.specs.declared.Records.{Records}
use Rattle.records.specs.declared.Rule.{Rule}
use Rattle.records.specs.Server as server
use Rattle.records.specs.Server.{no_record}
use Rattle.server_edits.specs.Edit.{room_for}
use Rattle.server_edits.proofs.RoomLaws.{room_at}
use Rattle.record_moves.specs.Named.{table_of, with_table, is_paired, has_luid, is_named, place_of, Safe}
use Rattle.record_moves.proofs.NamedLaws.{acted}
use Rattle.record_moves.proofs.HasLaws.{has_as, has_own, has_paired, has_same}
use Rattle.server_reports.specs.Step1.{is_late}
use Rattle.server_deletes.specs.Step2.{unpaired_now, lost_by, lost, deleted, delete}
use Rattle.server_forgets.specs.Step3.{is_forgotten, step3}
use Rattle.server_changes.specs.Step4.{taking, keeping, changed, made, with_made, make_at, paired, change_at, change}
use Rattle.server_changes.proofs.RuleLaws.{Busy, changed_all}
use Rattle.server_changes.proofs.SafeChanges.{change_safe}
use Rattle.server_offers.specs.Offer.{is_dirty, dirty_here, offered_now, offered}
use Rattle.server_each.proofs.EachRecord.{record_at}
use Rattle.press_tells.specs.Tell.{is_added}
use Rattle.pairs.proofs.Invariant.{card_at, tells_of, heard, Agrees, RecordOK, Owned}
use Rattle.pairs.proofs.Claims.{Claims, tells_claims}
use Rattle.pairs.proofs.RecordPut.{HasOne, of_all_lem, record_put}
use Rattle.pairs.proofs.Heard.{unheard}
use Rattle.pairs.proofs.Once.{fp_given, luid_given, luid_least, one_entry}
use Rattle.server_pairs.proofs.Later.{Moves, MovesTo, Told, act_told, each_told}

-- a card's record agrees with it
pub agreed : (c : Cards) (s : Records) → Told c s → (i : ℕ) (x : Card) → card_at c i ≡ holds x → press.is_live x.mark ≡ true → (j : ℕ) (y : Record) → record_at s j ≡ holds y
    → has_luid x.luid y ≡ true → Agrees x y
agreed c s h i x e live j y w k =
    let q = h.quiet i x e j y w in
    subst (Agrees x) q ((h.inv.pairs i x e j y w).agrees live (subst (λ (u : Record). has_luid x.luid u ≡ true) (sym q) k))

-- ---- step 2: a record that no card has
abbrev pub NoCard : Cards → Record → Type 0
NoCard c y = (i : ℕ) (x : Card) → card_at c i ≡ holds x → HasOne x → has_luid x.luid y ≡ true → ⊥

unpaired_moves : (c : Cards) (y : Record) → RecordOK c y → NoCard c y → Moves c y (unpaired_now y)
unpaired_moves c y ok none =
    record {
      mild = record { guid = refl; fine = λ p. p; luid = inr refl };
      up = omega arith;
      known = ok.known;
      unclean = λ p m. never (cc);
      agrees = λ i x e live k a. absurd (false≢true k);
      alive = λ p d. absurd (false≢true p);
      kept = λ i x e one k. absurd (none i x e one k);
    }

lost_moves : (c : Cards) (y : Record) → RecordOK c y → NoCard c y → MovesTo c y (lost y)
lost_moves c y ok none = go y.pairing.mark
  where
    go : (m : rec.Mark) → MovesTo c y (lost_by m y)
    go rec.Mark.Clean = none
    go rec.Mark.Deleted = none
    go rec.Mark.Dirty = unpaired_moves c y ok none
    go rec.Mark.Offered = unpaired_moves c y ok none

-- a Delete for a delete mark
abbrev pub IsDelete : Cards → Entry → Type 0
IsDelete c d = (i : ℕ) × (x : Card) × (card_at c i ≡ holds x) × (press.is_live x.mark ≡ false) × (d.fields.luid.0 ≡ x.luid.0)

pub delete_told : (c : Cards) (d : Entry) → IsDelete c d → (s : Records) → Told c s → Told c (delete d s)
unfolding delete
delete_told c d (k, z, g, gone, l) s h =
    act_told c s (is_named (deleted d)) lost
    (λ t w i hit.
    let y = get_or t.places i no_record in
    lost_moves c y (w.inv.records i y (hit_holds no_record (is_named (deleted d)) t i hit))
    (λ j x e one a.
    let same : x ≡ z = one_entry c w.inv.formed j k x z e g (has_same x.luid d.fields.luid y a hit.passes ∙ l) in
    false≢true (sym gone ∙ subst (λ (u : Card). press.is_live u.mark ≡ true) same one.live)))
    h

-- in recovery: those that no card has
pub left_told : (c : Cards) (q : Record → Bool) → ((y : Record) → q y ≡ true → NoCard c y) → (s : Records) → Told c s → Told c (with_table s (each no_record q lost (table_of s)))
left_told c q none s h =
    each_told c s q lost (λ t w i hit. let y = get_or t.places i no_record in lost_moves c y (w.inv.records i y (hit_holds no_record q t i hit)) (none y hit.passes)) h

-- ---- step 3
pub step3_told : (c : Cards) (s : Records) → Told c s → Told c (step3 s)
unfolding step3
step3_told c s h =
    each_told c s is_forgotten (λ y. free)
    (λ t w i hit j x e one a.
    let y = get_or t.places i no_record in
    let unpaired : not (is_paired y) ≡ true = and_second (not (server.is_live y.pairing.mark)) (not (is_paired y)) hit.passes in
    false≢true (ap not (sym (has_paired x.luid y a)) ∙ unpaired))
    h

-- ---- all dirty become offered
pub offered_told : (c : Cards) (s : Records) → Told c s → Told c (offered s)
unfolding offered
offered_told c s h =
    each_told c s dirty_here (λ y. holds (offered_now y))
    (λ t w i hit.
    let y = get_or t.places i no_record in
    let ok = w.inv.records i y (hit_holds no_record dirty_here t i hit) in
    record {
      mild = record { guid = refl; fine = λ p. p; luid = inl refl };
      up = omega arith;
      known = ok.known;
      unclean = λ p m. never (cc);
      agrees = λ j x e live k a. record { below = a.below; clean = a.clean; wording = λ n m. never (cc) };
      alive = λ p d. inl (not_deleted y.pairing.mark hit.passes);
      kept = λ j x e one k. k;
    })
    h
  where
    not_deleted : (m : rec.Mark) → is_dirty m ≡ true → m ≡ rec.Mark.Deleted → ⊥
    not_deleted m d e = false≢true (sym (ap is_dirty e) ∙ d)

-- ---- step 4: a Replace or Add for the card x
pub record IsChange (c : Cards) (d : Entry) : Type 0 where
  pub place : ℕ
  pub card : Card
  pub here : card_at c place ≡ holds card
  pub live : press.is_live card.mark ≡ true
  pub luid : d.fields.luid.0 ≡ card.luid.0
  pub fp : d.fields.fp ≡ card.fp
  pub wording : d.wording ≡ card.wording
  pub fine : IsWording d.wording

module _ (rule : Rule) (c : Cards) (d : Entry) (k : IsChange c d) where
  -- its record, under it
  module _ (f : press.WellFormed c) (y : Record) (ok : RecordOK c y) (has : has_luid k.card.luid y ≡ true) (a : Agrees k.card y) where
    owner : (y' : Record) → has_luid k.card.luid y' ≡ true → Owned c y'
    owner y' e = record { place = k.place; card = k.card; here = k.here; is = e }

    only : (i : ℕ) (x : Card) → card_at c i ≡ holds x → has_luid x.luid y ≡ true → k.card ≡ x
    only i x e b = one_entry c f k.place i k.card x k.here e (has_same k.card.luid x.luid y has b)

    bounded : d.fields.fp ≤ c.fp
    bounded = omega (arith, k.fp, fp_given c f k.place k.card k.here)

    still_moves : Moves c y y
    still_moves =
        record {
          mild = record { guid = refl; fine = λ p. p; luid = inl refl };
          up = omega arith;
          known = ok.known;
          unclean = ok.unclean;
          agrees = λ i x e live b g. g;
          alive = λ p q. inl q;
          kept = λ i x e one b. b;
        }

    module _ (newer' : y.pairing.known < d.fields.fp) where
      taking_moves : Moves c y (taking d y)
      taking_moves =
          record {
            mild = record { guid = refl; fine = λ p. k.fine; luid = inl refl };
            up = omega (arith, newer');
            known = bounded;
            unclean = λ p m. false≢true (sym p ∙ has_paired k.card.luid y has);
            agrees = λ i x e live b g. subst (λ (u : Card). Agrees u (taking d y)) (only i x e b) (record { below = omega (arith, k.fp); clean = λ m. k.fp; wording = λ n m. k.wording });
            alive = λ p q. inr (owner (taking d y) has);
            kept = λ i x e one b. b;
          }

      keeping_moves : Busy y.pairing.mark → Moves c y (keeping d y)
      keeping_moves busy =
          record {
            mild = record { guid = refl; fine = λ p. p; luid = inl refl };
            up = omega (arith, newer');
            known = bounded;
            unclean = ok.unclean;
            agrees = λ i x e live b g. subst (λ (u : Card). Agrees u (keeping d y)) (only i x e b) (record { below = omega (arith, k.fp); clean = λ m. k.fp; wording = λ n m. absurd (busy.0 m) });
            alive = λ p q. inl busy.1;
            kept = λ i x e one b. b;
          }

    pub changed_moves : Moves c y (changed rule d y)
    changed_moves =
        let above : is_late d y ≡ false → y.pairing.known < d.fields.fp = λ e. leb-false d.fields.fp y.pairing.known e in
        changed_all rule d y (Moves c y) (λ e. still_moves) (λ e. taking_moves (above e)) (λ e busy. keeping_moves (above e) busy)

  -- ---- the whole step, by whether the LUID is paired
  module _ (s : Records) (h : Told c s) where
    abbrev l : Luid
    l = d.fields.luid

    as_luid : (y : Record) → has_luid l y ≡ true → has_luid k.card.luid y ≡ true
    as_luid y e = has_as l y k.card.luid (sym k.luid) e

    abbrev new : Record → Slot Record
    new y = holds (changed rule d y)

    paired_told : Told c (with_table s (act no_record (is_named (paired d)) new (table_of s)))
    paired_told =
        act_told c s (is_named (paired d)) new
        (λ t w i hit.
        let y = get_or t.places i no_record in
        let at = hit_holds no_record (is_named (paired d)) t i hit in
        let has = as_luid y hit.passes in
        changed_moves w.inv.formed y (w.inv.records i y at) has (agreed c (with_table s t) w k.place k.card k.here k.live i y at has))
        h

    -- an unpaired LUID is that of an added card
    module _ (none : place_of s (paired d) ≡ None) where
      is_added_lem : is_added k.card.mark ≡ true
      is_added_lem = go (is_added k.card.mark) refl
        where
          go : (b : Bool) → is_added k.card.mark ≡ b → b ≡ true
          go true e = refl
          go false e =
              let r = h.inv.recorded k.place k.card k.here k.live e in
              let has : has_luid k.card.luid r.record' ≡ true = subst (λ (u : Record). has_luid k.card.luid u ≡ true) (h.quiet k.place k.card k.here r.place r.record' r.here) r.is in
              let at : get_or s.places r.place no_record ≡ r.record' = holds_is no_record (table_of s) r.place r.record' r.here in
              let miss : has_luid l (get_or s.places r.place no_record) ≡ false = find_nothing no_record (is_named (paired d)) refl (table_of s) none r.place (holds_used no_record (table_of s) r.place r.record' r.here) in
              let hit : has_luid l r.record' ≡ true = has_as k.card.luid r.record' l k.luid has in
              absurd (false≢true (sym miss ∙ subst (λ (u : Record). has_luid l u ≡ true) (sym at) hit))

      no_rep : k.card.report.on ≡ false
      no_rep = (h.inv.entries k.place k.card k.here).bare is_added_lem

      made_has : has_luid k.card.luid (made d s) ≡ true
      made_has = as_luid (made d s) (has_own l (omega (arith, k.luid, luid_least c h.inv.formed k.place k.card k.here)))

      -- an entry that has its LUID is the card
      its : (i : ℕ) (x : Card) → card_at c i ≡ holds x → has_luid x.luid (made d s) ≡ true → k.card ≡ x
      its i x e a = one_entry c h.inv.formed k.place i k.card x k.here e (has_same k.card.luid x.luid (made d s) made_has a)

      not_from : (i : ℕ) (x : Card) → card_at c i ≡ holds x → x.report.on ≡ true → has_luid x.luid (made d s) ≡ true → ⊥
      not_from i x e on a = false≢true (sym no_rep ∙ subst (λ (u : Card). u.report.on ≡ true) (sym (its i x e a)) on)

      too_new : (i : ℕ) (x : Card) → card_at c i ≡ holds x → x.report.on ≡ true → s.guid + 1 ≡ x.report.guid.0 → ⊥
      too_new i x e on q = let b = (h.inv.entries i x e).known on in omega (arith, b, q)

      made_quiet : (i : ℕ) (x : Card) → card_at c i ≡ holds x → heard x (made d s) ≡ made d s
      unfolding tells_of
      made_quiet i x e = go (tells_of x (made d s)) refl
        where
          not_claimed : x.report.on ≡ true → Claims x (made d s) → ⊥
          not_claimed on (inl a) = too_new i x e on a.1
          not_claimed on (inr b) = not_from i x e on b

          go : (b : Bool) → tells_of x (made d s) ≡ b → heard x (made d s) ≡ made d s
          go false q = unheard x (made d s) q
          go true q = absurd (not_claimed (and_first x.report.on _ q) (tells_claims c h.inv.formed i x e (made d s) q))

      made_told : (j : ℕ) → room_for s ≡ Some j → Safe (with_made d s j) → Told c (with_made d s j)
      made_told j e safe =
          let room = room_at s j e in
          let m = made d s in
          let here = view_here no_record (table_of s) j (holds m) (omega (arith, room.inside, h.inv.safe.formed.guids.long)) in
          let other : (i : ℕ) → (i ≡ j → ⊥) → record_at (with_made d s j) i ≡ record_at s i = λ i ne. view_other no_record (table_of s) j (holds m) i ne in
          record {
            inv =
                record_put c s (with_made d s j) j (holds m) here other safe (omega arith)
                (record {
                  ok =
                      record {
                        unclean = λ p q. false≢true (sym p ∙ has_paired k.card.luid m made_has);
                        low = omega (arith, k.luid, luid_given c h.inv.formed k.place k.card k.here);
                        known = omega (arith, k.fp, fp_given c h.inv.formed k.place k.card k.here);
                      };
                  pairs = λ i x g.
                      record {
                        own = λ f q p. absurd (too_new i x g f.on q);
                        sole = λ f q. absurd (not_from i x g f.on q);
                        agrees = λ live q.
                            let at = made_quiet i x g in
                            let has : has_luid x.luid m ≡ true = subst (λ (u : Record). has_luid x.luid u ≡ true) at q in
                            subst (Agrees x) (sym at) (subst (λ (u : Card). Agrees u m) (its i x g has) (record { below = omega (arith, k.fp); clean = λ a. k.fp; wording = λ a b. k.wording }));
                      };
                  owned = λ p q. record { place = k.place; card = k.card; here = k.here; is = made_has };
                  still = λ i x g one y w q. absurd (false≢true (sym room.free ∙ holds_used no_record (table_of s) j y w));
                })
                h.inv;
            quiet = λ i x g. of_all_lem c s (with_made d s j) j (holds m) here other (λ u. heard x u ≡ u) (h.quiet i x g) (made_quiet i x g);
          }

    pub change_told : Told c (change rule d s)
    unfolding change
    change_told = go (place_of s (paired d)) refl (change_safe rule d k.fine s h.inv.safe)
      where
        make : place_of s (paired d) ≡ None → (f : Option ℕ) → room_for s ≡ f → Safe (make_at d s f) → Told c (make_at d s f)
        make none None e safe = h
        make none (Some j) e safe = made_told none j e safe

        go : (f : Option ℕ) → place_of s (paired d) ≡ f → Safe (change_at rule d s f) → Told c (change_at rule d s f)
        go None e safe = make e (room_for s) refl safe
        go (Some i) e safe = subst (Told c) (acted s (paired d) new (Some i) e) paired_told

-- ---- all of them
pub changes_told : (rule : Rule) (c : Cards) (ds : List Entry) → Every (IsChange c) ds → (s : Records) → Told c s → Told c (in_order (change rule) ds s)
unfolding in_order
changes_told rule c [] f s h = h
changes_told rule c (d ∷ ds) f s h = changes_told rule c ds f.1 (change rule d s) (change_told rule c d f.0 s h)

pub deletes_told : (c : Cards) (ds : List Entry) → Every (IsDelete c) ds → (s : Records) → Told c s → Told c (in_order delete ds s)
unfolding in_order
deletes_told c [] f s h = h
deletes_told c (d ∷ ds) f s h = deletes_told c ds f.1 (delete d s) (delete_told c d f.0 s h)
