-- The edits of people at the press leave the invariant, refused or not. Assumes nothing.
use Prim.Native.Nat.{ℕ, ◌+◌, ◌≤◌, ◌<◌}
use mathlib.Core.Path.{◌≡◌, refl, sym, ap, ◌∙◌, subst}
use mathlib.Core.Bool.{true, false≢true}
use mathlib.Core.List.{List}
use native.Mathlib.Omega.{arith}
use lib.ListN.{get_or}
use Rattle.text.specs.declared.Wording.{Wording}
use Rattle.text.specs.Wording.{signed_by}
use Rattle.places.specs.Set.{all_places}
use Rattle.places.proofs.Choice.{never}
use Rattle.places.specs.Act.{Table, holds, put_at}
use Rattle.places.proofs.Views.{view, view_here, view_other, holds_used}
use Rattle.places.proofs.SameLaws.{set_is}
use Rattle.places.proofs.Held.{holds_one, used_holds}
use Rattle.terms.specs.declared.Luid.{Luid}
use Rattle.terms.specs.Number.{luid}
use Rattle.cards.specs.declared.Mark as card
use Rattle.cards.specs.declared.Card.{Card}
use Rattle.cards.specs.declared.Cards.{Cards}
use Rattle.cards.specs.declared.Press.{Press}
use Rattle.cards.specs.Press as press
use Rattle.cards.specs.Press.{no_card}
use Rattle.cards.proofs.FindLaws.{card_at_lem}
use Rattle.records.specs.declared.Record.{Record}
use Rattle.records.specs.declared.Records.{Records}
use Rattle.press_edits.specs.Edited.{Edited}
use Rattle.press_edits.specs.Edit.{new_card, with_new, press_add, edited, edited_card, with_edit, press_edit, deleted_card, with_delete, press_delete}
use Rattle.press_edits.proofs.RoomLaws.{Room, room_at}
use Rattle.press_edits.proofs.Cases.{add_all, edit_all, delete_all}
use Rattle.press_edits.proofs.Kept.{new_kept, edit_kept, delete_kept}
use Rattle.record_moves.specs.Named.{has_luid}
use Rattle.record_moves.proofs.HasLaws.{has_number_lem}
use Rattle.card_moves.specs.Moves as moves
use Rattle.press_tells.specs.Tell.{is_added}
use Rattle.pairs.proofs.Invariant.{card_at, tells_of, heard, Invariant}
use Rattle.pairs.proofs.Once.{fp_given}
use Rattle.pairs.proofs.Heard.{no_report_lem}
use Rattle.pairs.proofs.EntryPut.{SoleReport, FitsHere, entry_put}

module _ (c : Cards) (s : Records) (h : Invariant c s) (i : ℕ) where
  -- ---- add
  add_inv : (t : List ℕ) → Room c i → press.WellFormed (with_new c i t) → Invariant (with_new c i t) s
  add_inv t r formed =
      let x = new_card c t in
      entry_put c (with_new c i t) s i (holds x) (view_here no_card (moves.table_of c) i (holds x) (omega (arith, r.inside, h.formed.luids.long))) (λ k ne. view_other no_card (moves.table_of c) i (holds x) k ne)
      formed (omega arith) (omega arith)
      (record {
        ok = record { bare = λ a. refl; older = λ on. absurd (false≢true on); known = λ on. absurd (false≢true on) };
        pairs = λ j y w.
            record {
              own = λ f. absurd (false≢true f.on);
              sole = λ f. absurd (false≢true f.on);
              agrees = λ live k.
                  let has : has_luid (luid (c.luid + 1)) y ≡ true = subst (λ (u : Record). has_luid (luid (c.luid + 1)) u ≡ true) (no_report_lem x refl y) k in
                  let q = has_number_lem (luid (c.luid + 1)) y has in
                  let low = (h.records j y w).low in
                  absurd (omega (arith, low, q));
            };
        sole = λ f. absurd (false≢true f.on);
        recorded = λ live old. absurd (false≢true (sym old));
        still = λ j y w p d v g k. absurd (false≢true (sym r.free ∙ holds_used no_card (moves.table_of c) i v g));
      })
      h

  -- ---- a card that keeps its LUID and report
  module _ (x : Card) (e : card_at c i ≡ holds x) where
    -- the same card
    same : (v : Card) → card_at c i ≡ holds v → x ≡ v
    same v g = holds_one x v (sym e ∙ g)

    sole_here : SoleReport c i x
    sole_here f k w ne g b m = ne (h.guids k i w x g e b f (sym m))

    -- an edited card: nothing is known of its new fingerprint
    edited_old : (m : card.Mark) → edited m ≡ card.Mark.Clean → ⊥
    edited_old card.Mark.Clean q = never (cc)
    edited_old card.Mark.Added q = never (cc)
    edited_old card.Mark.Changed q = never (cc)
    edited_old card.Mark.Deleted q = never (cc)

    edited_live : (m : card.Mark) → press.is_live (edited m) ≡ press.is_live m
    edited_live card.Mark.Clean = refl
    edited_live card.Mark.Added = refl
    edited_live card.Mark.Changed = refl
    edited_live card.Mark.Deleted = refl

    edited_added : (m : card.Mark) → is_added (edited m) ≡ is_added m
    edited_added card.Mark.Clean = refl
    edited_added card.Mark.Added = refl
    edited_added card.Mark.Changed = refl
    edited_added card.Mark.Deleted = refl

    fits_edit : (new : Wording) → FitsHere c s i (holds (edited_card x (c.fp + 1) new))
    unfolding heard tells_of
    fits_edit new =
        let o = h.entries i x e in
        let given = fp_given c h.formed i x e in
        record {
          ok = record { bare = λ a. o.bare (sym (edited_added x.mark) ∙ a); older = λ on. omega (arith, o.older on, given); known = o.known };
          pairs = λ j y w.
              let p = h.pairs i x e j y w in
              record {
                own = λ f. p.own (record { on = f.on; given = f.given });
                sole = λ f. p.sole (record { on = f.on; given = f.given });
                agrees = λ live k.
                    let a = p.agrees (sym (edited_live x.mark) ∙ live) k in
                    let b = a.below in
                    record { below = omega (arith, b, given); clean = λ q. absurd (edited_old x.mark q); wording = λ q m. absurd (omega (arith, b, given, q)) };
              };
          sole = λ f k w ne g b m. sole_here (record { on = f.on; given = f.given }) k w ne g b m;
          recorded = λ live old.
              let r = h.recorded i x e (sym (edited_live x.mark) ∙ live) (sym (edited_added x.mark) ∙ old) in
              record { place = r.place; record' = r.record'; here = r.here; is = r.is };
          still = λ j y w p d v g k. subst (λ (u : Card). has_luid u.luid y ≡ true) (sym (same v g)) k;
        }

    fits_delete : FitsHere c s i (holds (deleted_card x))
    fits_delete =
        let o = h.entries i x e in
        record {
          ok = record { bare = λ a. absurd (false≢true a); older = o.older; known = o.known };
          pairs = λ j y w.
              let p = h.pairs i x e j y w in
              record {
                own = λ f. p.own (record { on = f.on; given = f.given });
                sole = λ f. p.sole (record { on = f.on; given = f.given });
                agrees = λ live k. absurd (false≢true live);
              };
          sole = λ f k w ne g b m. sole_here (record { on = f.on; given = f.given }) k w ne g b m;
          recorded = λ live old. absurd (false≢true live);
          still = λ j y w p d v g k. subst (λ (u : Card). has_luid u.luid y ≡ true) (sym (same v g)) k;
        }

    -- a place that is in use, with another entry
    module _ (z : Card) (c' : Cards) (more : c.luid ≤ c'.luid) (newer : c.fp ≤ c'.fp) (inside : i < all_places) (is : moves.table_of c' ≡ put_at (moves.table_of c) i (holds z)) where
      put_inv : press.WellFormed c' → FitsHere c s i (holds z) → Invariant c' s
      put_inv formed f =
          entry_put c c' s i (holds z) (ap (λ (t : Table Card). view no_card t i) is ∙ view_here no_card (moves.table_of c) i (holds z) (omega (arith, inside, h.formed.luids.long)))
          (λ k ne. ap (λ (t : Table Card). view no_card t k) is ∙ view_other no_card (moves.table_of c) i (holds z) k ne) formed more newer f h

-- ---- the calls
abbrev Leaves : Records → Edited → Type 0
Leaves s r = Invariant r.press.cards s

module _ (p : Press) (s : Records) (h : Invariant p.cards s) where
  abbrev c : Cards
  c = p.cards

  pub press_add_inv : (t : List ℕ) → Invariant (press_add p t).press.cards s
  press_add_inv t = add_all p t (Leaves s) (λ n. h) (λ i ok e. let r = room_at c i e in add_inv c s h i t r (new_kept c h.formed i t ok r))

  -- the card with a LUID, in its place
  abbrev at : ℕ → Card
  at i = get_or c.places i no_card

  pub press_edit_inv : (l : Luid) (t : List ℕ) → Invariant (press_edit p l t).press.cards s
  press_edit_inv l t =
      edit_all p l t (Leaves s) (λ n. h)
      (λ i e ok left.
      let f = card_at_lem c h.formed l i e in
      let g = used_holds no_card (moves.table_of c) i h.formed.luids.long f.inside f.taken in
      let w = signed_by c.station t in
      let z = edited_card (at i) (c.fp + 1) w in
      put_inv c s h i (at i) g z (with_edit c i t) (omega arith) (omega arith) f.inside (set_is (moves.table_of c) i z f.taken) (edit_kept c h.formed i f.inside f.taken t ok) (fits_edit c s h i (at i) g w))

  pub press_delete_inv : (l : Luid) → Invariant (press_delete p l).press.cards s
  press_delete_inv l =
      delete_all p l (Leaves s) (λ n. h)
      (λ i e.
      let f = card_at_lem c h.formed l i e in
      let g = used_holds no_card (moves.table_of c) i h.formed.luids.long f.inside f.taken in
      let z = deleted_card (at i) in
      put_inv c s h i (at i) g z (with_delete c i) (omega arith) (omega arith) f.inside (set_is (moves.table_of c) i z f.taken) (delete_kept c h.formed i f.inside f.taken) (fits_delete c s h i (at i) g))
