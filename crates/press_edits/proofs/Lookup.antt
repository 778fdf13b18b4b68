-- What each number gives after an edit at the press: the edit's own number its card, and every other number what it gave. Assumes nothing.
use Rattle.std.proofs.Common.{Option, None, Some}
use Prim.Native.Nat.{ℕ, ◌+◌}
use mathlib.Core.Path.{◌≡◌, refl, sym, ap, subst, ◌∙◌}
use mathlib.Core.List.{List}
use lib.ListN.{get_or}
use Rattle.text.specs.Wording.{signed_by}
use Rattle.places.specs.Table.{entry_found}
use Rattle.places.proofs.TableLaws.{gives_new, beside_new, gives_changed, gives_gone, beside_changed}
use Rattle.terms.specs.declared.Luid.{Luid}
use Rattle.terms.specs.Number.{luid}
use Rattle.cards.specs.declared.Mark.{Mark}
use Rattle.cards.specs.declared.Mark.TheVariants.{Clean, Added, Changed, Deleted}
use Rattle.cards.specs.declared.Card.{Card}
use Rattle.cards.specs.declared.Cards.{Cards}
use Rattle.cards.specs.declared.Press.{Press}
use Rattle.cards.specs.Press.{no_card, is_live, find_card, card_of, luid_of, WellFormed}
use Rattle.cards.proofs.FindLaws.{live, CardAt, card_at_lem}
use Rattle.press_edits.specs.Edited.{Done}
use Rattle.press_edits.specs.Edited.{Edited}
use Rattle.press_edits.specs.Edit.{new_card, with_new, press_add, edited, edited_card, with_edit, press_edit, deleted_card, with_delete, press_delete}
use Rattle.press_edits.proofs.RoomLaws.{Room, room_at}
use Rattle.press_edits.proofs.Cases.{add_all, edit_all, delete_all}

-- an edit makes no delete mark of a card
edited_live : (m : Mark) → is_live (edited m) ≡ is_live m
edited_live Clean = refl
edited_live Added = refl
edited_live Changed = refl
edited_live Deleted = refl

-- ---- the table after an edit in place i
module _ (c : Cards) (w : WellFormed c) (i : ℕ) where
  module _ (s : List ℕ) (r : Room c i) where
    new_gives : card_of (with_new c i s) (luid (c.luid + 1)) ≡ Some (new_card c s)
    unfolding find_card
    new_gives = gives_new luid_of no_card c.used c.places c.luid w.luids i r.inside (new_card c s) r.free refl live refl

    new_others : (m : Luid) → (c.luid + 1 ≡ m.0 → ⊥) → card_of (with_new c i s) m ≡ card_of c m
    unfolding find_card
    new_others m = beside_new luid_of no_card c.used c.places c.luid w.luids i r.inside (new_card c s) r.free refl live m.0

  -- where the card with number l stands
  module _ (l : Luid) (f : CardAt c l i) where
    abbrev old : Card
    old = get_or c.places i no_card

    module _ (s : List ℕ) where
      abbrev new : Card
      new = edited_card old (c.fp + 1) (signed_by c.station s)

      edit_gives : card_of (with_edit c i s) l ≡ Some new
      unfolding find_card
      edit_gives =
          gives_changed luid_of no_card c.used c.places c.luid w.luids i f.inside new refl live l.0 f.taken f.number (edited_live old.mark ∙ f.known)

      edit_others : (m : Luid) → (l.0 ≡ m.0 → ⊥) → card_of (with_edit c i s) m ≡ card_of c m
      unfolding find_card
      edit_others m ne = beside_changed luid_of no_card c.used c.places c.luid w.luids i f.inside new refl live m.0 (λ q. ne (sym f.number ∙ q))

    delete_gives : card_of (with_delete c i) l ≡ None
    unfolding find_card
    delete_gives = gives_gone luid_of no_card c.used c.places c.luid w.luids i f.inside (deleted_card old) refl live l.0 f.taken f.number refl

    delete_others : (m : Luid) → (l.0 ≡ m.0 → ⊥) → card_of (with_delete c i) m ≡ card_of c m
    unfolding find_card
    delete_others m ne = beside_changed luid_of no_card c.used c.places c.luid w.luids i f.inside (deleted_card old) refl live m.0 (λ q. ne (sym f.number ∙ q))

-- ---- the calls
-- where the call is done with a number, that number gives x
abbrev pub Gives : Luid → Option Card → Edited → Type 0
Gives l x r = r.outcome ≡ Done l → card_of r.press.cards l ≡ x

-- number m gives what it gave
abbrev pub Same : Luid → Press → Edited → Type 0
Same m p r = card_of r.press.cards m ≡ card_of p.cards m

module _ (p : Press) (w : WellFormed p.cards) where
  pub press_add_gives : (s : List ℕ) (l : Luid) → Gives l (Some (new_card p.cards s)) (press_add p s)
  press_add_gives s l =
      add_all p s (Gives l (Some (new_card p.cards s))) (λ n q. cc)
      (λ i ok e q.
      let same : ◌≡◌ {A = Luid} (luid (p.cards.luid + 1)) l = cc in
      subst (λ (k : Luid). card_of (with_new p.cards i s) k ≡ Some (new_card p.cards s)) same (new_gives p.cards w i s (room_at p.cards i e)))

  pub press_add_others : (s : List ℕ) (m : Luid) → (p.cards.luid + 1 ≡ m.0 → ⊥) → Same m p (press_add p s)
  press_add_others s m ne = add_all p s (Same m p) (λ n. refl) (λ i ok e. new_others p.cards w i s (room_at p.cards i e) m ne)

  module _ (l : Luid) where
    pub press_edit_gives : (s : List ℕ) (x : Card) → card_of p.cards l ≡ Some x → Gives l (Some (edited_card x (p.cards.fp + 1) (signed_by p.cards.station s))) (press_edit p l s)
    press_edit_gives s x was =
        edit_all p l s (Gives l (Some (edited_card x (p.cards.fp + 1) (signed_by p.cards.station s)))) (λ n q. cc)
        (λ i e ok left q.
        let same : get_or p.cards.places i no_card ≡ x = cc (ap (entry_found no_card p.cards.places) e) in
        edit_gives p.cards w i l (card_at_lem p.cards w l i e) s ∙ ap (λ (y : Card). Some (edited_card y (p.cards.fp + 1) (signed_by p.cards.station s))) same)

    pub press_edit_others : (s : List ℕ) (m : Luid) → (l.0 ≡ m.0 → ⊥) → Same m p (press_edit p l s)
    press_edit_others s m ne = edit_all p l s (Same m p) (λ n. refl) (λ i e ok left. edit_others p.cards w i l (card_at_lem p.cards w l i e) s m ne)

    pub press_delete_gives : Gives l None (press_delete p l)
    press_delete_gives = delete_all p l (Gives l None) (λ n q. cc) (λ i e q. delete_gives p.cards w i l (card_at_lem p.cards w l i e))

    pub press_delete_others : (m : Luid) → (l.0 ≡ m.0 → ⊥) → Same m p (press_delete p l)
    press_delete_others m ne = delete_all p l (Same m p) (λ n. refl) (λ i e. delete_others p.cards w i l (card_at_lem p.cards w l i e) m ne)
