-- A fresh press is in range, and every edit and giving up keep it so, refused or not.
-- Assumes nothing.
use Prim.Native.Nat.{ℕ, ◌+◌, ◌≤◌}
use mathlib.Core.Path.{refl}
use mathlib.Core.Bool.{false≢true}
use mathlib.Core.List.{List}
use native.Mathlib.Omega.{arith}
use lib.ListN.{get_or}
use Rattle.text.specs.Wording.{last_station, signed_by}
use Rattle.places.proofs.TableLaws.{none_in}
use Rattle.terms.specs.declared.Luid.{Luid}
use Rattle.cards.specs.declared.Cards.{Cards}
use Rattle.cards.specs.declared.Press.{Press}
use Rattle.cards.specs.Press.{no_card, fresh_press, press_gives_up, WellFormed}
use Rattle.cards.proofs.FreshLaws.{fresh_kept}
use Rattle.cards.proofs.FindLaws.{card_at_lem}
use Rattle.press_edits.specs.Edited.{Edited}
use Rattle.press_edits.specs.Edit.{with_cards, new_card, press_add, edited_card, press_edit, deleted_card, press_delete}
use Rattle.press_edits.proofs.RoomLaws.{room_at}
use Rattle.press_edits.proofs.Cases.{add_all, edit_all, delete_all}
use Rattle.press_edits.proofs.Kept.{press_add_kept, press_edit_kept, press_delete_kept}
use Rattle.press_sends.specs.InRange.{CardsInRange, PressInRange}
use Rattle.press_sends.proofs.MoveLaws.{changed_ranged, new_ranged}

pub fresh_in_range : (station : ℕ) → station ≤ last_station → PressInRange (fresh_press station)
fresh_in_range station h =
    record {
      formed = fresh_kept station h;
      cards = record { luid = omega arith; fp = omega arith; reports = λ i e. absurd (none_in i e) };
      anchor = (omega arith, omega arith);
      session = (omega arith, omega arith);
    }

module _ (p : Press) (h : PressInRange p) where
  -- with a table that is still well-formed
  abbrev Stays : Edited → Type 0
  Stays r = WellFormed r.press.cards → PressInRange r.press

  with_cards_lem : (c : Cards) → CardsInRange c → WellFormed c → PressInRange (with_cards p c)
  with_cards_lem c n w = record { formed = w; cards = n; anchor = h.anchor; session = h.session }

  pub add_in_range : (s : List ℕ) → PressInRange (press_add p s).press
  add_in_range s =
      add_all p s Stays (λ n w. h)
      (λ i ok e.
      let r = room_at p.cards i e in
      with_cards_lem _
      (new_ranged p.cards h.formed h.cards i r.inside (new_card p.cards s) (λ q. absurd (false≢true q)) (p.cards.luid + 1) (p.cards.fp + 1) (omega (arith, r.luid))
      (omega (arith, h.cards.fp, r.fp)) r.free refl))
      (press_add_kept p h.formed s)

  pub edit_in_range : (l : Luid) (s : List ℕ) → PressInRange (press_edit p l s).press
  edit_in_range l s =
      edit_all p l s Stays (λ n w. h)
      (λ i e ok left.
      let f = card_at_lem p.cards h.formed l i e in
      with_cards_lem _
      (changed_ranged p.cards h.formed h.cards i f.inside (edited_card (get_or p.cards.places i no_card) (p.cards.fp + 1) (signed_by p.cards.station s)) (h.cards.reports i f.taken) p.cards.luid
      (p.cards.fp + 1) h.cards.luid (omega (arith, h.cards.fp, left))))
      (press_edit_kept p h.formed l s)

  pub delete_in_range : (l : Luid) → PressInRange (press_delete p l).press
  delete_in_range l =
      delete_all p l Stays (λ n w. h)
      (λ i e.
      let f = card_at_lem p.cards h.formed l i e in
      with_cards_lem _
      (changed_ranged p.cards h.formed h.cards i f.inside (deleted_card (get_or p.cards.places i no_card)) (h.cards.reports i f.taken) p.cards.luid p.cards.fp
      h.cards.luid h.cards.fp))
      (press_delete_kept p h.formed l)

  pub given_up_in_range : PressInRange (press_gives_up p)
  given_up_in_range = record { formed = h.formed; cards = h.cards; anchor = h.anchor; session = h.session }
