-- Every edit at the press keeps the table well-formed. Assumes nothing.
use Prim.Native.Nat.{ℕ, ◌+◌, ◌<◌}
use mathlib.Core.Path.{◌≡◌, refl}
use mathlib.Core.List.{List}
use mathlib.Core.Bool.{true, false≢true}
use native.Mathlib.Omega.{arith}
use lib.ListN.{get_or}
use Rattle.text.specs.Text.{text_ok}
use Rattle.text.specs.Wording.{signed_by}
use Rattle.text.proofs.WordingLaws.{signed_well}
use Rattle.places.specs.Set.{all_places, in_use}
use Rattle.places.proofs.TableLaws.{sound_new, sound_change, each_new, each_change}
use Rattle.terms.specs.declared.Luid.{Luid}
use Rattle.cards.specs.declared.Card.{Card}
use Rattle.cards.specs.declared.Cards.{Cards}
use Rattle.cards.specs.declared.Press.{Press}
use Rattle.cards.specs.Press.{no_card, luid_of, FineCard, WellFormed}
use Rattle.cards.proofs.FindLaws.{card_at_lem}
use Rattle.press_edits.specs.Edited.{Edited}
use Rattle.press_edits.specs.Edit.{new_card, with_new, press_add, edited_card, with_edit, press_edit, deleted_card, with_delete, press_delete}
use Rattle.press_edits.proofs.RoomLaws.{Room, room_at}
use Rattle.press_edits.proofs.Cases.{add_all, edit_all, delete_all}

module _ (c : Cards) (w : WellFormed c) (i : ℕ) where
  -- a fingerprint that was given stays given
  still : (y : Card) → FineCard c.fp y → FineCard (c.fp + 1) y
  still y f = (f.0, omega (arith, f.1), f.2, f.3)

  pub new_kept : (s : List ℕ) → text_ok s ≡ true → Room c i → WellFormed (with_new c i s)
  new_kept s ok r =
      record {
        station = w.station;
        luids = sound_new luid_of no_card c.used c.places c.luid w.luids i r.inside (new_card c s) r.free refl;
        cards =
            each_new luid_of no_card c.used c.places c.luid w.luids i r.inside (new_card c s) r.free refl (FineCard c.fp) (FineCard (c.fp + 1)) still
            (omega arith, omega arith, signed_well c.station s w.station ok, λ e. absurd (false≢true e)) w.cards;
      }

  module _ (inside : i < all_places) where
    pub edit_kept : in_use c.used i ≡ true → (s : List ℕ) → text_ok s ≡ true → WellFormed (with_edit c i s)
    edit_kept u s ok =
        let x = edited_card (get_or c.places i no_card) (c.fp + 1) (signed_by c.station s) in
        record {
          station = w.station;
          luids = sound_change luid_of no_card c.used c.places c.luid w.luids i inside x refl;
          cards =
              each_change luid_of no_card c.used c.places c.luid w.luids i inside x (FineCard c.fp) (FineCard (c.fp + 1)) still (omega arith, omega arith, signed_well c.station s w.station ok, (w.cards i u).3)
              w.cards;
        }

    pub delete_kept : in_use c.used i ≡ true → WellFormed (with_delete c i)
    delete_kept u =
        let x = deleted_card (get_or c.places i no_card) in
        record {
          station = w.station;
          luids = sound_change luid_of no_card c.used c.places c.luid w.luids i inside x refl;
          cards = each_change luid_of no_card c.used c.places c.luid w.luids i inside x (FineCard c.fp) (FineCard c.fp) (λ y f. f) (w.cards i u) w.cards;
        }

abbrev Kept : Edited → Type 0
Kept r = WellFormed r.press.cards

module _ (p : Press) (w : WellFormed p.cards) where
  pub press_add_kept : (s : List ℕ) → WellFormed (press_add p s).press.cards
  press_add_kept s = add_all p s Kept (λ n. w) (λ i ok e. new_kept p.cards w i s ok (room_at p.cards i e))

  pub press_edit_kept : (l : Luid) (s : List ℕ) → WellFormed (press_edit p l s).press.cards
  press_edit_kept l s = edit_all p l s Kept (λ n. w) (λ i e ok left. let f = card_at_lem p.cards w l i e in edit_kept p.cards w i f.inside f.taken s ok)

  pub press_delete_kept : (l : Luid) → WellFormed (press_delete p l).press.cards
  press_delete_kept l = delete_all p l Kept (λ n. w) (λ i e. let f = card_at_lem p.cards w l i e in delete_kept p.cards w i f.inside f.taken)
