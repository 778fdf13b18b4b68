-- Edits by people at the press with other wordings: done or refused as before, with the same numbers. Assumes nothing.
use Rattle.std.proofs.Common.{Option, Some, None}
use Prim.Native.Nat.{ℕ, ◌+◌}
use mathlib.Core.Path.{◌≡◌, refl, ap, ap₂, ◌∙◌}
use mathlib.Core.Bool.{not}
use mathlib.Core.List.{List}
use lib.Dec.{eqb}
use lib.ListN.{get_or, set}
use Rattle.text.specs.Text.{text_ok}
use Rattle.text.specs.declared.Wording.{Wording}
use Rattle.text.specs.Wording.{signed_by}
use Rattle.places.specs.Set.{with_place}
use Rattle.terms.specs.declared.Luid.{Luid}
use Rattle.terms.specs.Number.{luid}
use Rattle.terms.specs.declared.Check.{Check}
use Rattle.terms.specs.Check.{checked, or_refuse}
use Rattle.cards.specs.declared.Mark.TheVariants.{Added}
use Rattle.cards.specs.declared.Card.{Card}
use Rattle.cards.specs.declared.Cards.{Cards}
use Rattle.cards.specs.declared.Press.{Press}
use Rattle.cards.specs.Press.{no_report, no_card, is_open, find_card}
use Rattle.press_edits.specs.Edited.{Edited}
use Rattle.press_edits.specs.Edit.{refusal, done, new_card, with_new, room_for, add_if_room, press_add, edited_card, with_edit, edit_if_found, press_edit, deleted_card, with_delete, delete_if_found, press_delete}
use Rattle.reworded.specs.Reworded.{Rewording, RewordsText, reword_card, reword_cards, reword_press}
use Rattle.places.proofs.MapLaws.{set_map}
use Rattle.terms.proofs.CheckLaws.{refuse_map}
use Rattle.press_reworded.proofs.CardLaws.{card_at_lem, same_card_lem, same_room}

module _ (r : Rewording) where
  abbrev pub reword_edited : Edited → Edited
  reword_edited e = record { outcome = e.outcome; press = reword_press r e.press }

  -- ---- delete
  delete_reworded : (c : Cards) (i : ℕ) → with_delete (reword_cards r c) i ≡ reword_cards r (with_delete c i)
  delete_reworded c i =
      ap (λ (x : Card). record { used = c.used; places = set (reword_cards r c).places i (deleted_card x); luid = c.luid; fp = c.fp; station = c.station }) (card_at_lem r c i)
      ∙ ap (λ (l : List Card). record { used = c.used; places = l; luid = c.luid; fp = c.fp; station = c.station }) (set_map (reword_card r) c.places i (deleted_card (get_or c.places i no_card)))

  pub press_delete_reworded : (p : Press) (l : Luid) → press_delete (reword_press r p) l ≡ reword_edited (press_delete p l)
  unfolding press_delete
  press_delete_reworded p l =
      refuse_map reword_edited (checked (not (is_open p.awaits))) (refusal 1 p) (delete_if_found p l (find_card p.cards l)) refl refl
      (ap (delete_if_found (reword_press r p) l) (same_card_lem r p.cards l) ∙ go (find_card p.cards l))
    where
      go : (w : Option ℕ) → delete_if_found (reword_press r p) l w ≡ reword_edited (delete_if_found p l w)
      go None = refl
      go (Some i) = ap (done (reword_press r p) l) (delete_reworded p.cards i)

  -- ---- add and edit: the text t is u
  module _ (t u : List ℕ) (so : RewordsText r t u) where
    new_reworded : (c : Cards) (i : ℕ) → with_new (reword_cards r c) i u ≡ reword_cards r (with_new c i t)
    new_reworded c i =
        ap
        (λ (w : Wording). record {
          used = with_place c.used i;
          places = set (reword_cards r c).places i (record { mark = Added; luid = luid (c.luid + 1); fp = c.fp + 1; report = no_report; wording = w });
          luid = c.luid + 1;
          fp = c.fp + 1;
          station = c.station;
        })
        (so.says c.station)
        ∙ ap (λ (l : List Card). record { used = with_place c.used i; places = l; luid = c.luid + 1; fp = c.fp + 1; station = c.station }) (set_map (reword_card r) c.places i (new_card c t))

    add_reworded : (p : Press) (w : Option ℕ) → add_if_room (reword_press r p) u w ≡ reword_edited (add_if_room p t w)
    add_reworded p None = refl
    add_reworded p (Some i) = ap (done (reword_press r p) (luid (p.cards.luid + 1))) (new_reworded p.cards i)

    pub press_add_reworded : (p : Press) → press_add (reword_press r p) u ≡ reword_edited (press_add p t)
    unfolding press_add
    press_add_reworded p =
        let add = add_if_room p t (room_for p.cards) in
        refuse_map reword_edited (checked (not (is_open p.awaits))) (refusal 1 p) (or_refuse (checked (text_ok t)) (refusal 4 p) add) refl refl
        (refuse_map reword_edited (checked (text_ok t)) (refusal 4 p) add (ap checked so.rule) refl
        (ap (add_if_room (reword_press r p) u) (same_room r p.cards) ∙ add_reworded p (room_for p.cards)))

    edit_reworded : (c : Cards) (i : ℕ) → with_edit (reword_cards r c) i u ≡ reword_cards r (with_edit c i t)
    edit_reworded c i =
        ap₂ (λ (x : Card) (w : Wording). record { used = c.used; places = set (reword_cards r c).places i (edited_card x (c.fp + 1) w); luid = c.luid; fp = c.fp + 1; station = c.station })
        (card_at_lem r c i) (so.says c.station)
        ∙ ap (λ (l : List Card). record { used = c.used; places = l; luid = c.luid; fp = c.fp + 1; station = c.station })
        (set_map (reword_card r) c.places i (edited_card (get_or c.places i no_card) (c.fp + 1) (signed_by c.station t)))

    pub press_edit_reworded : (p : Press) (l : Luid) → press_edit (reword_press r p) l u ≡ reword_edited (press_edit p l t)
    unfolding press_edit
    press_edit_reworded p l =
        refuse_map reword_edited (checked (not (is_open p.awaits))) (refusal 1 p) (edit_if_found p l t (find_card p.cards l)) refl refl
        (ap (edit_if_found (reword_press r p) l u) (same_card_lem r p.cards l) ∙ go (find_card p.cards l))
      where
        left : Check
        left = checked (not (eqb p.cards.fp 4294967295))

        go : (w : Option ℕ) → edit_if_found (reword_press r p) l u w ≡ reword_edited (edit_if_found p l t w)
        go None = refl
        go (Some i) =
            let x = done p l (with_edit p.cards i t) in
            refuse_map reword_edited (checked (text_ok t)) (refusal 4 p) (or_refuse left (refusal 2 p) x) (ap checked so.rule) refl
            (refuse_map reword_edited left (refusal 2 p) x refl refl (ap (done (reword_press r p) l) (edit_reworded p.cards i)))
