-- Cards with other wordings: each is found where it was; reports and delete marks go as before. Assumes nothing.
use Prim.Native.Nat.{ℕ}
use mathlib.Core.Path.{◌≡◌, refl, ap}
use mathlib.Core.Bool.{Bool}
use lib.ListN.{get_or}
use Rattle.places.specs.Act.{Slot, act}
use Rattle.terms.specs.declared.Luid.{Luid}
use Rattle.terms.specs.Number.{no_luid}
use Rattle.cards.specs.declared.Mark.TheVariants.{Clean}
use Rattle.cards.specs.declared.Card.{Card}
use Rattle.cards.specs.declared.Cards.{Cards}
use Rattle.cards.specs.Press.{no_report, no_card, wanted, find_card}
use Rattle.card_moves.specs.Moves.{table_of, with_table, is_entry, each_card, any_entry, with_bare, without_reports, is_delete_mark, freed, without_delete_marks}
use Rattle.press_edits.specs.Edit.{room_for}
use Rattle.reworded.specs.Reworded.{Rewording, reword_card, reword_cards}
use Rattle.places.proofs.MapLaws.{map_slot, first_map, act_map, each_map, at_map}

module _ (r : Rewording) where
  pub no_card_lem : reword_card r no_card ≡ no_card
  no_card_lem = λ i. record { mark = Clean; luid = no_luid; fp = 0; report = no_report; wording = r.past_end i }

  pub card_at_lem : (c : Cards) (i : ℕ) → get_or (reword_cards r c).places i no_card ≡ reword_card r (get_or c.places i no_card)
  card_at_lem c i = at_map (reword_card r) no_card no_card no_card_lem c.places i

  pub same_card_lem : (c : Cards) (l : Luid) → find_card (reword_cards r c) l ≡ find_card c l
  unfolding find_card
  same_card_lem c l = first_map (reword_card r) (wanted c.used l) 0 c.places

  pub same_room : (c : Cards) → room_for (reword_cards r c) ≡ room_for c
  unfolding room_for
  same_room c = refl

  -- what a rule does to the entry with a LUID, and to each that passes a test
  module _ (h k : Card → Slot Card) (so : (x : Card) → h (reword_card r x) ≡ map_slot (reword_card r) (k x)) where
    pub act_reworded : (l : Luid) (c : Cards) → with_table (reword_cards r c) (act no_card (is_entry l) h (table_of (reword_cards r c))) ≡ reword_cards r (with_table c (act no_card (is_entry l) k (table_of c)))
    act_reworded l c = ap (with_table (reword_cards r c)) (act_map (reword_card r) (is_entry l) (is_entry l) (λ x. refl) no_card no_card no_card_lem h k so (table_of c))

    pub each_reworded : (q p : Card → Bool) → ((x : Card) → q (reword_card r x) ≡ p x) → (c : Cards) → each_card q h (reword_cards r c) ≡ reword_cards r (each_card p k c)
    each_reworded q p same c = ap (with_table (reword_cards r c)) (each_map (reword_card r) q p same no_card no_card no_card_lem h k so (table_of c))

  pub without_reports_reworded : (c : Cards) → without_reports (reword_cards r c) ≡ reword_cards r (without_reports c)
  unfolding without_reports
  without_reports_reworded c = each_reworded with_bare with_bare (λ x. refl) any_entry any_entry (λ x. refl) c

  pub without_marks_reworded : (c : Cards) → without_delete_marks (reword_cards r c) ≡ reword_cards r (without_delete_marks c)
  unfolding without_delete_marks
  without_marks_reworded c = each_reworded freed freed (λ x. refl) is_delete_mark is_delete_mark (λ x. refl) c
