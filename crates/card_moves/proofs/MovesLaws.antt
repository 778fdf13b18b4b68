-- The entry of the press's table that is found. Assumes nothing.
use Rattle.std.proofs.Common.{Option, Some}
use Prim.Native.Nat.{ℕ, ◌<◌}
use mathlib.Core.Path.{◌≡◌, ap}
use native.Mathlib.Omega.{arith}
use lib.ListN.{length}
use Rattle.places.specs.Set.{all_places}
use Rattle.places.proofs.First.{first_inside}
use Rattle.terms.specs.declared.Luid.{Luid}
use Rattle.cards.specs.declared.Card.{Card}
use Rattle.cards.specs.declared.Cards.{Cards}
use Rattle.cards.specs.Press.{no_card, wanted, find_card}
use Rattle.places.specs.Act.{Slot, hit, find, act_at, act}
use Rattle.card_moves.specs.Moves.{table_of, with_table, is_entry, entry_place}

-- ---- what is found is one of the 32 places
module _ (c : Cards) (l : Luid) (i : ℕ) (long : length c.places ≡ all_places) where
  pub entry_inside : entry_place c l ≡ Some i → i < all_places
  unfolding find
  entry_inside e = omega (arith, first_inside (hit c.used (is_entry l)) no_card c.places i e)

  pub card_inside : find_card c l ≡ Some i → i < all_places
  unfolding find_card
  card_inside e = omega (arith, first_inside (wanted c.used l) no_card c.places i e)

-- what is done to the entry that was found
pub acted : (c : Cards) (l : Luid) (f : Card → Slot Card) (w : Option ℕ) → entry_place c l ≡ w → with_table c (act no_card (is_entry l) f (table_of c)) ≡ with_table c (act_at no_card f (table_of c) w)
unfolding act
acted c l f w e = ap (λ (v : Option ℕ). with_table c (act_at no_card f (table_of c) v)) e
