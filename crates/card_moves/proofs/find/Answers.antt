use borrow.Author.Rules.{rules}
use mathlib.Core.Path.{◌≡◌, sym, ◌∙◌}
use lib.ListN.{length}
use Rattle.places.specs.Set.{all_places}
use Rattle.places.specs.Act.{find}
use Rattle.places.proofs.First.{held_length}
use Rattle.cards.specs.Press.{is_card, find_card}
use Rattle.card_moves.proofs.MovesLaws.{card_inside}
use Rattle.card_moves.proofs.find.Goals as goal
use Rattle.card_moves.proofs.find.Goals.{After-first_in_use}

found : (c : After-first_in_use) → c.first_in_use.result ≡ find_card c.args.c.now c.args.luid
unfolding find find_card
found c = c.first_in_use.ensures.found (is_card c.args.luid) (search rules)

pub returns : goal.returns
returns c = record {
  place = found c;
  inside = λ i e.
      let long : length c.args.c.now.places ≡ all_places = search (rules, held_length) in
      card_inside c.args.c.now c.args.luid i long (sym (found c) ∙ e);
}
