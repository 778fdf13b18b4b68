use borrow.Author.Rules.{rules}
use mathlib.Core.Path.{◌≡◌, sym, ◌∙◌}
use lib.ListN.{length}
use Rattle.places.specs.Set.{all_places}
use Rattle.places.proofs.First.{held_length}
use Rattle.card_moves.specs.Moves.{is_entry, entry_place}
use Rattle.card_moves.proofs.MovesLaws.{entry_inside}
use Rattle.card_moves.proofs.entry_place.Goals as goal
use Rattle.card_moves.proofs.entry_place.Goals.{After-first_in_use}

found : (c : After-first_in_use) → c.first_in_use.result ≡ entry_place c.args.c.now c.args.luid
found c = c.first_in_use.ensures.found (is_entry c.args.luid) (search rules)

pub returns : goal.returns
returns c = record {
  place = found c;
  inside = λ i e.
      let long : length c.args.c.now.places ≡ all_places = search (rules, held_length) in
      entry_inside c.args.c.now c.args.luid i long (sym (found c) ∙ e);
}
