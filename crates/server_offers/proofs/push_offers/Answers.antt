use mathlib.Core.Path.{◌≡◌, ap, ◌∙◌}
use lib.ListN.{length}
use Rattle.places.specs.Set.{all_places}
use Rattle.places.proofs.First.{held_length}
use mathlib.Core.List.{List, ◌++◌}
use native.Mathlib.Omega.{arith}
use borrow.Author.Rules.{rules}
use Rattle.lists.specs.declared.Entry.{Entry}
use Rattle.listing.specs.Listing.{items_of, holding, by_guid}
use Rattle.records.specs.Server.{no_record}
use Rattle.server_offers.specs.Offer.{is_offered_as, offer, offers_of}
use Rattle.server_offers.proofs.push_offers.Goals as goal

pub push_all-requires-clause-room : goal.push_all-requires-clause-room
unfolding offers_of
push_all-requires-clause-room c =
    let name = c.args.name in
    let stands = c.row_of-row.ensures.stands no_record (is_offered_as name) by_guid (offer name) (search rules) (search rules) in
    let long : length c.args.s.now.places ≡ all_places = search (rules, held_length) in
    omega (arith, stands.count, c.requires long)

pub returns : goal.returns
unfolding offers_of
returns c =
    let name = c.args.name in
    let stands = c.row_of-row.ensures.stands no_record (is_offered_as name) by_guid (offer name) (search rules) (search rules) in
    c.push_all.ensures no_record (offer name) (search rules) ∙ ap (λ (xs : List Entry). holding (items_of c.args.list.now ++ xs) c.args.list.now) stands.made
