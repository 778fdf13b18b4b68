use mathlib.Core.Path.{◌≡◌, ap, ◌∙◌}
use mathlib.Core.List.{[], ◌++◌, append_assoc}
use native.Mathlib.Omega.{arith}
use lib.ListN.{length-append}
use Rattle.listing.specs.Listing.{listing}
use Rattle.listing.proofs.ListingLaws.{counted, lists_more}
use Rattle.statuses.specs.declared.Name.{Name}
use Rattle.server_offers.specs.Offer.{offers_of, offers}
use Rattle.server_offers.proofs.OfferLaws.{three_most}
use Rattle.server_offers.proofs.offers_of.Goals as goal
use Rattle.server_offers.proofs.offers_of.Goals.{After-push_offers}

-- the list after the first
one : (c : After-push_offers) → c.push_offers.new.list ≡ listing (offers_of Name.Delete c.args.s.now)
one c = lists_more [] (offers_of Name.Delete c.args.s.now) c.none-list.result c.push_offers.new.list c.none-list.ensures c.push_offers.ensures

pub push_offers-requires : goal.push_offers-requires
push_offers-requires c = λ long. omega (arith, three_most c.args.s.now long, ap counted c.none-list.ensures)

pub push_offers-requires-2 : goal.push_offers-requires-2
push_offers-requires-2 c = λ long. omega (arith, three_most c.args.s.now long, ap counted (one (goal.at.push_offers-requires-2 c).After-push_offers))

pub push_offers-requires-3 : goal.push_offers-requires-3
push_offers-requires-3 c =
    let s = c.args.s.now in
    let deletes = offers_of Name.Delete s in
    let replaces = offers_of Name.Replace s in
    let two = lists_more deletes replaces c.push_offers.new.list c.push_offers-2.new.list (one (goal.at.push_offers-requires-3 c).After-push_offers) c.push_offers-2.ensures in
    λ long. omega (arith, three_most s long, ap counted two, length-append deletes replaces)

pub returns : goal.returns
unfolding offers
returns c =
    let s = c.args.s.now in
    let deletes = offers_of Name.Delete s in
    let replaces = offers_of Name.Replace s in
    let adds = offers_of Name.Add s in
    let two = lists_more deletes replaces c.push_offers.new.list c.push_offers-2.new.list (one (goal.at.returns c).After-push_offers) c.push_offers-2.ensures in
    lists_more (deletes ++ replaces) adds c.push_offers-2.new.list c.push_offers-3.new.list two c.push_offers-3.ensures ∙ ap listing (append_assoc deletes replaces adds)
