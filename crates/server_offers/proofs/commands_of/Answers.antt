use mathlib.Core.Path.{sym, ◌∙◌, subst}
use mathlib.Core.List.{[]}
use native.Mathlib.Omega.{arith}
use Rattle.listing.specs.declared.Listing.{Listing}
use Rattle.listing.specs.Listing.{listing}
use Rattle.listing.proofs.ListingLaws.{listing_holds}
use Rattle.listing.proofs.Making.{Making, making_none, making_count, making_turn, making_all}
use Rattle.server_offers.specs.Offer.{command}
use Rattle.server_offers.proofs.commands_of.Goals as goal

pub loop-o-init : goal.loop-o-init
loop-o-init c = subst (λ (l : Listing). Making command c.args.offers.now (listing []) 0 l) (sym c.none-list.ensures) (making_none (omega arith))

pub push-requires : goal.push-requires
push-requires c = omega (arith, making_count c.loop-o.invariant)

pub loop-o-preserved : goal.loop-o-preserved
loop-o-preserved c = making_turn c.loop-o.invariant _ c.loop-o-test.true c.command_of.ensures c.push.ensures

pub returns : goal.returns
returns c = making_all c.loop-o.invariant c.loop-o-test.false ∙ listing_holds _
