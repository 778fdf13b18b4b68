use Rattle.listing.specs.Listing.{listing}
use mathlib.Core.List.{[]}
use Rattle.listing.proofs.Making.{Making}
use Rattle.server_offers.specs.Offer.{command}
use Rattle.server_offers.proofs.commands_of.Given as goal

abbrev pub invariant-loop-o : goal.invariant-loop-o
invariant-loop-o l = Making command l.offers (listing []) l.o-index l.list
