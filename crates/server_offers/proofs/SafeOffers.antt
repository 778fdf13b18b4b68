-- That all dirty become offered keeps the server's table safe. Assumes nothing.
use mathlib.Core.Path.{refl}
use mathlib.Core.Logic.{inl}
use Rattle.records.specs.declared.Records.{Records}
use Rattle.places.specs.Act.{holds}
use Rattle.record_moves.specs.Named.{Safe}
use Rattle.record_moves.proofs.SafeLaws.{each_safe}
use Rattle.server_offers.specs.Offer.{dirty_here, offered_now, offered}

pub offered_safe : (s : Records) → Safe s → Safe (offered s)
unfolding offered
offered_safe s h = each_safe s dirty_here (λ x. holds (offered_now x)) (λ x e. record { guid = refl; fine = λ p. p; luid = inl refl }) h
