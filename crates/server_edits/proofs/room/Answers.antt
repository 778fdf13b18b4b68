use Rattle.std.proofs.Common.{Option, Some, None, IfSome, ◌≡◌, ◌<◌, ℕ, arith, sym}
use Rattle.places.specs.Set.{all_places, lowest_free}
use Rattle.places.proofs.Bits.{lowest_at}
use Rattle.server_edits.proofs.room.Goals as goal

pub returns-clause-inside : goal.returns-clause-inside
returns-clause-inside c = go c.lowest_free.result (sym c.lowest_free.ensures)
  where
    go : (o : Option ℕ) → lowest_free c.args.records.now.used ≡ o → IfSome o (λ i. (i < all_places) × (c.args.records.now.guid < 65535))
    go None e = tt
    go (Some i) e = ((lowest_at _ i e).0, omega arith)
