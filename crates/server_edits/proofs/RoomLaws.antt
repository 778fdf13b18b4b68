-- What the place of a new record tells. Assumes nothing.
use Rattle.std.proofs.Common.{Some, None}
use Prim.Native.Nat.{ℕ, ◌<◌}
use mathlib.Core.Path.{◌≡◌, refl}
use mathlib.Core.Bool.{Bool, true, false, cond}
use native.Mathlib.Omega.{arith}
use lib.Dec.{leb}
use borrow.Author.Tests.{leb-false}
use Rattle.places.specs.Set.{all_places, in_use, lowest_free}
use Rattle.places.proofs.Bits.{lowest_at}
use Rattle.records.specs.declared.Records.{Records}
use Rattle.server_edits.specs.Edit.{room_for}

pub record Room (c : Records) (i : ℕ) : Type 0 where
  pub inside : i < all_places
  pub free : in_use c.used i ≡ false
  pub guid : c.guid < 65535

pub room_at : (c : Records) (i : ℕ) → room_for c ≡ Some i → Room c i
unfolding room_for
room_at c i e = go (leb 65535 c.guid) refl e
  where
    go : (a : Bool) → leb 65535 c.guid ≡ a → cond a None (lowest_free c.used) ≡ Some i → Room c i
    go true h q = let z : ◌≡◌ {A = ℕ} 0 1 = cc in absurd (omega arith)
    go false h q = let l = lowest_at c.used i q in record { inside = l.0; free = l.1; guid = leb-false 65535 c.guid h }
