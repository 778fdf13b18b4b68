-- What the place of a new card tells. Assumes nothing.
use Rattle.std.proofs.Common.{Some, None}
use Prim.Native.Nat.{ℕ, ◌<◌}
use mathlib.Core.Path.{◌≡◌, refl}
use mathlib.Core.Bool.{Bool, true, false, cond, ◌||◌}
use native.Mathlib.Omega.{arith}
use lib.Dec.{eqb, leb}
use borrow.Author.Tests.{eqb-false, leb-false}
use Rattle.places.specs.Set.{all_places, in_use, lowest_free}
use Rattle.places.proofs.Bits.{lowest_at}
use Rattle.cards.specs.declared.Cards.{Cards}
use Rattle.press_edits.specs.Edit.{room_for, Left}

pub record Room (c : Cards) (i : ℕ) : Type 0 where
  pub inside : i < all_places
  pub free : in_use c.used i ≡ false
  pub luid : c.luid < 65535
  pub fp : c.fp ≡ 4294967295 → ⊥

pub room_at : (c : Cards) (i : ℕ) → room_for c ≡ Some i → Room c i
unfolding room_for
room_at c i e = go (leb 65535 c.luid) (eqb c.fp 4294967295) refl refl e
  where
    go : (a b : Bool) → leb 65535 c.luid ≡ a → eqb c.fp 4294967295 ≡ b → cond (a || b) None (lowest_free c.used) ≡ Some i → Room c i
    go true b ha hb q = let z : ◌≡◌ {A = ℕ} 0 1 = cc in absurd (omega arith)
    go false true ha hb q = let z : ◌≡◌ {A = ℕ} 0 1 = cc in absurd (omega arith)
    go false false ha hb q =
        let l = lowest_at c.used i q in
        record { inside = l.0; free = l.1; luid = leb-false 65535 c.luid ha; fp = eqb-false c.fp 4294967295 hb }

-- (a fingerprint has 32 bits)
pub left_at : (c : Cards) (i : ℕ) → c.fp < 4294967296 → room_for c ≡ Some i → Left c i
left_at c i top e = let r = room_at c i e in (r.inside, r.luid, omega (arith, top, r.fp))
