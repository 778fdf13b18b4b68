-- A record that has a LUID: what its number is, which LUIDs it has, and which other record has them too. Assumes nothing.
use Prim.Native.Nat.{ℕ, ◌≤◌}
use mathlib.Core.Path.{◌≡◌, refl, sym, ap, ◌∙◌, subst}
use mathlib.Core.Bool.{true, not, ◌&&◌}
use native.Mathlib.Omega.{arith}
use lib.Dec.{eqb}
use borrow.Author.Tests.{eqb-true, eq-eqb, ne_eqb}
use Rattle.places.proofs.Choice.{and_first, and_second, and_both}
use Rattle.terms.specs.declared.Luid.{Luid}
use Rattle.terms.specs.declared.Guid.{Guid}
use Rattle.terms.specs.Number.{luid, guid}
use Rattle.records.specs.declared.Record.{Record}
use Rattle.record_moves.specs.Named.{is_paired, has_luid}

-- a number tells LUID and GUID
pub luid_is : (l k : Luid) → l.0 ≡ k.0 → l ≡ k
luid_is l k e = ap luid e

pub guid_is : (g h : Guid) → g.0 ≡ h.0 → g ≡ h
guid_is g h e = ap guid e

module _ (l : Luid) (y : Record) where
  pub has_paired : has_luid l y ≡ true → is_paired y ≡ true
  has_paired h = and_first (is_paired y) (eqb y.pairing.luid.0 l.0) h

  pub has_number_lem : has_luid l y ≡ true → y.pairing.luid.0 ≡ l.0
  has_number_lem h = eqb-true y.pairing.luid.0 l.0 (and_second (is_paired y) (eqb y.pairing.luid.0 l.0) h)

  pub has_luid_lem : is_paired y ≡ true → y.pairing.luid.0 ≡ l.0 → has_luid l y ≡ true
  has_luid_lem p e = and_both (is_paired y) (eqb y.pairing.luid.0 l.0) p (eq-eqb y.pairing.luid.0 l.0 e)

  -- the same number under another name
  pub has_as : (k : Luid) → k.0 ≡ l.0 → has_luid l y ≡ true → has_luid k y ≡ true
  has_as k e h = subst (λ (n : ℕ). (is_paired y && eqb y.pairing.luid.0 n) ≡ true) (sym e) h

  -- a record with the same LUID
  pub has_too : (v : Record) → v.pairing.luid ≡ y.pairing.luid → has_luid l y ≡ true → has_luid l v ≡ true
  has_too v e h = subst (λ (k : Luid). (not (eqb k.0 0) && eqb k.0 l.0) ≡ true) (sym e) h

-- two LUIDs that one record has
pub has_same : (l k : Luid) (y : Record) → has_luid l y ≡ true → has_luid k y ≡ true → l.0 ≡ k.0
has_same l k y a b = sym (has_number_lem l y a) ∙ has_number_lem k y b

-- a record that is given a LUID has it
pub has_own : (l : Luid) → 1 ≤ l.0 → (not (eqb l.0 0) && eqb l.0 l.0) ≡ true
has_own l h = and_both (not (eqb l.0 0)) (eqb l.0 l.0) (ap not (ne_eqb l.0 0 (λ e. omega arith))) (eq-eqb l.0 l.0 refl)
