-- A record put, changed or freed keeps the server's table well-formed and its LUIDs once. Assumes nothing.
use Rattle.std.proofs.Common.{Option, Some, None}
use Prim.Native.Nat.{ℕ, ◌+◌, ◌<◌}
use mathlib.Core.Path.{◌≡◌, refl, sym, ap, ◌∙◌}
use mathlib.Core.Logic.{◌⊎◌, ⊎_elim}
use mathlib.Core.Bool.{Bool, true, false, not, ◌&&◌, ◌||◌}
use native.Mathlib.Omega.{arith}
use lib.Dec.{eqb}
use lib.ListN.{get_or, set}
use borrow.Author.Tests.{eqb-true, eq-eqb, ne_eqb}
use Rattle.places.specs.Set.{all_places, in_use, with_place}
use Rattle.places.proofs.TableLaws.{sound_new, each_new}
use Rattle.places.proofs.Choice.{and_first, and_second, and_chosen}
use Rattle.terms.specs.declared.Luid.{Luid}
use Rattle.records.specs.declared.Record.{Record}
use Rattle.records.specs.declared.Records.{Records}
use Rattle.records.specs.Server.{no_record, guid_of, FineRecord, WellFormed}
use Rattle.places.specs.Act.{Table, Slot, free, holds, put_at, act, each}
use Rattle.places.proofs.KeptLaws.{Hit, act_keeps, each_keeps, find_nothing, SameNumber, Holds, sound_put, each_put, free_clash, put_clash}
use Rattle.record_moves.specs.Named.{Named}
use Rattle.record_moves.specs.Named.{table_of, with_table, is_paired, has_luid, has_guid, is_named, place_of, is_nothing, may_have, LuidsOnce, Safe}

abbrev clash : Record → Record → Bool
clash x y = has_luid x.pairing.luid y

paired_false : (n : ℕ) → n ≡ 0 → not (eqb n 0) ≡ false
paired_false n e = ap not (eq-eqb n 0 e)

flip : (x y : Record) → clash x y ≡ true → clash y x ≡ true
flip x y e =
    let same : y.pairing.luid.0 ≡ x.pairing.luid.0 = eqb-true _ _ (and_second (is_paired y) (eqb y.pairing.luid.0 x.pairing.luid.0) e) in
    let p : is_paired x ≡ true = ap (λ (n : ℕ). not (eqb n 0)) (sym same) ∙ and_first (is_paired y) (eqb y.pairing.luid.0 x.pairing.luid.0) e in
    and_chosen (is_paired x) (eqb x.pairing.luid.0 y.pairing.luid.0) p ∙ eq-eqb _ _ (sym same)

-- ---- a record that clashes with no other
module _ (s : Records) (i : ℕ) (y : Record) where
  abbrev pub AloneIn : Type 0
  AloneIn = (j : ℕ) → (j ≡ i → ⊥) → in_use s.used j ≡ true → has_luid y.pairing.luid (get_or s.places j no_record) ≡ false

  false_if : (a : Bool) → (a ≡ true → ⊥) → a ≡ false
  false_if true h = absurd (h refl)
  false_if false h = refl

  -- it keeps the LUID of the record before it
  pub alone_same : LuidsOnce s → in_use s.used i ≡ true → y.pairing.luid ≡ (get_or s.places i no_record).pairing.luid → AloneIn
  alone_same h u e j ne v = false_if _ (λ (q : has_luid y.pairing.luid (get_or s.places j no_record) ≡ true). ne (sym (h i j u v (ap (λ (l : Luid). has_luid l (get_or s.places j no_record)) (sym e) ∙ q))))

  -- it has none
  pub alone_none : y.pairing.luid.0 ≡ 0 → AloneIn
  alone_none e j ne v =
      false_if _
      (λ (q : has_luid y.pairing.luid (get_or s.places j no_record) ≡ true).
      let x = get_or s.places j no_record in
      let zero : x.pairing.luid.0 ≡ 0 = eqb-true _ _ (and_second (is_paired x) (eqb x.pairing.luid.0 y.pairing.luid.0) q) ∙ e in
      let w : false ≡ true = sym (paired_false _ zero) ∙ and_first (is_paired x) (eqb x.pairing.luid.0 y.pairing.luid.0) q in
      let z : ◌≡◌ {A = ℕ} 0 1 = cc in omega arith)

  -- no record has its LUID
  pub alone_new : place_of s (Named.ByLuid y.pairing.luid) ≡ None → AloneIn
  alone_new e j ne v = find_nothing no_record (is_named (Named.ByLuid y.pairing.luid)) refl (table_of s) e j v

  nothing : (r : Option ℕ) → is_nothing r ≡ true → r ≡ None
  nothing None e = refl
  nothing (Some k) e = let w : false ≡ true = e in cc

  -- it may have its LUID: no record with another GUID has it
  pub alone_given : WellFormed s → in_use s.used i ≡ true → may_have y.pairing.luid (get_or s.places i no_record) s ≡ true → AloneIn
  unfolding may_have
  alone_given w u e j ne v =
      let x = get_or s.places i no_record in
      let z = get_or s.places j no_record in
      let l = y.pairing.luid in
      let none : place_of s (Named.Elsewhere x.guid l) ≡ None = nothing _ (and_second (not (is_paired x) || has_luid l x) (is_nothing (place_of s (Named.Elsewhere x.guid l))) e) in
      let miss : (has_luid l z && not (has_guid x.guid z)) ≡ false = find_nothing no_record (is_named (Named.Elsewhere x.guid l)) refl (table_of s) none j v in
      let else : has_guid x.guid z ≡ false = ne_eqb _ _ (λ q. ne (w.guids.apart j i v u q)) in
      drop_true (has_luid l z) (has_guid x.guid z) else miss
    where
      drop_true : (a b : Bool) → b ≡ false → (a && not b) ≡ false → a ≡ false
      drop_true true b p q = sym (ap not p) ∙ q
      drop_true false b p q = refl

-- ---- a table with place i changed
module _ (s : Records) (i : ℕ) (h : Safe s) where
  module _ (inside : i < all_places) (u : in_use s.used i ≡ true) where
    formed_put : (z : Slot Record) → SameNumber guid_of (get_or s.places i no_record) z → Holds FineRecord z → WellFormed (with_table s (put_at (table_of s) i z))
    formed_put z e f =
        record {
          guids = sound_put guid_of no_record s.guid (table_of s) i inside u z e h.formed.guids;
          records = each_put guid_of no_record s.guid FineRecord (table_of s) i inside u z f h.formed.guids h.formed.records;
        }

    pub safe_free : Safe (with_table s (put_at (table_of s) i free))
    safe_free = record { formed = formed_put free tt tt; once = free_clash no_record clash flip (table_of s) i h.once }

    pub safe_put : (y : Record) → y.guid ≡ (get_or s.places i no_record).guid → FineRecord y → AloneIn s i y → Safe (with_table s (put_at (table_of s) i (holds y)))
    safe_put y e f a =
        record {
          formed = formed_put (holds y) (ap (λ (g : _). g.0) e) f;
          once = put_clash no_record clash flip (table_of s) i (omega (arith, h.formed.guids.long)) y a h.once;
        }

  -- ---- a new record with the next GUID, in a free place
  pub safe_new : i < all_places → in_use s.used i ≡ false → (y : Record) → y.guid.0 ≡ s.guid + 1 → FineRecord y → AloneIn s i y
      → Safe (record { used = with_place s.used i; places = set s.places i y; guid = s.guid + 1 })
  safe_new inside o y e f a =
      record {
        formed =
            record {
              guids = sound_new guid_of no_record s.used s.places s.guid h.formed.guids i inside y o e;
              records = each_new guid_of no_record s.used s.places s.guid h.formed.guids i inside y o e FineRecord FineRecord (λ z p. p) f h.formed.records;
            };
        once = put_clash no_record clash flip (table_of s) i (omega (arith, h.formed.guids.long)) y a h.once;
      }

-- ---- steps that keep each record's GUID, wording and LUID, or lose the LUID, or free the place
-- a record as a step leaves it: the GUID stays, the wording is fine, and the LUID stays or is lost
pub record Mild (x y : Record) : Type 0 where
  pub guid : y.guid ≡ x.guid
  pub fine : FineRecord x → FineRecord y
  pub luid : (y.pairing.luid ≡ x.pairing.luid) ⊎ (y.pairing.luid.0 ≡ 0)

abbrev pub MildSlot : Record → Slot Record → Type 0
MildSlot x free = Unit {0}
MildSlot x (holds y) = Mild x y

-- one place becomes such a one
pub mild_at : (s : Records) (i : ℕ) → Safe s → i < all_places → in_use s.used i ≡ true → (z : Slot Record) → MildSlot (get_or s.places i no_record) z → Safe (with_table s (put_at (table_of s) i z))
mild_at s i h inside u free m = safe_free s i h inside u
mild_at s i h inside u (holds y) m =
    safe_put s i h inside u y m.guid (m.fine (h.formed.records i u)) (⊎_elim (alone_same s i y h.once u) (alone_none s i y) m.luid)

module _ (s : Records) (q : Record → Bool) (f : Record → Slot Record) (mild : (x : Record) → q x ≡ true → MildSlot x (f x)) where
  mild_put : (t : Table Record) (i : ℕ) → Hit no_record q t i → Safe (with_table s t) → Safe (with_table s (put_at t i (f (get_or t.places i no_record))))
  mild_put t i w h = mild_at (with_table s t) i h (omega (arith, w.inside, h.formed.guids.long)) w.used (f (get_or t.places i no_record)) (mild (get_or t.places i no_record) w.passes)

  pub act_safe : Safe s → Safe (with_table s (act no_record q f (table_of s)))
  act_safe h = act_keeps no_record q f (λ (t : Table Record). Safe (with_table s t)) mild_put (table_of s) h

  pub each_safe : Safe s → Safe (with_table s (each no_record q f (table_of s)))
  each_safe h = each_keeps no_record q f (λ (t : Table Record). Safe (with_table s t)) mild_put (λ t w. w.formed.guids.long) (table_of s) h
