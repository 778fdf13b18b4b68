-- What the place of a record that is meant tells, and what a rule does to the record there or to each. Assumes nothing.
use Rattle.std.proofs.Common.{Option, Some}
use Prim.Native.Nat.{ℕ, ◌+◌, ◌-◌, ◌<◌, ◌≤◌}
use mathlib.Core.Path.{◌≡◌, ap}
use mathlib.Core.Bool.{Bool, true, false}
use native.Mathlib.Omega.{arith}
use lib.ListN.{length, get_or}
use Rattle.places.specs.Set.{all_places, in_use}
use Rattle.records.specs.declared.Record.{Record}
use Rattle.records.specs.declared.Records.{Records}
use Rattle.records.specs.Server.{no_record}
use Rattle.places.specs.Act.{Slot, hit, put_at, act, act_at, each_from}
use Rattle.places.proofs.Turns.{each_hit, each_miss, each_end}
use Rattle.places.proofs.KeptLaws.{find_hit}
use Rattle.record_moves.specs.Named.{Named}
use Rattle.record_moves.specs.Named.{table_of, with_table, is_named, place_of}

-- it is one of the 32, in use, and holds the record that is meant
pub record Place (s : Records) (n : Named) (i : ℕ) : Type 0 where
  pub inside : i < all_places
  pub used : in_use s.used i ≡ true
  pub named : is_named n (get_or s.places i no_record) ≡ true

pub place_at : (s : Records) (n : Named) (i : ℕ) → length s.places ≡ all_places → place_of s n ≡ Some i → Place s n i
place_at s n i long e = let h = find_hit no_record (is_named n) (table_of s) i e in record { inside = omega (arith, h.inside); used = h.used; named = h.passes }

pub place_inside : (s : Records) (n : Named) (i : ℕ) → length s.places ≡ all_places → place_of s n ≡ Some i → i < all_places
place_inside s n i long e = (place_at s n i long e).inside

-- what a rule does to the record that it names, by the place that was found
pub acted : (s : Records) (n : Named) (f : Record → Slot Record) (w : Option ℕ) → place_of s n ≡ w
    → with_table s (act no_record (is_named n) f (table_of s)) ≡ with_table s (act_at no_record f (table_of s) w)
unfolding act
acted s n f w e = ap (λ (v : Option ℕ). with_table s (act_at no_record f (table_of s) v)) e

-- ---- a loop that goes through the 32 places, and what each record that passes the test becomes
module _ (q : Record → Bool) (f : Record → Slot Record) where
  -- the table after the places from i on
  abbrev pub each_of : ℕ → Records → Records
  each_of i s = with_table s (each_from no_record q f i (all_places - i) (table_of s))

  module _ (s : Records) (i : ℕ) where
    pub each_passes : i < all_places → hit s.used q i (get_or s.places i no_record) ≡ true
        → each_of (i + 1) (with_table s (put_at (table_of s) i (f (get_or s.places i no_record)))) ≡ each_of i s
    each_passes h e = ap (with_table s) (each_hit no_record q f all_places i (table_of s) h e)

    pub each_stays : i < all_places → hit s.used q i (get_or s.places i no_record) ≡ false → each_of (i + 1) s ≡ each_of i s
    each_stays h e = ap (with_table s) (each_miss no_record q f all_places i (table_of s) h e)

    pub each_done : all_places ≤ i → each_of i s ≡ s
    each_done h = ap (with_table s) (each_end no_record q f all_places i (table_of s) h)
