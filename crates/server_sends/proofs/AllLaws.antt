-- What holds of each record in use: a step that keeps it for the record that it changes keeps it for the table. Assumes nothing.
use Prim.Native.Nat.{ℕ, ◌+◌, ◌<◌, ◌≤◌}
use mathlib.Core.Path.{◌≡◌}
use mathlib.Core.Bool.{Bool, true}
use native.Mathlib.Omega.{arith}
use lib.ListN.{get_or, set}
use Rattle.places.specs.Set.{all_places, in_use, with_place}
use Rattle.places.proofs.TableLaws.{sound_new, each_new}
use Rattle.records.specs.declared.Record.{Record}
use Rattle.records.specs.declared.Records.{Records}
use Rattle.records.specs.Server.{no_record, guid_of}
use Rattle.places.specs.Act.{Slot, put_at, act, each}
use Rattle.places.proofs.KeptLaws.{Fine, SameNumber, Holds, sound_put, each_put, act_fine, each_fine}
use Rattle.record_moves.specs.Named.{table_of, with_table, Safe}
use Rattle.server_edits.proofs.RoomLaws.{Room}
use Rattle.server_sends.specs.InRange.{RecordInRange, RecordsInRange}

-- the table is sound, GUIDs were given to 65535 at most, and P holds of each record
pub record All (P : Record → Type 0) (c : Records) : Type 0 where
  pub fine : Fine guid_of no_record c.guid P (table_of c)
  pub guids : c.guid ≤ 65535

-- what becomes of a record: it keeps its GUID and what P says of it, or its place is freed
pub record Kept (P : Record → Type 0) (x : Record) (z : Slot Record) : Type 0 where
  pub same : SameNumber guid_of x z
  pub holds : P x → Holds P z

-- ---- servers in range, as such tables
pub all_of : (c : Records) → RecordsInRange c → All RecordInRange c
all_of c h = record { fine = record { sound = h.safe.formed.guids; each = h.each }; guids = h.guids }

pub in_range_lem : (c : Records) → Safe c → All RecordInRange c → RecordsInRange c
in_range_lem c s h = record { safe = s; guids = h.guids; each = h.fine.each }

module _ (P : Record → Type 0) (c : Records) (h : All P c) where
  -- ---- the record that a rule names, and each that passes a test
  module _ (q : Record → Bool) (f : Record → Slot Record) (kept : (x : Record) → Kept P x (f x)) where
    pub all_act : All P (with_table c (act no_record q f (table_of c)))
    all_act =
        record {
          fine = act_fine guid_of no_record c.guid P q f (record { same = λ x. (kept x).same; fine = λ x e p. (kept x).holds p }) (table_of c) h.fine;
          guids = h.guids;
        }

    pub all_each : All P (with_table c (each no_record q f (table_of c)))
    all_each =
        record {
          fine = each_fine guid_of no_record c.guid P q f (record { same = λ x. (kept x).same; fine = λ x e p. (kept x).holds p }) (table_of c) h.fine;
          guids = h.guids;
        }

  -- ---- the record in place i
  module _ (i : ℕ) where
    pub all_put : i < all_places → in_use c.used i ≡ true → (z : Slot Record) → Kept P (get_or c.places i no_record) z → All P (with_table c (put_at (table_of c) i z))
    all_put inside u z k =
        record {
          fine =
              record {
                sound = sound_put guid_of no_record c.guid (table_of c) i inside u z k.same h.fine.sound;
                each = each_put guid_of no_record c.guid P (table_of c) i inside u z (k.holds (h.fine.each i u)) h.fine.sound h.fine.each;
              };
          guids = h.guids;
        }

    -- a new record with the next GUID, where there is room
    pub all_new : Room c i → (y : Record) → guid_of y ≡ c.guid + 1 → P y → All P (record { used = with_place c.used i; places = set c.places i y; guid = c.guid + 1 })
    all_new r y e p =
        record {
          fine =
              record {
                sound = sound_new guid_of no_record c.used c.places c.guid h.fine.sound i r.inside y r.free e;
                each = each_new guid_of no_record c.used c.places c.guid h.fine.sound i r.inside y r.free e P P (λ z w. w) p h.fine.each;
              };
          guids = omega (arith, r.guid);
        }
