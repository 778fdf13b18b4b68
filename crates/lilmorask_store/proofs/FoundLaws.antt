-- What the code finds in slots tells what the definitions say of them.
-- Assumes nothing.
use Rattle.std.proofs.Common.{None, Some, Ok, Err}
use Prim.Native.Nat.{ℕ}
use mathlib.Core.Path.{◌≡◌, refl}
use Rattle.lilmorask_store.specs.declared.Fault.{Fault}
use Rattle.lilmorask_store.specs.Slot.{Slot}
use Rattle.lilmorask_store.specs.Found.{slot_found}

-- a slot from what was found of it
pub off_is : (a : Slot) → Ok None ≡ slot_found a → a ≡ Slot.Off
off_is Slot.Off e = refl
off_is (Slot.Whole g) e = cc
off_is Slot.Damaged e = cc

pub whole_is : (a : Slot) (g : ℕ) → Ok (Some g) ≡ slot_found a → a ≡ Slot.Whole g
whole_is Slot.Off g e = cc
whole_is (Slot.Whole h) g e = cc
whole_is Slot.Damaged g e = cc

pub damaged_is : (a : Slot) (f : Fault) → Err f ≡ slot_found a → (a ≡ Slot.Damaged) × (f ≡ Fault.Damaged)
damaged_is Slot.Off f e = cc
damaged_is (Slot.Whole h) f e = cc
damaged_is Slot.Damaged f e = (refl, cc)
