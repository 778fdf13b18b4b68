-- What the code finds in slots, beside what the definitions say of them.
use Rattle.std.specs.Prelude.{ℕ, ◌+◌, Option, None, Some, Result, Ok, Err}
use Rattle.lilmorask_store.specs.declared.Fault.{Fault}
use Rattle.lilmorask_store.specs.declared.Stored.{Stored}
use Rattle.lilmorask_store.specs.Slot.{Slot, slot_tail}
use Rattle.lilmorask_store.specs.Store.{spent, no_image, damaged, Newest, Next}

abbrev pub number_of : Fault → ℕ
number_of Fault.Spent = spent
number_of Fault.NoImage = no_image
number_of Fault.Damaged = damaged

abbrev pub number_in : Result Unit Fault → ℕ
number_in (Ok u) = 0
number_in (Err f) = number_of f

-- a slot: none where it is off
abbrev pub slot_found : Slot → Result (Option ℕ) Fault
slot_found Slot.Off = Ok None
slot_found (Slot.Whole g) = Ok (Some g)
slot_found Slot.Damaged = Err Fault.Damaged

-- the newest of two slots of images of m bytes: none where nothing is stored
abbrev pub newest_found : ℕ → Newest → Result (Option Stored) Fault
newest_found m Newest.Nothing = Ok None
newest_found m (Newest.First g) = Ok (Some (record { at = 0; generation = g }))
newest_found m (Newest.Second h) = Ok (Some (record { at = m + slot_tail; generation = h }))
newest_found m Newest.Damaged = Err Fault.Damaged

-- where the next image goes
abbrev pub next_as : Result Stored Fault → Next
next_as (Ok x) = Next.At x.at x.generation
next_as (Err f) = Next.Refused (number_of f)

-- a seal: its number, and what is told, t where nothing is
abbrev pub seal_number : Result ℕ Fault → ℕ
seal_number (Ok p) = 0
seal_number (Err f) = number_of f

abbrev pub seal_told : Result ℕ Fault → ℕ → ℕ
seal_told (Ok p) t = p
seal_told (Err f) t = t
