-- What becomes of a place, as code says it and as definitions do. Assumes nothing.
use Rattle.std.proofs.Common.{Option, Some, None, ◌≡◌, refl, sym, ap, ◌∙◌}
use Prim.Native.Nat.{ℕ}
use mathlib.Core.Bool.{Bool, true, false, cond}
use mathlib.Core.List.{List}
use lib.ListN.{get_or, set}
use lib.Seq.{set-get_or}
use Rattle.places.specs.Set.{with_place, without_place}
use Rattle.places.specs.Act.{Table, Slot, free, holds, slot, put_at}

abbrev pub kept : {A : Type 0} → Slot A → Option A
kept free = None
kept (holds x) = Some x

pub slot_kept : {A : Type 0} (s : Slot A) → slot (kept s) ≡ s
slot_kept free = refl
slot_kept (holds x) = refl

own : {A : Type 0} (o : Option A) → kept (slot o) ≡ o
own None = refl
own (Some x) = refl

pub kept_slot : {A : Type 0} (o : Option A) (s : Slot A) → slot o ≡ s → o ≡ kept s
kept_slot o s e = sym (own o) ∙ ap kept e

-- ---- as two things: whether a place is free, and what stands in it then; a free place keeps what stood in it, which nobody looks at
abbrev pub frees : {A : Type 0} → Slot A → Bool
frees free = true
frees (holds y) = false

abbrev pub stands : {A : Type 0} → A → Slot A → A
stands x free = x
stands x (holds y) = y

-- a place put by its two parts is the place put
pub by_parts : {A : Type 0} (t : Table A) (i : ℕ) (d : A) (s : Slot A) → record { used = cond (frees s) (without_place t.used i) (with_place t.used i); places = set t.places i (stands (get_or t.places i d) s) } ≡ put_at t i s
by_parts {A} t i d free = ap (λ (l : List A). record { used = without_place t.used i; places = l }) (set-get_or t.places i d)
by_parts t i d (holds y) = refl
