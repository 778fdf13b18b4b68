-- The LUID of a command, out of what the code keeps of a message.
-- Assumes nothing.
use Prim.Native.Nat.{ℕ, zero, suc, ◌-◌, ◌≤◌}
use mathlib.Core.Path.{◌≡◌, refl, sym, ap}
use mathlib.Core.List.{List, [], ◌∷◌, map}
use native.Mathlib.Omega.{arith}
use lib.ListN.{length, take, get_or, replicate, length-append, length-take, length-replicate, get_or-eq_default}
use Rattle.token.specs.Ans.{Ans, got, bad}
use Rattle.lists.specs.declared.Entry.{Entry}
use Rattle.lists.specs.Lists.{kept_listed, blank_entry, by_itself, array}
use Rattle.message.specs.Message.{Message}
use Rattle.message.specs.declared.Content.{Content}
use Rattle.message.specs.Answer.{content_for, taken_as}
use Rattle.std.specs.Prelude.{Ok, Err}
use Rattle.token.specs.declared.Misread.{Misread}
use Rattle.measured.specs.Places.{luid_read, luid_in}

-- an array has no more than are kept
array_long : (xs : List Entry) → length (array xs) ≤ kept_listed
array_long xs =
    let first = take kept_listed xs in
    let rest = kept_listed - length first in
    let a = length-append first (replicate rest blank_entry) in
    let b = length-take kept_listed xs in
    let c = length-replicate rest blank_entry in
    omega (arith, a, b, c)

past : (xs : List Entry) (i : ℕ) → kept_listed ≤ i → 0 ≡ (get_or (array xs) i blank_entry).fields.luid.0
past xs i h = let k = array_long xs in sym (ap (λ (x : Entry). x.fields.luid.0) (get_or-eq_default (array xs) blank_entry {n = i} (omega arith)))

pub luid_past : (i : ℕ) (a : Ans Message) → kept_listed ≤ i → 0 ≡ luid_in i a
luid_past i (got m p) h = past (map by_itself m.commands) i h
luid_past i (bad k p) h = refl

pub luid_refused : (i : ℕ) (a : Ans Message) (m : Misread) → Err m ≡ taken_as a → 0 ≡ luid_in i a
luid_refused i (got n p) m e = cc
luid_refused i (bad k p) m e = refl

pub luid_got : (i : ℕ) (a : Ans Message) (c : Content) → Ok c ≡ taken_as a → luid_read i c ≡ luid_in i a
luid_got i (got m p) c e = let v : c ≡ content_for m = cc in ap (luid_read i) v
luid_got i (bad k p) c e = cc

-- which blank stands for what an array does not have is all the same
pub luid_blank : (xs : List Entry) (i : ℕ) (a b : Entry) → a.fields.luid.0 ≡ b.fields.luid.0 → (get_or xs i a).fields.luid.0 ≡ (get_or xs i b).fields.luid.0
luid_blank [] i a b e = e
luid_blank (x ∷ xs) zero a b e = refl
luid_blank (x ∷ xs) (suc i) a b e = luid_blank xs i a b e
