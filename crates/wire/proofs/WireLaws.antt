-- What a side's answer leaves, from what the call for it has left. Assumes nothing.
use Prim.Native.Nat.{ℕ, min}
use mathlib.Core.Path.{◌≡◌, refl, ap, ◌∙◌}
use mathlib.Core.List.{List, [], ◌∷◌, ◌++◌}
use lib.ListN.{length, take, drop}
use lib.Seq.{sets}
use Rattle.calls.specs.Reply.{Reply}
use Rattle.calls.specs.After.{After, after}
use Rattle.answers.specs.Said.{Said}
use Rattle.desk.specs.declared.Wire.{Wire}
use Rattle.desk.specs.declared.Desk.{Desk}
use Rattle.desk.specs.Desk.{saying}
use Rattle.desk.specs.Lent.{within}
use Rattle.desk.proofs.LentLaws.{lent_as}
use Rattle.wire.specs.Wire.{Moved, moved, lent_for, sent}

-- a side was called, and so much of the output lent as the wire and the output have room for; m is what its answer leaves
pub called_as : {S : Type 0} (from : After S → Moved) (call : List ℕ → After S) (d : Desk) (w o : List ℕ) {n : ℕ} {r : Reply} {s : S} {p : List ℕ} {m : Moved}
    → n ≡ min (lent_for d w) (length o) → after r s p ≡ call (take n o) → m ≡ from (after r s (p ++ drop n o)) → m ≡ from (within call (lent_for d w) o)
called_as from call d w o e h i = i ∙ ap from (lent_as (lent_for d w) o e call h)

nothing_on : (w o : List ℕ) → w ≡ sets w 0 (take 0 o)
nothing_on w [] = refl
nothing_on w (x ∷ o) = refl

-- `next` is the desk with that side, for what is on the wire; `to` the wire with a message for the other side
module _ (next : Wire → Desk) (to : ℕ → Wire) (before : Wire) (w o : List ℕ) where
  pub sent_as : {r : Reply} {n : ℕ} {w' : List ℕ} → r ≡ Reply.Written n → w' ≡ sets w 0 (take n o) → moved (saying (next (to n)) (Said.Standing n)) w' o ≡ sent next to before w r o
  sent_as e h = rw (e, h)

  pub done_as : {r : Reply} → r ≡ Reply.Done → moved (saying (next Wire.Empty) Said.Done) w o ≡ sent next to before w r o
  done_as e = rw e (ap (λ (l : List ℕ). moved (saying (next Wire.Empty) Said.Done) l o) (nothing_on w o))

  pub refused_as : {r : Reply} {t : Said} (k : ℕ) → r ≡ Reply.Refused k → t ≡ Said.Refused k → moved (saying (next before) t) w o ≡ sent next to before w r o
  refused_as k e h = rw (e, h) (ap (λ (l : List ℕ). moved (saying (next before) (Said.Refused k)) l o) (nothing_on w o))
