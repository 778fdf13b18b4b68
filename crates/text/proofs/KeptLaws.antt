-- A text that is kept, and the loops that fill it.
-- Assumes nothing.
use Prim.Native.Nat.{ℕ, suc, ◌+◌, ◌-◌, ◌≤◌, ◌<◌, min}
use mathlib.Core.Path.{◌≡◌, refl, sym, ap, ap₂, ◌∙◌}
use mathlib.Core.Bool.{Bool, true, false}
use mathlib.Core.List.{List, [], ◌∷◌, ◌++◌}
use native.Mathlib.Numerals.{add-one}
use native.Mathlib.Omega.{arith}
use lib.ListN.{length, get_or, take, set, replicate, length-take}
use lib.Seq.{take-suc, take_all, take-append_seam, set_at, length-take-le, append_snoc}
use lib.Dec.{leb}
use borrow.Author.Tests.{leb-true, leb-false}
use Rattle.text.specs.Text.{longest, kept, bytes_of}

-- the first i bytes of l, and zeros
abbrev pub filled : List ℕ → ℕ → List ℕ
filled l i = take i l ++ replicate (longest - i) 0

pub filled_step : (l : List ℕ) (i : ℕ) → i < length l → i < longest → set (filled l i) i (get_or l i 0) ≡ filled l (i + 1)
filled_step l i h k =
    let more : take (i + 1) l ≡ take i l ++ (get_or l i 0 ∷ []) = rw (add-one i) (take-suc l i 0 h) in
    let r : longest - i ≡ suc (longest - (i + 1)) = omega arith in
    rw r
    (set_at (take i l) 0 (replicate (longest - (i + 1)) 0) (get_or l i 0) i (length-take-le i l (omega arith))
    ∙ sym (ap (λ (m : List ℕ). m ++ replicate (longest - (i + 1)) 0) more ∙ append_snoc (take i l) (get_or l i 0) (replicate (longest - (i + 1)) 0)))

-- of m bytes all n fit, or as many as there is room for
pub by_room : {A : Type 0} (m n : ℕ) → n ≡ min m longest → (n ≡ m → m ≤ longest → A) → (n ≡ longest → longest < m → A) → A
by_room {A} m n e all some = go (leb m longest) refl
  where
    go : (b : Bool) → leb m longest ≡ b → A
    go true q = let h = leb-true m longest q in all (omega arith) h
    go false q = let h = leb-false m longest q in some (omega arith) h

-- as many bytes as there are and as fit
clip : (l : List ℕ) (n : ℕ) → n ≡ min (length l) longest → (take n l ≡ take longest l) × (n ≡ length (take longest l))
clip l n e =
    by_room (length l) n e
    (λ k h. (take_all n l (omega arith) ∙ sym (take_all longest l h), omega (arith, length-take longest l)))
    (λ k h. (ap (λ (m : ℕ). take m l) k, omega (arith, length-take longest l)))

-- a loop's result
pub filled_all : (l : List ℕ) (n : ℕ) → n ≡ min (length l) longest → record { len = n; bytes = filled l n } ≡ kept l
filled_all l n e =
    let c = clip l n e in
    ap₂ (λ (k : ℕ) (b : List ℕ). record { len = k; bytes = b }) c.1 (ap₂ (λ (x : List ℕ) (k : ℕ). x ++ replicate (longest - k) 0) c.0 c.1)

-- a text that fits is kept whole
pub kept_bytes : (l : List ℕ) → length l ≤ longest → bytes_of (kept l) ≡ l
kept_bytes l h = take-append_seam (take longest l) (replicate (longest - length (take longest l)) 0) ∙ take_all longest l h
