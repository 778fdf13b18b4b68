-- Bytes stored at a place: they stand there, and what stands elsewhere stays.
-- Assumes nothing.
use Prim.Native.Nat.{ℕ, suc, ◌+◌, ◌-◌, ◌≤◌}
use mathlib.Core.Path.{◌≡◌, refl, sym, ap, ap₂, ◌∙◌}
use mathlib.Core.List.{List, [], ◌∷◌, ◌++◌, append_assoc}
use lib.ListN.{length, take, drop, set, length-drop, take-append-drop}
use lib.Seq.{sets, sets-eq, length-sets, take-set-le, drop-set-lt, take_at, drop_at, length-take-le, drop-drop}
use native.Mathlib.Omega.{arith}
use Rattle.token.specs.Put.{Put}

-- in front of them, and after them
pub take_stored : (n : ℕ) (l : List ℕ) (i : ℕ) (w : List ℕ) → n ≤ i → take n (sets l i w) ≡ take n l
take_stored n l i [] h = refl
take_stored n l i (a ∷ w) h = take_stored n (set l i a) (suc i) w (omega arith) ∙ take-set-le n l i a h

pub drop_stored : (n : ℕ) (l : List ℕ) (i : ℕ) (w : List ℕ) → i + length w ≤ n → drop n (sets l i w) ≡ drop n l
drop_stored n l i [] h = refl
drop_stored n l i (a ∷ w) h = drop_stored n (set l i a) (suc i) w (omega arith) ∙ drop-set-lt n l i a (omega arith)

-- where they are
pub stored_there : (l : List ℕ) (i : ℕ) (w : List ℕ) → i + length w ≤ length l → take (length w) (drop i (sets l i w)) ≡ w
stored_there l i w h =
    let split : sets l i w ≡ take i l ++ (w ++ drop (i + length w) l) = sets-eq w l i h ∙ append_assoc (take i l) w (drop (i + length w) l) in
    ap (λ (x : List ℕ). take (length w) (drop i x)) split
    ∙ ap (take (length w)) (drop_at (take i l) (w ++ drop (i + length w) l) i (length-take-le i l (omega arith)))
    ∙ take_at w (drop (i + length w) l) (length w) refl

-- what is stored over others, as long as they are, is all that is left of them
pub stored_over : (l : List ℕ) (i : ℕ) (v w : List ℕ) → length v ≡ length w → i + length w ≤ length l → sets (sets l i v) i w ≡ sets l i w
stored_over l i v w e h =
    let long = length-sets l i v in
    sets-eq w (sets l i v) i (omega (arith, long))
    ∙ ap₂ (λ (x y : List ℕ). x ++ w ++ y) (take_stored i l i v (omega arith)) (drop_stored (i + length w) l i v (omega arith))
    ∙ sym (sets-eq w l i h)

-- what stands there already
pub stored_same : (l : List ℕ) (i n : ℕ) → i + n ≤ length l → sets l i (take n (drop i l)) ≡ l
stored_same l i n h =
    let w = take n (drop i l) in
    let long : length w ≡ n = length-take-le n (drop i l) (omega (arith, length-drop i l)) in
    sets-eq w l i (omega (arith, long))
    ∙ append_assoc (take i l) w (drop (i + length w) l)
    ∙ ap (λ (x : List ℕ). take i l ++ (w ++ x)) (ap (λ (k : ℕ). drop (i + k) l) long ∙ sym (drop-drop n i l))
    ∙ ap (λ (x : List ℕ). take i l ++ x) (take-append-drop n (drop i l))
    ∙ take-append-drop i l

-- what was put stands between the places before and after it
pub put_there : {a b : List ℕ} {at q : ℕ} {w : List ℕ} → at + length w ≤ length a → Put a b at q w → take (q - at) (drop at b) ≡ w
put_there {a} {b} {at} {q} {w} h x =
    let long : q - at ≡ length w = omega (arith, x.place) in
    ap₂ (λ (k : ℕ) (l : List ℕ). take k (drop at l)) long x.bytes ∙ stored_there a at w h
