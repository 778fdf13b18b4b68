-- A call on the image of a side, whichever side it is: what it leaves in the lent bytes, what it tells, and which side then stands there.
-- 10 where the lent bytes are no image; else what the call on the side gives, with the image of the side after it. Beside a refusal all stays.
use Rattle.std.specs.Prelude.{Option, None, Some}
use Rattle.std.specs.Prelude.{ℕ, ◌≡◌, cond, List, eqb, length}
use Rattle.calls.specs.Reply.{Reply}
use Rattle.calls.specs.Reply.{Written, Done, Refused}
use Rattle.calls.specs.After.{After}
use Rattle.image.specs.Keeping.{Keeping, standing}

abbrev pub no_image : ℕ
no_image = 10

-- ---- what a call makes of a side: done, with what it tells (a card's number, an answer's length) and the side after it; or refused
pub data Result (S : Type 0) : Type 0 where
  did : ℕ → S → Result S
  refused : ℕ → Result S

-- of a call that answers in a lent output
abbrev pub replied : {S : Type 0} → Reply → S → Result S
replied (Written n) p = did n p
replied Done p = did 0 p
replied (Refused n) p = refused n

-- where nothing is told
abbrev pub untold : {S : Type 0} → Result S → Result S
untold (did n p) = did 0 p
untold (refused n) = refused n

-- ---- the number that a call on an image gives back, the image after it, and what is told
pub record Left : Type 0 where
  pub number : ℕ
  pub image : List ℕ
  pub told : ℕ

abbrev pub left : ℕ → List ℕ → ℕ → Left
left n s t = record { number = n; image = s; told = t }

abbrev pub leaves : {S : Type 0} → Keeping S → Result S → List ℕ → ℕ → Left
leaves k (did n p) s t = left 0 (k.image_of p) n
leaves k (refused n) s t = left n s t

abbrev pub on_image : {S : Type 0} → Keeping S → (S → Result S) → Option S → List ℕ → ℕ → Left
on_image k f None s t = left no_image s t
on_image k f (Some p) s t = leaves k (f p) s t

-- ---- what then stands in the image: the side after the call, beside a refusal what stood there; what was no image is none
abbrev pub stands_for : {S : Type 0} → Result S → Option S → Option S
stands_for (did n p) x = Some p
stands_for (refused n) x = x

abbrev pub stands_after : {S : Type 0} → (S → Result S) → Option S → Option S
stands_after f None = None
stands_after f (Some p) = stands_for (f p) (Some p)

-- ---- a result r is kept in the image s, with t where it tells: n was given back, and s' and t' were left
abbrev pub Keeps : {S : Type 0} → Keeping S → Result S → List ℕ → ℕ → ℕ → List ℕ → ℕ → Type 0
Keeps k r s t n s' t' = (left n s' t' ≡ leaves k r s t) × (standing k s' ≡ stands_for r (standing k s))

-- a side is made fresh in lent bytes that are as many as an image has, with r for its result
abbrev pub MadeIn : {S : Type 0} → Keeping S → Result S → List ℕ → ℕ → List ℕ → Type 0
MadeIn k r s n s' =
    (left n s' 0 ≡ cond (eqb (length s) k.size) (leaves k r s 0) (left no_image s 0)) × (standing k s' ≡ cond (eqb (length s) k.size) (stands_for r (standing k s)) (standing k s))

-- whether bytes are an image
abbrev pub looked : {S : Type 0} → Option S → ℕ
looked None = no_image
looked (Some p) = 0

-- ---- the promise of a call f on the image s, with t where it tells: n was given back, and s' and t' were left
abbrev pub Calls : {S : Type 0} → Keeping S → (S → Result S) → List ℕ → ℕ → ℕ → List ℕ → ℕ → Type 0
Calls k f s t n s' t' = (left n s' t' ≡ on_image k f (standing k s) s t) × (standing k s' ≡ stands_after f (standing k s))

-- of one that answers in a lent output, and left out' there
abbrev pub result_in : {S : Type 0} → (S → After S) → S → Result S
result_in f p = replied (f p).reply (f p).side

abbrev pub output_in : {S : Type 0} → (S → After S) → Option S → List ℕ → List ℕ
output_in f None out = out
output_in f (Some p) out = (f p).output

abbrev pub CallsIn : {S : Type 0} → Keeping S → (S → After S) → List ℕ → ℕ → List ℕ → ℕ → List ℕ → ℕ → List ℕ → Type 0
CallsIn k f s t out n s' t' out' = Calls k (result_in f) s t n s' t' × (out' ≡ output_in f (standing k s) out)
