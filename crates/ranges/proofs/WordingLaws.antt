-- Whether a wording is one, test by test; and that this is what it is for a wording to be one.
-- Assumes nothing.
use Prim.Native.Nat.{ℕ, zero, suc, ◌+◌, ◌-◌, ◌≤◌}
use mathlib.Core.Path.{◌≡◌, refl, sym, ap, ap₂, ◌∙◌}
use mathlib.Core.Bool.{Bool, true, false, ◌&&◌}
use mathlib.Core.List.{List, [], ◌∷◌, ◌++◌}
use native.Mathlib.Omega.{arith}
use lib.Dec.{eqb, leb}
use lib.ListN.{length, take, drop, replicate, length-append, length-drop, length-replicate, take-append-drop}
use lib.Seq.{take_all, length-take-le, drop-append_seam}
use borrow.Author.Tests.{le-leb, leb-true, eq-eqb, eqb-true}
use Rattle.std.specs.Result.{is_ok}
use Rattle.std.specs.Prelude.{Result}
use Rattle.terms.specs.declared.Refusal.{Refusal}
use Rattle.terms.specs.Refusal.{required}
use Rattle.places.proofs.Choice.{and_chosen, and_first, and_second, and_both}
use Rattle.text.specs.declared.Text.{Text}
use Rattle.text.specs.declared.Wording.{Wording}
use Rattle.text.specs.Text.{longest, text_ok, GoodText, kept, bytes_of}
use Rattle.text.specs.Wording.{last_station, IsWording}
use Rattle.text.proofs.TextLaws.{good_parts}
use Rattle.text.proofs.KeptLaws.{kept_bytes}
use Rattle.ranges.specs.Range.{zeros, bytes_kept, is_kept, is_wording}

required_ok : (b : Bool) (r : Refusal) → is_ok (required b r) ≡ true → b ≡ true
required_ok true r e = refl
required_ok false r e = cc

module _ (n : ℕ) (s : List ℕ) where
  pub text_then : (k : Result Unit Refusal) → k ≡ required (text_ok (take n s)) Refusal.Unfit → is_ok k ≡ true → n ≤ length s → zeros (drop n s) ≡ bytes_kept n s
  text_then k e f h =
      sym (and_chosen (leb n (length s)) _ (le-leb n (length s) h) ∙ and_chosen (text_ok (take n s)) _ (required_ok (text_ok (take n s)) Refusal.Unfit (sym (ap is_ok e) ∙ f)))

-- ---- what keeps its test is a wording, and a wording keeps it
zeros_are : (l : List ℕ) → zeros l ≡ true → l ≡ replicate (length l) 0
zeros_are [] e = refl
zeros_are (x ∷ l) e =
    ap₂ (λ (y : ℕ) (r : List ℕ). y ∷ r) (eqb-true x 0 (and_first (eqb x 0) (zeros l) e)) (zeros_are l (and_second (eqb x 0) (zeros l) e))

are_zeros : (n : ℕ) → zeros (replicate n 0) ≡ true
are_zeros zero = refl
are_zeros (suc n) = are_zeros n

-- a text of n bytes with zeros after them is the text that is kept of these bytes
kept_of : (t : Text) → length t.bytes ≡ longest → t.len ≤ longest → zeros (drop t.len t.bytes) ≡ true → t ≡ kept (bytes_of t)
kept_of t l h z =
    let n = t.len in
    let few : length (bytes_of t) ≡ n = length-take-le n t.bytes (omega (arith, l, h)) in
    let all : take longest (bytes_of t) ≡ bytes_of t = take_all longest (bytes_of t) (omega (arith, few, h)) in
    let tail : drop n t.bytes ≡ replicate (longest - n) 0 = zeros_are (drop n t.bytes) z ∙ ap (λ (k : ℕ). replicate k 0) (length-drop n t.bytes ∙ ap (λ (k : ℕ). k - n) l) in
    ap₂ (λ (k : ℕ) (b : List ℕ). record { len = k; bytes = b })
    (sym (ap length all ∙ few))
    (sym (take-append-drop n t.bytes) ∙ ap₂ (λ (a b : List ℕ). a ++ b) (sym all) (tail ∙ ap (λ (k : ℕ). replicate (longest - k) 0) (sym (ap length all ∙ few))))

pub tested_wording : (w : Wording) → is_wording w ≡ true → IsWording w
tested_wording w e =
    let s = and_first (leb w.station last_station) (is_kept w.text) e in
    let k = and_second (leb w.station last_station) (is_kept w.text) e in
    let t = w.text in
    let l = eqb-true (length t.bytes) longest (and_first (eqb (length t.bytes) longest) (bytes_kept t.len t.bytes) k) in
    let b = and_second (eqb (length t.bytes) longest) (bytes_kept t.len t.bytes) k in
    let n = leb-true t.len (length t.bytes) (and_first (leb t.len (length t.bytes)) (text_ok (bytes_of t) && zeros (drop t.len t.bytes)) b) in
    let r = and_second (leb t.len (length t.bytes)) (text_ok (bytes_of t) && zeros (drop t.len t.bytes)) b in
    record {
      text = (bytes_of t, and_first (text_ok (bytes_of t)) (zeros (drop t.len t.bytes)) r, kept_of t l (omega (arith, l, n)) (and_second (text_ok (bytes_of t)) (zeros (drop t.len t.bytes)) r));
      station = leb-true w.station last_station s;
    }

-- of a text that is kept
kept_tested : (l : List ℕ) → GoodText l → is_kept (kept l) ≡ true
kept_tested l g =
    let few = (good_parts l g).0 in
    let all : take longest l ≡ l = take_all longest l few in
    let n = length (take longest l) in
    let t = kept l in
    let m : n ≤ longest = omega (arith, few, ap length all) in
    let long : length t.bytes ≡ longest = length-append (take longest l) (replicate (longest - n) 0) ∙ ap (λ (k : ℕ). n + k) (length-replicate (longest - n) 0) ∙ omega (arith, m) in
    and_both (eqb (length t.bytes) longest) (bytes_kept n t.bytes) (eq-eqb (length t.bytes) longest long)
    (and_both (leb n (length t.bytes)) (text_ok (bytes_of t) && zeros (drop n t.bytes)) (le-leb n (length t.bytes) (omega (arith, long, m)))
    (and_both (text_ok (bytes_of t)) (zeros (drop n t.bytes)) (ap text_ok (kept_bytes l few) ∙ g) (ap zeros (drop-append_seam (take longest l) (replicate (longest - n) 0)) ∙ are_zeros (longest - n))))

pub wording_tested : (w : Wording) → IsWording w → is_wording w ≡ true
wording_tested w h =
    and_both (leb w.station last_station) (is_kept w.text) (le-leb w.station last_station h.station) (ap is_kept h.text.2 ∙ kept_tested h.text.0 h.text.1)
