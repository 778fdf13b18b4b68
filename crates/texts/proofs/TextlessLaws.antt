-- Taking the texts out (`textless`) makes the empty text of every lawful one. Assumes nothing.
use Prim.Native.Nat.{ℕ, ◌-◌}
use mathlib.Core.Path.{◌≡◌, refl, sym, ap, ◌∙◌}
use mathlib.Core.List.{List, [], ◌∷◌, map}
use native.Mathlib.Omega.{arith}
use lib.ListN.{length, take, replicate, length-append, length-take, length-replicate}
use Rattle.text.specs.Text.{longest, all_ok, text_ok, GoodText, kept}
use Rattle.text.specs.Wording.{signed_by}
use Rattle.reworded.specs.Reworded.{RewordsText}
use Rattle.texts.specs.Texts.{no_byte, without_text, textless}

zeros : (l : List ℕ) → map no_byte l ≡ replicate (length l) 0
zeros [] = refl
zeros (b ∷ l) = ap (λ (k : List ℕ). 0 ∷ k) (zeros l)

-- a text as it is kept has 24 bytes
kept_long : (t : List ℕ) → length (kept t).bytes ≡ longest
kept_long t =
    let k = take longest t in
    length-append k (replicate (longest - length k) 0) ∙ omega (arith, length-replicate {A = ℕ} (longest - length k) 0, length-take longest t)

emptied : (t : List ℕ) (station : ℕ) → signed_by station [] ≡ without_text (signed_by station t)
emptied t station =
    ap (λ (l : List ℕ). record { text = record { len = 0; bytes = l }; station = station }) (sym (zeros (kept t).bytes ∙ ap (λ (n : ℕ). replicate n 0) (kept_long t)))

pub rewords_to_empty : (t : List ℕ) → GoodText t → RewordsText textless t []
unfolding text_ok all_ok
rewords_to_empty t g = record { says = emptied t; rule = sym g }
