-- The text rule, byte by byte.
-- Assumes nothing.
use Prim.Native.Nat.{ℕ, ◌≤◌, ◌<◌}
use mathlib.Core.Path.{◌≡◌, refl, ap, ap₂}
use mathlib.Core.Bool.{Bool, true, false, ◌&&◌}
use mathlib.Core.List.{List, [], ◌∷◌}
use lib.ListN.{length}
use lib.Dec.{leb}
use borrow.Author.Tests.{le-leb, lt-leb, leb-true}
use Rattle.std.specs.List.{list_all}
use Rattle.token.proofs.NumberLaws.{both}
use Rattle.text.specs.Text.{longest, ok_byte, all_ok, text_ok, GoodText}

pub good_parts : (l : List ℕ) → GoodText l → (length l ≤ longest) × (all_ok l ≡ true)
unfolding text_ok
good_parts l g = let h = both (leb (length l) longest) (all_ok l) g in (leb-true (length l) longest h.0, h.1)

pub parts_good : (l : List ℕ) → length l ≤ longest → all_ok l ≡ true → GoodText l
unfolding text_ok
parts_good l h e = ap₂ ◌&&◌ (le-leb (length l) longest h) e

-- ---- the test of each byte
pub all_listed : (l : List ℕ) → list_all ok_byte l ≡ all_ok l
unfolding all_ok
all_listed [] = refl
all_listed (b ∷ l) = ap (λ (x : Bool). ok_byte b && x) (all_listed l)

pub rule_long : (s : List ℕ) → longest < length s → text_ok s ≡ false
unfolding text_ok
rule_long s h = simp (lt-leb (length s) longest h)

pub rule_short : (s : List ℕ) → length s ≤ longest → text_ok s ≡ all_ok s
unfolding text_ok
rule_short s h = simp (le-leb (length s) longest h)
