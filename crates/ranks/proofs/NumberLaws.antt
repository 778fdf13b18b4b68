-- A LUID that is looked for among elements, and that no LUID stands twice, as a loop finds it. Assumes nothing.
use Prim.Native.Nat.{ℕ, ◌+◌, ◌-◌, ◌<◌, ◌≤◌}
use native.Mathlib.Omega.{arith}
use lib.Seq.{take_all}
use mathlib.Core.Path.{◌≡◌, refl, sym, ap, ap₂, ◌∙◌}
use mathlib.Core.Bool.{Bool, true, false, not, ◌&&◌, ◌||◌}
use mathlib.Core.List.{List, [], ◌∷◌, map}
use lib.Dec.{eqb}
use lib.ListN.{length, get_or, take, drop, length-drop}
use borrow.Author.Tests.{eqb-true, eqb-false, eq-eqb, ne_eqb}
use Rattle.std.specs.List.{list_any, list_all}
use Rattle.places.proofs.Turns.{next_of_lem, end_of}
use Rattle.lists.specs.declared.Entry.{Entry}
use Rattle.ranks.specs.Rank.{name_in, some_same, luids_once, is_replace, only_replaces}
use Rattle.ranks.specs.Numbers.{luid_in, has_number}

pub any_luid : (k : ℕ) (xs : List Entry) → list_any (λ x. eqb (luid_in x) k) xs ≡ has_number k (map luid_in xs)
unfolding has_number
any_luid k [] = refl
any_luid k (x ∷ xs) = ap (λ (b : Bool). eqb (luid_in x) k || b) (any_luid k xs)

pub all_replaces : (xs : List Entry) → list_all (λ x. is_replace (name_in x)) xs ≡ only_replaces xs
unfolding only_replaces
all_replaces [] = refl
all_replaces (x ∷ xs) = ap (λ (b : Bool). is_replace (name_in x) && b) (all_replaces xs)

eqb_swap : (a b : ℕ) → eqb a b ≡ eqb b a
eqb_swap a b = go (eqb b a) refl
  where
    go : (t : Bool) → eqb b a ≡ t → eqb a b ≡ t
    go true e = eq-eqb a b (sym (eqb-true b a e))
    go false e = ne_eqb a b (λ q. eqb-false b a e (sym q))

-- ---- the LUID of x stands again: it is one, and it is among the others
none_of : (a : Bool) → false ≡ (a && false)
none_of true = refl
none_of false = refl

one_of : (a b c : Bool) → ((a && b) || (a && c)) ≡ (a && (b || c))
one_of true b c = refl
one_of false b c = refl

same_again : (x : Entry) (xs : List Entry) → some_same x xs ≡ (not (eqb (luid_in x) 0) && has_number (luid_in x) (map luid_in xs))
unfolding some_same has_number
same_again x [] = none_of (not (eqb (luid_in x) 0))
same_again x (y ∷ ys) =
    let has : Bool = not (eqb (luid_in x) 0) in
    ap₂ (λ (p q : Bool). (has && p) || q) (eqb_swap (luid_in x) (luid_in y)) (same_again x ys)
    ∙ one_of has (eqb (luid_in y) (luid_in x)) (has_number (luid_in x) (map luid_in ys))

-- ---- as the loop has it: those from number i on
module _ (xs : List Entry) (i : ℕ) where
  module _ (d : Entry) (h : i < length xs) where
    abbrev luid : ℕ
    luid = luid_in (get_or xs i d)

    abbrev again : Bool
    again = has_number luid (map luid_in (take (length xs - (i + 1)) (drop (i + 1) xs)))

    rest : take (length xs - (i + 1)) (drop (i + 1) xs) ≡ drop (i + 1) xs
    rest = take_all (length xs - (i + 1)) (drop (i + 1) xs) (omega (arith, length-drop (i + 1) xs))

    turn : luids_once (drop i xs) ≡ (not (not (eqb luid 0) && again) && luids_once (drop (i + 1) xs))
    unfolding luids_once
    turn =
        ap luids_once (next_of_lem xs i d h)
        ∙ ap (λ (b : Bool). not b && luids_once (drop (i + 1) xs)) (same_again (get_or xs i d) (drop (i + 1) xs))
        ∙ ap (λ (ys : List Entry). not (not (eqb luid 0) && has_number luid (map luid_in ys)) && luids_once (drop (i + 1) xs)) (sym rest)

    -- its LUID stands again, or does not
    some : (b : Bool) → (luid ≡ 0 → ⊥) → again ≡ b → luids_once (drop i xs) ≡ (not b && luids_once (drop (i + 1) xs))
    some b one e =
        turn
        ∙ ap (λ (t : Bool). not (not t && again) && luids_once (drop (i + 1) xs)) (ne_eqb luid 0 one)
        ∙ ap (λ (t : Bool). not t && luids_once (drop (i + 1) xs)) e

    pub once_stop : (luid ≡ 0 → ⊥) → again ≡ true → luids_once (drop i xs) ≡ false
    once_stop one e = some true one e

    pub once_on : (luid ≡ 0 → ⊥) → again ≡ false → luids_once (drop (i + 1) xs) ≡ luids_once (drop i xs)
    once_on one e = sym (some false one e)

    -- it has none
    pub once_past : luid ≡ 0 → luids_once (drop (i + 1) xs) ≡ luids_once (drop i xs)
    once_past none = sym (turn ∙ ap (λ (t : Bool). not (not t && again) && luids_once (drop (i + 1) xs)) (eq-eqb luid 0 none))

  pub once_end : length xs ≤ i → luids_once (drop i xs) ≡ true
  unfolding luids_once
  once_end h = ap luids_once (end_of xs i h)
