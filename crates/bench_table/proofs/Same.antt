-- Tests of equality that compute, and that values which pass are equal: of numbers, pairs, lists, and of what can be told by such. Assumes nothing.
use Prim.Native.Nat.{ℕ}
use mathlib.Core.Path.{◌≡◌, refl, sym, ap, ◌∙◌}
use mathlib.Core.Bool.{Bool, true, false, ◌&&◌, false≢true}
use mathlib.Core.List.{List, [], ◌∷◌}
use lib.Dec.{eqb}
use borrow.Author.Tests.{eqb-true}
use Rattle.places.proofs.Choice.{and_first, and_second}

pub record Same (A : Type 0) : Type 0 where
  pub test : A → A → Bool
  pub law : (a b : A) → test a b ≡ true → a ≡ b

abbrev pub number : Same ℕ
number = record { test = eqb; law = eqb-true }

-- ---- pairs
abbrev pub test_both : {A B : Type 0} → Same A → Same B → A × B → A × B → Bool
test_both s t x y = s.test x.0 y.0 && t.test x.1 y.1

pub both_law : {A B : Type 0} (s : Same A) (t : Same B) (x y : A × B) → test_both s t x y ≡ true → x ≡ y
both_law s t x y e =
    let first = s.law x.0 y.0 (and_first (s.test x.0 y.0) (t.test x.1 y.1) e) in
    let second = t.law x.1 y.1 (and_second (s.test x.0 y.0) (t.test x.1 y.1) e) in
    λ i. (first i, second i)

abbrev pub both : {A B : Type 0} → Same A → Same B → Same (A × B)
both s t = record { test = test_both s t; law = both_law s t }

-- ---- lists
unfoldable pub test_list : {A : Type 0} → (A → A → Bool) → List A → List A → Bool
test_list t [] [] = true
test_list t [] (y ∷ ys) = false
test_list t (x ∷ xs) [] = false
test_list t (x ∷ xs) (y ∷ ys) = t x y && test_list t xs ys

pub list_law : {A : Type 0} (s : Same A) (xs ys : List A) → test_list s.test xs ys ≡ true → xs ≡ ys
unfolding test_list
list_law s [] [] e = refl
list_law s [] (y ∷ ys) e = absurd (false≢true e)
list_law s (x ∷ xs) [] e = absurd (false≢true e)
list_law s (x ∷ xs) (y ∷ ys) e =
    let first = s.law x y (and_first (s.test x y) (test_list s.test xs ys) e) in
    let rest = list_law s xs ys (and_second (s.test x y) (test_list s.test xs ys) e) in
    λ i. first i ∷ rest i

abbrev pub list : {A : Type 0} → Same A → Same (List A)
list s = record { test = test_list s.test; law = list_law s }

-- ---- what f tells apart, where g undoes f
abbrev pub by : {A B : Type 0} (f : A → B) (g : B → A) → ((a : A) → g (f a) ≡ a) → Same B → Same A
by f g undone s = record { test = λ a b. s.test (f a) (f b); law = λ a b e. sym (undone a) ∙ (ap g (s.law (f a) (f b) e) ∙ undone b) }
