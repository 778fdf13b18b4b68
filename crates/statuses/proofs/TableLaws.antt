-- The table of codes, a row for each code: one test that is computed over the whole table, and the rule that it makes of every code.
-- Assumes nothing.
use Prim.Native.Nat.{ℕ, ◌<◌}
use mathlib.Core.Path.{◌≡◌, refl, ap, ap₂}
use mathlib.Core.Bool.{Bool, true, false, cond, ◌&&◌, false≢true, and-eq-true_iff}
use mathlib.Core.List.{List, [], ◌∷◌}
use lib.Dec.{eqb, ltb}
use lib.ListN.{get_or}
use borrow.Author.Tests.{eqb-true, ltb-true}
use Rattle.statuses.specs.declared.Name.{Name}
use Rattle.statuses.specs.declared.Name.TheVariants.{Delete, Replace, Add}
use Rattle.statuses.specs.declared.Side.{Side}
use Rattle.statuses.specs.Code.{codes_for, is_one_of}

-- ---- the table: each row is a code and, for each place of a command, 1 where the place allows the code
abbrev pub codes : List (List ℕ)
codes =
    (200 ∷ 1 ∷ 1 ∷ 1 ∷ 1 ∷ 1 ∷ 1 ∷ [])
    ∷ (208 ∷ 0 ∷ 1 ∷ 1 ∷ 0 ∷ 0 ∷ 0 ∷ [])
    ∷ (211 ∷ 1 ∷ 0 ∷ 0 ∷ 1 ∷ 0 ∷ 0 ∷ [])
    ∷ (404 ∷ 0 ∷ 0 ∷ 0 ∷ 0 ∷ 1 ∷ 0 ∷ [])
    ∷ (419 ∷ 1 ∷ 1 ∷ 1 ∷ 0 ∷ 0 ∷ 0 ∷ [])
    ∷ (420 ∷ 0 ∷ 1 ∷ 1 ∷ 0 ∷ 1 ∷ 1 ∷ [])
    ∷ []

-- the column of a place: the press's Delete, Replace and Add, then the server's
abbrev pub column_of : Side → Name → ℕ
column_of Side.Press Delete = 1
column_of Side.Press Replace = 2
column_of Side.Press Add = 3
column_of Side.Server Delete = 4
column_of Side.Server Replace = 5
column_of Side.Server Add = 6

-- the codes of the rows that have 1 in column k
unfoldable pub column : ℕ → List (List ℕ) → List ℕ
column k [] = []
column k (row ∷ rows) = cond (eqb (get_or row k 0) 1) (get_or row 0 0 ∷ column k rows) (column k rows)

-- ---- a test at each place of a command
abbrev every_name : (Name → Bool) → Bool
every_name t = t Delete && (t Replace && t Add)

abbrev pub every_place : (Side → Name → Bool) → Bool
every_place t = every_name (t Side.Press) && every_name (t Side.Server)

at_name : (t : Name → Bool) → every_name t ≡ true → (m : Name) → t m ≡ true
at_name t e Delete = ((and-eq-true_iff (t Delete) (t Replace && t Add)).0 e).0
at_name t e Replace = ((and-eq-true_iff (t Replace) (t Add)).0 ((and-eq-true_iff (t Delete) (t Replace && t Add)).0 e).1).0
at_name t e Add = ((and-eq-true_iff (t Replace) (t Add)).0 ((and-eq-true_iff (t Delete) (t Replace && t Add)).0 e).1).1

at_place : (t : Side → Name → Bool) → every_place t ≡ true → (s : Side) (m : Name) → t s m ≡ true
at_place t e Side.Press = at_name (t Side.Press) ((and-eq-true_iff (every_name (t Side.Press)) (every_name (t Side.Server))).0 e).0
at_place t e Side.Server = at_name (t Side.Server) ((and-eq-true_iff (every_name (t Side.Press)) (every_name (t Side.Server))).0 e).1

pub column_inside : (s : Side) (m : Name) → column_of s m < 7
column_inside s m = ltb-true (column_of s m) 7 (at_place (λ s m. ltb (column_of s m) 7) refl s m)

-- ---- the table's test: each column has the codes of its place
abbrev pub same : List ℕ → List ℕ → Bool
same [] [] = true
same [] (y ∷ ys) = false
same (x ∷ xs) [] = false
same (x ∷ xs) (y ∷ ys) = eqb x y && same xs ys

abbrev pub right : List (List ℕ) → Bool
right table = every_place (λ s m. same (column (column_of s m) table) (codes_for s m))

same_lists : (xs ys : List ℕ) → same xs ys ≡ true → xs ≡ ys
same_lists [] [] e = refl
same_lists [] (y ∷ ys) e = absurd (false≢true e)
same_lists (x ∷ xs) [] e = absurd (false≢true e)
same_lists (x ∷ xs) (y ∷ ys) e =
    let both = (and-eq-true_iff (eqb x y) (same xs ys)).0 e in
    ap₂ ◌∷◌ (eqb-true x y both.0) (same_lists xs ys both.1)

-- a table that passes has each code for the places where it is allowed, and for no other
pub rule : (table : List (List ℕ)) (s : Side) (m : Name) (code : ℕ) → right table ≡ true
    → is_one_of (column (column_of s m) table) code ≡ is_one_of (codes_for s m) code
rule table s m code e =
    ap (λ (l : List ℕ). is_one_of l code)
    (same_lists (column (column_of s m) table) (codes_for s m) (at_place (λ s m. same (column (column_of s m) table) (codes_for s m)) e s m))

-- the table passes: so a code is allowed exactly where its row has 1
pub codes_right : right codes ≡ true
unfolding column
codes_right = refl

pub allowed_by_row : (s : Side) (m : Name) (code : ℕ) → is_one_of (column (column_of s m) codes) code ≡ is_one_of (codes_for s m) code
allowed_by_row s m code = rule codes s m code codes_right
