-- A package is its head and its two lists; what its counts have to be, and that those of a package which a side makes are so.
-- Assumes nothing.
use Prim.Native.Nat.{ℕ, ◌≤◌}
use mathlib.Core.Path.{◌≡◌, refl, ap, ap₂, ◌∙◌}
use mathlib.Core.Bool.{true, ◌&&◌}
use mathlib.Core.List.{List}
use native.Mathlib.Omega.{arith}
use lib.Dec.{eqb, leb}
use lib.ListN.{length}
use borrow.Author.Tests.{eq-eqb, le-leb, leb-true}
use Rattle.places.proofs.Choice.{and_both, and_first, and_second}
use Rattle.elements.specs.declared.Head.{Head}
use Rattle.elements.specs.declared.End.{End}
use Rattle.lists.specs.declared.Entry.{Entry}
use Rattle.lists.specs.Lists.{kept_listed, most_listed}
use Rattle.listing.specs.declared.Listing.{Listing}
use Rattle.listing.specs.Listing.{listing}
use Rattle.packages.specs.Package.{changes_of, listed, counts_fit}

pub same_package : (h h' : Head) (a a' c c' : Listing) → h ≡ h' → a ≡ a' → c ≡ c' → listed h a c ≡ listed h' a' c'
same_package h h' a a' c c' e f g = ap₂ (λ (k : Head) (l : Listing). listed k l c) e f ∙ ap (listed h' a') g

-- a list of at most 32 can be that of a package's commands
pub few_listed : (xs : List Entry) {l : Listing} → l ≡ listing xs → length xs ≤ most_listed → l.n ≤ kept_listed
few_listed xs {l} e h = omega (arith, ap (λ (k : Listing). k.n) e)

-- ---- the counts of a package
pub counts_few : (n m : ℕ) (e : End) → counts_fit n m e ≡ true → (n ≤ most_listed) × (m ≤ most_listed)
counts_few n m e h =
    let same = eqb e.changes m in
    let rest = and_second (leb n most_listed) (leb m most_listed && same) h in
    (leb-true n most_listed (and_first (leb n most_listed) (leb m most_listed && same) h), leb-true m most_listed (and_first (leb m most_listed) same rest))

pub own_counts : (n m : ℕ) → n ≤ most_listed → m ≤ most_listed → counts_fit n m (changes_of m) ≡ true
own_counts n m a b =
    and_both (leb n most_listed) (leb m most_listed && eqb m m) (le-leb n most_listed a) (and_both (leb m most_listed) (eqb m m) (le-leb m most_listed b) (eq-eqb m m refl))
