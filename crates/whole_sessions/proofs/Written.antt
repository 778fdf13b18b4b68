-- What the sides write on the way: no status in it says 404, since the press has every card that the server replaces.
use Prim.Native.Nat.{ℕ, ◌+◌}
use mathlib.Core.Path.{◌≡◌, refl, sym, ap, ◌∙◌, subst}
use mathlib.Core.Bool.{false}
use mathlib.Core.List.{List, [], ◌∷◌, ◌++◌}
use native.Mathlib.Omega.{arith}
use lib.ListN.{length}
use Rattle.places.proofs.Every.{Every, every, every_append}
use Rattle.elements.specs.declared.Head.{Head}
use Rattle.lists.specs.declared.Entry.{Entry}
use Rattle.message.specs.declared.Content.{Content}
use Rattle.terms.specs.declared.Mode.{Mode}
use Rattle.cards.specs.declared.Cards.{Cards}
use Rattle.cards.specs.Press.{WellFormed}
use Rattle.records.specs.declared.Records.{Records}
use Rattle.records.specs.declared.Rule.{Rule}
use Rattle.listing.proofs.ListingLaws.{listing_items}
use Rattle.statuses.specs.declared.Name.{Name}
use Rattle.statuses.specs.declared.Side.{Side}
use Rattle.statuses.specs.Code.{codes_for, is_one_of}
use Rattle.packages.specs.Package.{head1, head2, head3, head4, head5, head6, packed}
use Rattle.press_tells.specs.Tell.{reports, commands}
use Rattle.demand3.specs.Demand3.{Missing, NoneMissing}
use Rattle.own_packages.proofs.Own.{pkg1, pkg2, pkg3, statuses4, commands4, pkg4, answers5, pkg5, pkg6}
use Rattle.own_packages.proofs.Fit.{fit_codes}
use Rattle.own_packages.proofs.Lawful.{statuses4_own}
use Rattle.server_pairs.proofs.Reports.{IsReport}
use Rattle.server_pairs.proofs.Step1.{own_reports}

-- a package with these answers
none_of : (h : Head) (xs ys : List Entry) → Every (λ a. Missing a → ⊥) xs → NoneMissing (packed h xs ys)
none_of h xs ys k = subst (Every (λ a. Missing a → ⊥)) (sym (listing_items xs)) k

pub one_more : (ws : List Content) (x : Content) → Every NoneMissing ws → NoneMissing x → Every NoneMissing (ws ++ (x ∷ []))
one_more ws x k n = every_append NoneMissing (x ∷ []) ws k (n, tt)

-- ---- reports have no code of their own
in_reports : (c : Cards) → Every (λ a. Missing a → ⊥) (reports c)
in_reports c = every (IsReport c) (λ a. Missing a → ⊥) (λ r t e. let z : ◌≡◌ {A = ℕ} 0 404 = sym (ap (λ (a : Entry). a.fields.code) t.4) ∙ e in omega (arith, z)) (reports c) (own_reports c)

-- ---- no command of the press may be answered 404
no_404 : (m : Name) → is_one_of (codes_for Side.Press m) 404 ≡ false
unfolding is_one_of
no_404 Name.Delete = refl
no_404 Name.Replace = refl
no_404 Name.Add = refl

-- ---- the six packages
pub none_1 : (n a : ℕ) → NoneMissing (pkg1 n a)
none_1 n a = none_of (head1 n a) [] [] tt

pub none_2 : (n b : ℕ) (m : Mode) → NoneMissing (pkg2 n b m)
none_2 n b m = none_of (head2 n b m) [] [] tt

pub none_3 : (n : ℕ) (m : Mode) (c : Cards) → NoneMissing (pkg3 n m c)
none_3 n m c = none_of (head3 n) (reports c) (commands m c) (in_reports c)

pub none_4 : (rule : Rule) (n : ℕ) (m : Mode) (c : Cards) → WellFormed c → (s : Records) → NoneMissing (pkg4 rule n m c s)
none_4 rule n m c f s = none_of (head4 n (3 + length (reports c))) (statuses4 rule m c s) (commands4 rule m c s) (fit_codes Side.Press 404 no_404 (4 + length (reports c)) (commands m c) (statuses4 rule m c s) (statuses4_own m c f rule s))

pub none_5 : (rule : Rule) (n : ℕ) (m : Mode) (c : Cards) (s : Records) → Every (λ a. Missing a → ⊥) (answers5 rule m c s) → NoneMissing (pkg5 rule n m c s)
none_5 rule n m c s k = none_of (head5 n (3 + length (statuses4 rule m c s))) (answers5 rule m c s) [] k

pub none_6 : (n : ℕ) → NoneMissing (pkg6 n)
none_6 n = none_of (head6 n) [] [] tt
