-- A Pkg 5 that fits has as many answers as were offered. Assumes nothing.
use Prim.Native.Nat.{ℕ, ◌+◌, ◌≤◌}
use mathlib.Core.Path.{◌≡◌}
use mathlib.Core.Bool.{true, ◌&&◌}
use mathlib.Core.List.{List}
use native.Mathlib.Omega.{arith}
use lib.Dec.{leb}
use lib.ListN.{length, length-take}
use borrow.Author.Tests.{leb-true}
use Rattle.lists.specs.Lists.{kept_listed, most_listed}
use Rattle.places.proofs.Choice.{and_first, and_second}
use Rattle.lists.specs.declared.Entry.{Entry}
use Rattle.message.specs.declared.Content.{Content}
use Rattle.statuses.specs.declared.Side.{Side}
use Rattle.statuses.specs.Status.{all_fit}
use Rattle.statuses.proofs.FitLaws.{fit_length}
use Rattle.packages.specs.Package.{head5, answers_in, refs_fit}
use Rattle.server_rules.specs.Pkg5.{fits5}

pub fits_count : (n : ℕ) (os : List Entry) (p : Content) → length p.answers ≡ kept_listed → fits5 n os p ≡ true → length os ≡ p.answered
unfolding fits5
fits_count n os p long e =
    let told = all_fit Side.Server (4 + n) os (answers_in p) in
    let b = and_second (leb n most_listed) (refs_fit (head5 p.head.session (3 + n)) p.head && (leb p.answered most_listed && told)) e in
    let c = and_second (refs_fit (head5 p.head.session (3 + n)) p.head) (leb p.answered most_listed && told) b in
    let few : p.answered ≤ most_listed = leb-true p.answered most_listed (and_first (leb p.answered most_listed) told c) in
    let same : length os ≡ length (answers_in p) = fit_length Side.Server os (answers_in p) (4 + n) (and_second (leb p.answered most_listed) told c) in
    omega (arith, same, length-take p.answered p.answers, few)
