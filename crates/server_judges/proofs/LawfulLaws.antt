-- What a lawful Pkg 3 has: at most 32 of each. Assumes nothing.
use Prim.Native.Nat.{◌≤◌}
use mathlib.Core.Path.{◌≡◌}
use mathlib.Core.Bool.{true, ◌&&◌}
use Rattle.lists.specs.Lists.{most_listed}
use Rattle.places.proofs.Choice.{and_first, and_second}
use Rattle.terms.specs.declared.Mode.{Mode}
use Rattle.message.specs.declared.Content.{Content}
use Rattle.packages.specs.Package.{head3, answers_in, commands_in, refs_fit, counts_fit}
use Rattle.packages.proofs.PackageLaws.{counts_few}
use Rattle.server_judges.specs.Lawful.{mode_has, in_rows, lawful3}

pub lawful_counts : (m : Mode) (p : Content) → lawful3 m p ≡ true → (p.answered ≤ most_listed) × (p.commanded ≤ most_listed)
unfolding lawful3
lawful_counts m p e =
    let fit = counts_fit p.answered p.commanded p.answersend in
    let rest = in_rows (answers_in p) (commands_in p) && mode_has m (commands_in p) in
    counts_few p.answered p.commanded p.answersend (and_first fit rest (and_second (refs_fit (head3 p.head.session) p.head) (fit && rest) e))
