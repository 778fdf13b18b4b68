-- What a lawful Pkg 4 has: at most 32 of each, and as many statuses as commands were sent. Assumes nothing.
use Prim.Native.Nat.{◌+◌, ◌≤◌}
use mathlib.Core.Path.{◌≡◌}
use mathlib.Core.Bool.{true, ◌&&◌}
use native.Mathlib.Omega.{arith}
use lib.ListN.{length, length-take}
use Rattle.lists.specs.Lists.{kept_listed, most_listed}
use Rattle.places.proofs.Choice.{and_first, and_second}
use Rattle.terms.specs.declared.Mode.{Mode}
use Rattle.cards.specs.declared.Press.{Press}
use Rattle.message.specs.declared.Content.{Content}
use Rattle.statuses.specs.declared.Side.{Side}
use Rattle.statuses.specs.Status.{all_fit}
use Rattle.statuses.proofs.FitLaws.{fit_length}
use Rattle.packages.specs.Package.{head4, answers_in, commands_in, refs_fit, counts_fit}
use Rattle.packages.proofs.PackageLaws.{counts_few}
use Rattle.press_tells.specs.Tell.{commands}
use Rattle.press_judges.specs.Lawful.{sync_ref, in_row, lawful4}

pub record Lawful (m : Mode) (p : Press) (x : Content) : Type 0 where
  pub answered : x.answered ≤ most_listed
  pub commanded : x.commanded ≤ most_listed
  pub told : all_fit Side.Press (1 + sync_ref p.cards) (commands m p.cards) (answers_in x) ≡ true

pub lawful_parts : (m : Mode) (p : Press) (x : Content) → lawful4 m p x ≡ true → Lawful m p x
unfolding lawful4
lawful_parts m p x e =
    let refs = refs_fit (head4 p.session (sync_ref p.cards)) x.head in
    let told = all_fit Side.Press (1 + sync_ref p.cards) (commands m p.cards) (answers_in x) in
    let row = in_row (commands_in x) in
    let fit = counts_fit x.answered x.commanded x.answersend in
    let b = and_second refs (fit && (told && row)) e in
    let few = counts_few x.answered x.commanded x.answersend (and_first fit (told && row) b) in
    record { answered = few.0; commanded = few.1; told = and_first told row (and_second fit (told && row) b) }

-- as many statuses as commands were sent
pub told_length : (m : Mode) (p : Press) (x : Content) → length x.answers ≡ kept_listed → Lawful m p x → length (commands m p.cards) ≡ x.answered
told_length m p x long w =
    let same : length (commands m p.cards) ≡ length (answers_in x) = fit_length Side.Press (commands m p.cards) (answers_in x) (1 + sync_ref p.cards) w.told in
    omega (arith, same, length-take x.answered x.answers, w.answered)
