-- Whether the texts of a course are lawful, as a test that computes. Assumes nothing.
use mathlib.Core.Path.{◌≡◌}
use mathlib.Core.Bool.{Bool, true, false, not, ◌||◌}
use mathlib.Core.List.{List}
use borrow.Author.Tests.{not-false}
use Rattle.places.proofs.Choice.{or_neither}
use Rattle.places.proofs.Every.{Every, every}
use Rattle.text.specs.Text.{text_ok}
use Rattle.course.specs.Course.{Step, hand_made, Doing}
use Rattle.shut_out.proofs.Tests.{none_inside, none_in_law}
use Rattle.texts.specs.Texts.{text_in, Lawful}

abbrev pub unlawful : Step → Bool
unlawful x = hand_made x || not (text_ok (text_in x))

pub lawful_law : (ds : List Doing) → none_inside unlawful ds ≡ true → Every (Every Lawful) ds
lawful_law ds e = every (Every (λ x. unlawful x ≡ false)) (Every Lawful) (λ d h. every (λ x. unlawful x ≡ false) Lawful one d h) ds (none_in_law unlawful ds e)
  where
    one : (x : Step) → unlawful x ≡ false → Lawful x
    one x h = let n = or_neither (hand_made x) (not (text_ok (text_in x))) h in (n.0, not-false (text_ok (text_in x)) n.1)
