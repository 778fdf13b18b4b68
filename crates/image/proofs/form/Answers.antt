use Prim.Native.Nat.{ℕ, ◌/◌, ◌%◌}
use mathlib.Core.Path.{sym, ap, ◌∙◌}
use lib.Dec.{eqb, ltb}
use lib.ListN.{length}
use borrow.Author.Tests.{lt-ltb, le-ltb}
use Rattle.places.proofs.Choice.{chosen, passed}
use Rattle.image.specs.Form.{digit_of}
use Rattle.image.proofs.form.Goals as goal

pub returns-then-s-lt4 : goal.returns-then-s-lt4
returns-then-s-lt4 c = sym (chosen (ltb (length c.args.s.now) 4) 0 _ (lt-ltb _ 4 c.if-s-lt4.true))

pub returns : goal.returns
returns c =
    let a = c.args in
    c.digit_of.ensures
    ∙ ap (λ (n : ℕ). digit_of (n / 16777216) (eqb (n % 16777216) a.letters)) c.four_at-front.ensures
    ∙ sym (passed (ltb (length a.s.now) 4) 0 _ (le-ltb _ 4 c.if-s-lt4.false))
