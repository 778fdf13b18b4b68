use mathlib.Core.Path.{sym, ◌∙◌}
use native.Mathlib.Omega.{arith}
use borrow.Author.Rules.{rules}
use Rattle.places.specs.Set.{all_places}
use Rattle.cards.specs.Press.{no_card}
use Rattle.image.proofs.FlatLaws.{filled_more, filled_all, each_long, each_get}
use Rattle.press_image.specs.Image.{head_size, card_size, card_in, cards_in}
use Rattle.press_image.proofs.cards_at.Goals as goal

pub loop-i-preserved : goal.loop-i-preserved
loop-i-preserved c =
    let l = c.loop-i in
    let s = c.args.s.now in
    let n = each_long card_in card_size s head_size all_places in
    (search rules, filled_more (cards_in s) l.places l.i c.card_at.result no_card (omega (arith, n)) (omega arith) (c.card_at.ensures ∙ sym (each_get card_in card_size s head_size all_places l.i no_card c.loop-i-test.true)) l.invariant.1)

pub returns : goal.returns
returns c =
    let l = c.loop-i in
    let s = c.args.s.now in
    filled_all (cards_in s) l.places l.i all_places l.invariant.0 (each_long card_in card_size s head_size all_places) c.loop-i-test.false l.invariant.1
