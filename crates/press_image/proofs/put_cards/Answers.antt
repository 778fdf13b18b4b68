use mathlib.Core.Path.{subst}
use lib.Seq.{take_all}
use native.Mathlib.Omega.{arith}
use borrow.Author.Rules.{rules}
use Rattle.places.specs.Every.{Every}
use Rattle.image.proofs.FlatLaws.{put_more, put_all, every_more}
use Rattle.press_image.specs.Image.{card_bytes, StorableCard}
use Rattle.press_image.proofs.put_cards.Goals as goal

pub loop-x-preserved : goal.loop-x-preserved
loop-x-preserved c =
    let l = c.loop-x in
    let places = c.args.places.now in
    let x = c.put_card-p.ensures in
    (put_more card_bytes places l.x-index _ (omega arith) l.invariant.0 x.0, every_more StorableCard places l.x-index _ (omega arith) l.invariant.1 x.1)

pub returns : goal.returns
returns c =
    let l = c.loop-x in
    let places = c.args.places.now in
    (put_all card_bytes places l.x-index (omega arith) l.invariant.0, subst (Every StorableCard) (take_all l.x-index places (omega arith)) l.invariant.1, search rules)
