use borrow.Author.Rules.{rules}
use Prim.Native.Nat.{◌<◌}
use mathlib.Core.Path.{sym, ◌∙◌}
use native.Mathlib.Omega.{arith}
use Rattle.places.proofs.Bits.{lowest_at}
use Rattle.press_edits.proofs.room.Goals as goal

pub returns-clause-left : goal.returns-clause-left
returns-clause-left c i e =
    let top : c.args.cards.now.fp < 4294967296 = search rules in
    ((lowest_at _ i (sym c.lowest_free.ensures ∙ e)).0, omega arith, omega (arith, top, c.if-cards.false))
