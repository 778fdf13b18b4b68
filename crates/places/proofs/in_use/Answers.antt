use mathlib.Core.Path.{sym}
use Rattle.places.proofs.Bits.{none_past}
use borrow.Author.Rules.{rules}
use Rattle.places.proofs.in_use.Goals as goal

pub returns-then-i-ge-COUNT : goal.returns-then-i-ge-COUNT
returns-then-i-ge-COUNT c = sym (none_past c.args.used c.args.i (search rules) c.if-i-ge-COUNT.true)
