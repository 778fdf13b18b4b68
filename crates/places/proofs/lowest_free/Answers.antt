use Prim.Native.Nat.{◌-◌}
use mathlib.Core.Path.{sym, ◌∙◌}
use native.Mathlib.Omega.{arith}
use lib.Count.{ones, ones-le, trailing_le}
use borrow.Author.Rules.{rules}
use borrow.Author.Tests.{eq-eqb, ne_eqb}
use Rattle.places.proofs.Bits.{lowest}
use Rattle.places.proofs.lowest_free.Goals as goal

pub returns-then-used-eq-COUNT : goal.returns-then-used-eq-COUNT
returns-then-used-eq-COUNT c = sym (lowest c.args.used (search rules) ∙ rw (eq-eqb (ones c.args.used) 32 c.if-used-eq-COUNT.true))

pub overflow_cast-used : goal.overflow_cast-used
overflow_cast-used c = omega (arith, ones-le 32 c.args.used (search rules))

pub overflow_cast-result : goal.overflow_cast-result
overflow_cast-result c = omega (arith, trailing_le 32 (4294967295 - c.args.used))

pub returns : goal.returns
returns c = rw (lowest c.args.used (search rules), ne_eqb (ones c.args.used) 32 c.if-used-eq-COUNT.false)
