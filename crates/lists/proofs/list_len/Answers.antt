use Prim.Native.Nat.{ℕ, ◌+◌}
use mathlib.Core.Path.{sym, ap, ap₂, ◌∙◌}
use lib.ListN.{length, length-append}
use native.Mathlib.Omega.{arith}
use Rattle.lists.proofs.WriteLaws.{written, written_more}
use Rattle.lists.proofs.list_len.Goals as goal

pub loop-x-preserved : goal.loop-x-preserved
loop-x-preserved c =
    let l = c.loop-x in
    let a = c.args in
    let one = rw l.invariant.number at c.element_len-len.ensures in
    record {
      number = omega (arith, l.invariant.number);
      long =
          ap₂ (λ (j k : ℕ). j + k) l.invariant.long one.0
          ∙ sym (length-append (written a.id a.items.now l.x-index) _)
          ∙ ap length (sym (written_more a.id a.items.now l.x-index _ (omega (arith, c.loop-x-test.true))));
      small = omega (arith, l.invariant.small, one.1);
    }
