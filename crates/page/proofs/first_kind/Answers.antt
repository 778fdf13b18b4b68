use Prim.Native.Nat.{ℕ, ◌+◌, ◌-◌}
use mathlib.Core.Path.{◌≡◌, sym, ap, ◌∙◌}
use native.Mathlib.Omega.{arith}
use Rattle.token.proofs.Told.{told}
use Rattle.shape.specs.Shape.{row_ans}
use Rattle.page.specs.Kind.{spelled_at, kind_row_at}
use Rattle.page.proofs.KindLaws.{turn_yes, turn_no, turn_end}
use Rattle.page.proofs.first_kind.Goals as goal

pub loop-k-init : goal.loop-k-init
loop-k-init c =
    let a = c.args in
    let n = a.kinds in
    let all : n.count ≡ n.from + n.count - n.from = omega arith in
    ap (λ (m : ℕ). kind_row_at m n.from a.id a.s.now a.c.at) all

pub returns-in-Ok : goal.returns-in-Ok
unfolding kind_row_at
returns-in-Ok c =
    let a = c.args in
    let l = c.loop-k in
    sym (l.invariant ∙ turn_yes (λ j. spelled_at j a.id a.s.now a.c.at) a.c.at _ l.k _ _ (omega arith) (told row_ans c.read_kind.ensures c.in-Ok.is))

pub loop-k-preserved : goal.loop-k-preserved
unfolding kind_row_at
loop-k-preserved c =
    let a = c.args in
    let l = c.loop-k in
    l.invariant ∙ turn_no (λ j. spelled_at j a.id a.s.now a.c.at) a.c.at _ l.k _ _ (omega arith) (told row_ans c.read_kind.ensures c.in_default.is)

pub returns : goal.returns
unfolding kind_row_at
returns c =
    let a = c.args in
    let l = c.loop-k in
    sym (l.invariant ∙ turn_end (λ j. spelled_at j a.id a.s.now a.c.at) a.c.at _ l.k (omega arith))
