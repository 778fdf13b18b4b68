use Rattle.std.proofs.Common.{rules, tests}
use Prim.Native.Nat.{◌-◌}
use mathlib.Core.Path.{◌≡◌, sym, ap, ◌∙◌}
use lib.Dec.{eqb}
use lib.ListN.{length, take, drop}
use Rattle.std.proofs.lemmas.Iterator.{YieldsList-from_slice}
use Rattle.std.proofs.lemmas.Iterator.Search.{all_from_yields_List}
use Rattle.ranges.specs.Range.{zeros}
use Rattle.ranges.proofs.WalkLaws.{to_end}
use Rattle.ranges.proofs.WordingLaws.{text_then}
use Rattle.ranges.proofs.bytes_kept.Goals as goal
use Rattle.ranges.proofs.bytes_kept.Goals.{then-len-s, else-len-s}

pub returns-then-is_ok : goal.returns-then-is_ok
returns-then-is_ok c =
    let a = c.args in
    let tail = take (length a.s.now - a.len) (drop a.len a.s.now) in
    let r : c.all.result ≡ zeros tail = all_from_yields_List (λ x. eqb x 0) _ _ c.all.result c.all.ensures.ran (YieldsList-from_slice tail cc) (λ x b q k. search (rules, tests)) in
    elim c.if-len-s.branch [ then-len-s w ↦ r ∙ ap zeros (to_end a.s.now a.len) ∙ text_then _ _ w.check_text.result w.check_text.ensures (sym w.is_ok.ensures.value ∙ sym w.value-is ∙ c.if-is_ok.true) w.if-len-s.true | else-len-s w ↦ absurd (search rules) ]
