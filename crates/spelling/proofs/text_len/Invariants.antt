use Rattle.std.proofs.Common.{◌≡◌, ◌*◌, ◌≤◌, length, take}
use Rattle.spelling.specs.Spelling.{spelled}
use Rattle.spelling.proofs.text_len.Given as goal

abbrev pub invariant-loop-b : goal.invariant-loop-b
invariant-loop-b l = (l.len ≡ length (spelled (take l.b-index l.b-items))) × (l.len ≤ 5 * l.b-index)
