use Rattle.std.proofs.Common.{◌≡◌, ◌+◌, ◌*◌, ◌≤◌, drop}
use Rattle.image.specs.Sum.{sum_from, sum_of}
use Rattle.image.proofs.sum.Given as goal

abbrev pub invariant-loop-x : goal.invariant-loop-x
invariant-loop-x l = (l.a ≤ 1 + 255 * l.x-index) × (l.b ≤ 16711681 * l.x-index) × (sum_from l.a l.b (drop l.x-index l.s) ≡ sum_of l.s)
