use Rattle.std.proofs.Common.{arith}
use Rattle.script.proofs.LineLaws.{line_within}
use Rattle.bench.proofs.Bench.takes.Goals as goal

pub slice_bounds-put_text-end-in-loop-i : goal.slice_bounds-put_text-end-in-loop-i
slice_bounds-put_text-end-in-loop-i g c = omega (arith, c.line_end-end.ensures, line_within c.args.s.now c.loop-i.i (omega (arith, c.loop-i-test.true)))
