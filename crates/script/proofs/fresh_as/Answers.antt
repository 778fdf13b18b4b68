use Rattle.std.proofs.Common.{◌≡◌, rules, arith}
use Rattle.script.specs.Script.{Last, last_number}
use Rattle.script.proofs.PlainLaws.{last_high}
use Rattle.script.proofs.fresh_as.Goals as goal

pub overflow_cast-result : goal.overflow_cast-result
overflow_cast-result c =
    let a = c.args in
    let n = c.in_ok-last_number.field-0 in
    let read : last_number a.s.now a.c.at 0 255 ≡ Last.Number n = search rules in
    let high = last_high a.s.now a.c.at 0 255 n read in
    omega (arith, high)
