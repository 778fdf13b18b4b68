use Prim.Native.Nat.{◌/◌}
use mathlib.Core.Path.{◌≡◌}
use native.Mathlib.Omega.{arith}
use Rattle.token.proofs.PutLaws.{put_seq}
use Rattle.image.proofs.put_four.Goals as goal

pub returns : goal.returns
returns c =
    let n = c.args.n in
    let third : n / 65536 ≡ n / 256 / 256 = omega arith in
    let fourth : n / 16777216 ≡ n / 256 / 256 / 256 = omega arith in
    rw (c.to_le_bytes.ensures, third, fourth) at (put_seq c.put_byte-p.ensures (put_seq c.put_byte-q.ensures (put_seq c.put_byte-r.ensures c.put_byte.ensures)))
