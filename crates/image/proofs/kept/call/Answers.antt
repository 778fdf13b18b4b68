use mathlib.Core.Path.{◌≡◌, refl, sym}
use Rattle.std.proofs.Common.{Some}
use Rattle.std.specs.Fn.{FnOnceReturnsAtMut}
use Rattle.image.specs.Keeping.{standing}
use Rattle.image.specs.Call.{result_as}
use Rattle.image.proofs.OnImageLaws.{kept_left}
use Rattle.image.proofs.kept.call.Goals as goal

pub returns : goal.returns
returns g c num h does t =
    let k = g.K.Keeper.keeping in
    let s = c.args.image.now in
    let p = c.in-Some.side in
    let r = c.f-done.result in
    let q = c.f-done.new.arg2 in
    let e : standing k s ≡ Some p = sym c.in-Some.ensures in
    let ran : FnOnceReturnsAtMut g.F.FnOnce c.args.f p r q = record { shown = _; shows = refl; left = _; met = c.f-done.ensures; leaves = refl } in
    let d = does p r q ran in
    kept_left k s t h p e (result_as num r q) d.0 (c.keep.ensures (d.1 (g.met.K.Keeper.standing_in_range s p e)) num t)
