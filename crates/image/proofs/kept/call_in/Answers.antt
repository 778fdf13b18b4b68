use mathlib.Core.Path.{◌≡◌, refl, sym, ap, ◌∙◌}
use Rattle.std.proofs.Common.{Option, Some}
use Rattle.image.specs.Keeping.{standing}
use Rattle.image.specs.OnImage as on
use Rattle.image.specs.Call.{result_as, ReturnsIn}
use Rattle.image.proofs.OnImageLaws.{kept_left}
use Rattle.image.proofs.kept.call_in.Goals as goal

pub returns : goal.returns
returns g c num h does t =
    let k = g.K.Keeper.keeping in
    let s = c.args.image.now in
    let out = c.args.out.now in
    let p = c.in-Some.side in
    let r = c.f-done.result in
    let q = c.f-done.new.arg2 in
    let e : standing k s ≡ Some p = sym c.in-Some.ensures in
    let ran : ReturnsIn g.F.FnOnce c.args.f p out r q c.f-done.new.arg3 = record { shown = _; shows = refl; lent = _; lends = refl; left = _; leaves = refl; back = _; gives = refl; met = c.f-done.ensures } in
    let d = does p r q c.f-done.new.arg3 ran in (
      kept_left k s t (on.result_in h) p e (result_as num r q) d.0.0 (c.keep.ensures (d.1 (g.met.K.Keeper.standing_in_range s p e)) num t),
      d.0.1 ∙ sym (ap (λ (x : Option _). on.output_in h x out) e),
    )
