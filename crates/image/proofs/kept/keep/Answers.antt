use mathlib.Core.Path.{sym, ap, ◌∙◌}
use Rattle.image.specs.OnImage as on
use Rattle.image.specs.Call.{result_as}
use Rattle.image.proofs.OnImageLaws.{done_kept, refused_kept}
use Rattle.image.proofs.kept.keep.Goals as goal

pub returns-in-Ok : goal.returns-in-Ok
returns-in-Ok g c h num t =
    let q = c.args.side.now in
    let w = c.write.ensures h in
    done_kept g.K.Keeper.keeping q (num c.in-Ok.told) c.args.image.now t w.0 w.1 (result_as num c.args.done q) (ap (λ r. result_as num r q) c.in-Ok.is)

pub returns-in-Err : goal.returns-in-Err
returns-in-Err g c h num t =
    let q = c.args.side.now in
    refused_kept g.K.Keeper.keeping c.from-in-Err.result c.args.image.now t (result_as num c.args.done q)
    (ap (λ r. result_as num r q) c.in-Err.is ∙ ap (λ n. on.refused n) (sym (c.from-in-Err.ensures ∙ c.from.ensures)))
