use mathlib.Core.Path.{sym, ap, ◌∙◌}
use Rattle.image.specs.Keeping.{standing}
use Rattle.image.proofs.FlatLaws.{sets_whole}
use Rattle.server_image.specs.Image.{image_of, server_keeping}
use Rattle.server_image.proofs.ImageLaws.{image_long, kept_stands}
use Rattle.server_image.proofs.ServerImageKeeper.write.Goals as goal

pub returns : goal.returns
returns c ranged =
    let w = c.write.ensures in
    let p = c.args.side.now in
    let whole = w.0 ∙ sets_whole c.args.image.now (image_of p) (image_long p w.1 ∙ sym c.requires) in
    (whole, ap (standing server_keeping) whole ∙ kept_stands p w.1 ranged)
