use Prim.Native.Nat.{ℕ, ◌+◌, ◌-◌}
use mathlib.Core.Path.{◌≡◌, ap, ◌∙◌}
use lib.ListN.{length, take, drop, length-take, length-drop}
use lib.Seq.{sets}
use native.Mathlib.Omega.{arith}
use Rattle.image.proofs.FlatLaws.{sets_whole}
use Rattle.lilmorask_store.proofs.copy_image.Goals as goal

pub returns : goal.returns
returns c =
    let image = c.args.image.now in
    let at = c.args.at in
    let rest = drop at c.args.slots.now in
    let size : at + length image - at ≡ length image = omega arith in
    let long = length-take (length image) rest in
    let there = length-drop at c.args.slots.now in
    c.put_text.ensures.bytes ∙ ap (λ (k : ℕ). sets image 0 (take k rest)) size ∙ sets_whole image (take (length image) rest) (omega (arith, long, there, c.requires))
