use Prim.Native.Nat.{ℕ}
use mathlib.Core.Path.{refl, sym, ◌∙◌}
use lib.ListN.{replicate, length-replicate}
use Rattle.image.proofs.KeepingLaws.{not_standing, looked_told, is_standing, other_bytes, out_of_range}
use Rattle.press_image.specs.Image.{image_size, press_keeping}
use Rattle.press_image.proofs.ImageLaws.{image_long}
use Rattle.press_image.proofs.read.Goals as goal
use Rattle.press_image.proofs.read.Goals.{else-eq-via-then-eq+else-in_range, else-eq-via-else-eq}

pub returns-then-s-ne-SIZE : goal.returns-then-s-ne-SIZE
returns-then-s-ne-SIZE c = not_standing press_keeping c.args.s.now c.if-s-ne-SIZE.true

pub returns-then-in_range : goal.returns-then-in_range
returns-then-in_range c =
    let p = c.press_at-press in
    let w = c.write.ensures in
    let s = c.args.s.now in
    is_standing press_keeping s p.result c.eq.result c.in_range.result
    (looked_told press_keeping s (replicate image_size 0) c.as_slice.result.now p.result c.eq.result c.in_range.result c.if-s-ne-SIZE.false (length-replicate {A = ℕ} image_size 0 ∙ sym (image_long _ w.1)) p.ensures (c.as_slice.ensures ∙ w.0) c.eq.ensures c.in_range.ensures)
    c.if-eq.true c.if-in_range.true

pub returns-else-eq : goal.returns-else-eq
returns-else-eq c =
    let p = c.press_at-press in
    let w = c.write.ensures in
    let s = c.args.s.now in
    elim c.else-eq.branch [
      | else-eq-via-then-eq+else-in_range v ↦ out_of_range press_keeping s p.result c.eq.result v.in_range.result (looked_told press_keeping s (replicate image_size 0) c.as_slice.result.now p.result c.eq.result v.in_range.result c.if-s-ne-SIZE.false (length-replicate {A = ℕ} image_size 0 ∙ sym (image_long _ w.1)) p.ensures (c.as_slice.ensures ∙ w.0) c.eq.ensures v.in_range.ensures) v.if-eq.true v.if-in_range.false
      | else-eq-via-else-eq v ↦ other_bytes press_keeping s p.result c.eq.result (press_keeping.in_range p.result) (looked_told press_keeping s (replicate image_size 0) c.as_slice.result.now p.result c.eq.result (press_keeping.in_range p.result) c.if-s-ne-SIZE.false (length-replicate {A = ℕ} image_size 0 ∙ sym (image_long _ w.1)) p.ensures (c.as_slice.ensures ∙ w.0) c.eq.ensures refl) v.if-eq.false
    ]
