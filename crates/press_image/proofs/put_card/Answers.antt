use Prim.Native.Nat.{ℕ}
use mathlib.Core.Path.{ap₂, ◌∙◌}
use mathlib.Core.List.{[], ◌∷◌}
use Rattle.token.proofs.PutLaws.{put_seq}
use Rattle.image.proofs.FlatLaws.{put_as}
use Rattle.press_image.proofs.ImageLaws.{on_told}
use Rattle.press_image.proofs.put_card.Goals as goal

pub returns : goal.returns
returns c =
    let x = c.args.x.now in
    let on = c.from.ensures ∙ on_told x.report.on in
    let n = c.put_fours-p.ensures in
    let w = c.put_bytes.ensures in (
      put_seq n.0 (put_seq (put_as c.put_text-q.ensures (ap₂ (λ (a b : ℕ). a ∷ b ∷ x.wording.text.len ∷ x.wording.station ∷ []) on c.mark_byte.ensures)) w.0),
      record { luid = n.1 0; fp = n.1 1; report_guid = n.1 2; report_luid = n.1 3; report_fp = n.1 4; text = w.1 },
    )
