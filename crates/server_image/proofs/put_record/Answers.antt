use Prim.Native.Nat.{ℕ}
use mathlib.Core.Path.{ap}
use mathlib.Core.List.{[], ◌∷◌}
use Rattle.token.proofs.PutLaws.{put_seq}
use Rattle.image.proofs.FlatLaws.{put_as}
use Rattle.server_image.proofs.put_record.Goals as goal

pub returns : goal.returns
returns c =
    let x = c.args.x.now in
    let n = c.put_fours-p.ensures in
    let w = c.put_bytes.ensures in (
      put_seq n.0 (put_seq (put_as c.put_text-q.ensures (ap (λ (b : ℕ). b ∷ x.wording.text.len ∷ x.wording.station ∷ 0 ∷ []) c.mark_byte.ensures)) w.0),
      record { guid = n.1 0; luid = n.1 1; known = n.1 2; text = w.1 },
    )
