use Prim.Native.Nat.{ℕ}
use mathlib.Core.Path.{ap}
use mathlib.Core.List.{[], ◌∷◌}
use Rattle.token.proofs.PutLaws.{put_seq}
use Rattle.image.proofs.FlatLaws.{put_as}
use Rattle.press_image.proofs.put_head.Goals as goal

pub returns : goal.returns
returns c =
    let n = c.put_fours-p.ensures in (
      put_seq n.0 (put_as c.put_text.ensures (ap (λ (b : ℕ). c.args.press.now.cards.station ∷ b ∷ 0 ∷ 0 ∷ []) c.awaits_byte.ensures)),
      record { used = n.1 1; luid = n.1 2; fp = n.1 3; anchor = n.1 4; session = n.1 5 },
    )
