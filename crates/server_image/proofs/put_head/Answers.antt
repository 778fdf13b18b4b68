use Prim.Native.Nat.{ℕ}
use mathlib.Core.Path.{ap, ap₂, subst}
use mathlib.Core.List.{[], ◌∷◌}
use Rattle.token.proofs.PutLaws.{put_seq}
use Rattle.image.specs.Four.{fours, Fits}
use Rattle.image.proofs.FlatLaws.{put_as}
use Rattle.server_image.specs.Image.{server_form}
use Rattle.server_image.proofs.put_head.Goals as goal

pub returns : goal.returns
returns c =
    let n = c.put_fours-p.ensures in
    let p = c.args.server.now in
    let e = c.awaits_number.ensures in (
      put_seq
          (put_as n.0 (ap (λ (k : ℕ). fours (server_form ∷ p.records.used ∷ p.records.guid ∷ p.link.anchor ∷ p.link.session ∷ k ∷ [])) e))
          (put_as c.put_text.ensures (ap₂ (λ (a b : ℕ). a ∷ b ∷ 0 ∷ 0 ∷ []) c.awaits_byte.ensures c.rule_byte.ensures)),
      record { used = n.1 1; guid = n.1 2; anchor = n.1 3; session = n.1 4; commands = subst Fits e (n.1 5) },
    )
