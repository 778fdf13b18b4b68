use Prim.Native.Nat.{ℕ, ◌≤◌}
use mathlib.Core.Path.{sym, subst}
use lib.ListN.{length}
use Rattle.token.specs.Put.{Put}
use lib.Seq.{length-take-le}
use native.Mathlib.Omega.{arith}
use Rattle.token.proofs.PutLaws.{put_seq, put_length}
use Rattle.image.proofs.SumLaws.{sealed}
use Rattle.press_image.specs.Image.{body_of, image_of, Storable}
use Rattle.press_image.proofs.ImageLaws.{body_long}
use Rattle.press_image.proofs.write.Goals as goal
use Rattle.press_image.proofs.write.Goals.{After-put_cards-q}

-- what stands in front of the sum
front : (c : After-put_cards-q) → Storable c.args.press.now × Put c.args.out.now c.put_cards-q.new.out 0 c.put_cards-q.result (body_of c.args.press.now)
unfolding body_of
front c =
    let h = c.put_head-p.ensures in
    let k = c.put_cards-q.ensures in
    (record { head = h.1; cards = k.1; long = k.2 }, put_seq h.0 k.0)

-- as long as it is
long : (c : After-put_cards-q) → (c.put_cards-q.result ≤ length c.put_cards-q.new.out) × (c.put_cards-q.result ≤ 65536)
long c =
    let f = front c in
    let n = body_long _ f.0 in
    let l = put_length f.1 in
    (omega (arith, f.1.place, l, n), omega (arith, f.1.place, n))

pub slice_bounds-sum-end-2 : goal.slice_bounds-sum-end-2
slice_bounds-sum-end-2 c = sym (length-take-le _ _ (long (goal.at.slice_bounds-sum-end-2 c).After-put_cards-q).0)

pub sum-sum-requires : goal.sum-sum-requires
sum-sum-requires c = let h = long (goal.at.sum-sum-requires c).After-put_cards-q in subst (λ (n : ℕ). n ≤ 65536) (sym (length-take-le _ _ h.0)) h.1

pub returns : goal.returns
unfolding image_of
returns c =
    let p = c.args.press.now in
    let f = front (goal.at.returns c).After-put_cards-q in
    let n = body_long p f.0 in
    (sealed (body_of p) (omega (arith, n, c.requires)) f.1 c.sum-sum.ensures c.put_four.ensures, f.0)
