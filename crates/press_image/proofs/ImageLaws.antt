-- The image of a press reads back, and has its length.
-- Assumes nothing.
use Rattle.std.proofs.Common.{Some}
use Prim.Native.Nat.{ℕ, ◌+◌, ◌*◌}
use mir.Val.{bool_byte}
use mathlib.Core.Path.{◌≡◌, refl, sym, ap, ap₂, ◌∙◌}
use mathlib.Core.Bool.{Bool, true, false}
use mathlib.Core.List.{List, [], ◌∷◌, ◌++◌, append_assoc}
use lib.Dec.{eqb}
use lib.ListN.{length, get_or, take, drop, length-append}
use lib.Seq.{take_at, drop-append-add}
use native.Mathlib.Omega.{arith}
use Rattle.places.specs.Set.{all_places}
use Rattle.places.proofs.Every.{every}
use Rattle.text.specs.Text.{longest}
use Rattle.terms.specs.declared.Mode.TheVariants.{Normal, Recovery}
use Rattle.terms.specs.Number.{luid, guid}
use Rattle.cards.specs.declared.Mark.{Mark}
use Rattle.cards.specs.declared.Mark.TheVariants.{Clean, Added, Changed, Deleted}
use Rattle.cards.specs.declared.Card.{Card}
use Rattle.cards.specs.declared.Awaits.{Awaits}
use Rattle.cards.specs.declared.Press.{Press}
use Rattle.image.specs.Four.{four, fours, four_in}
use Rattle.image.specs.Sum.{sum_of}
use Rattle.image.proofs.FourLaws.{four_back, byte_after, four_after}
use Rattle.image.proofs.FlatLaws.{flat_length, each_back}
use Rattle.image.specs.Keeping.{standing}
use Rattle.image.proofs.KeepingLaws.{image_stands}
use Rattle.press_sends.specs.InRange.{PressInRange}
use Rattle.press_range.proofs.RangeLaws.{press_tested}
use Rattle.press_image.specs.Image.{head_size, card_size, image_size, press_form, on_byte, mark_byte, mark_of, awaits_byte, awaits_of, card_bytes, card_in, cards_bytes, cards_in, head_bytes, body_of, image_of, press_in, press_keeping, StorableCard, Storable}

-- ---- what is no number
mark_back : (m : Mark) → mark_of (mark_byte m) ≡ m
mark_back Clean = refl
mark_back Added = refl
mark_back Changed = refl
mark_back Deleted = refl

pub on_told : (b : Bool) → bool_byte b ≡ on_byte b
on_told true = refl
on_told false = refl

on_back : (b : Bool) → eqb (on_byte b) 1 ≡ b
on_back true = refl
on_back false = refl

awaits_back : (a : Awaits) → awaits_of (awaits_byte a) ≡ a
awaits_back Awaits.Nothing = refl
awaits_back Awaits.Two = refl
awaits_back (Awaits.Four Normal) = refl
awaits_back (Awaits.Four Recovery) = refl
awaits_back Awaits.Six = refl

-- ---- a card
card_of_lem : ℕ → ℕ → ℕ → ℕ → ℕ → Bool → Mark → ℕ → ℕ → List ℕ → Card
card_of_lem a b c d e on m n s w =
    record {
      luid = luid a;
      fp = b;
      report = record { on = on; guid = guid c; luid = luid d; fp = e };
      wording = record { text = record { len = n; bytes = w }; station = s };
      mark = m;
    }

-- that stands first
card_first : (x : Card) (rest : List ℕ) → StorableCard x → card_in (card_bytes x ++ rest) 0 ≡ x
unfolding card_in card_of_lem
card_first x rest h =
    let l = card_bytes x ++ rest in
    let a : four_in l 0 ≡ x.luid.0 = four_back x.luid.0 _ h.luid in
    let b : four_in l 4 ≡ x.fp = four_after (four x.luid.0) _ 0 4 refl ∙ four_back x.fp _ h.fp in
    let c : four_in l 8 ≡ x.report.guid.0 = four_after (fours (x.luid.0 ∷ x.fp ∷ [])) _ 0 8 refl ∙ four_back x.report.guid.0 _ h.report_guid in
    let d : four_in l 12 ≡ x.report.luid.0 = four_after (fours (x.luid.0 ∷ x.fp ∷ x.report.guid.0 ∷ [])) _ 0 12 refl ∙ four_back x.report.luid.0 _ h.report_luid in
    let e : four_in l 16 ≡ x.report.fp = four_after (fours (x.luid.0 ∷ x.fp ∷ x.report.guid.0 ∷ x.report.luid.0 ∷ [])) _ 0 16 refl ∙ four_back x.report.fp _ h.report_fp in
    let w : take longest (drop 24 l) ≡ x.wording.text.bytes = take_at x.wording.text.bytes rest longest h.text in
    ap₂ (λ (i j : ℕ). card_of_lem i j (four_in l 8) (four_in l 12) (four_in l 16) (eqb (get_or l 20 0) 1) (mark_of (get_or l 21 0)) (get_or l 22 0) (get_or l 23 0) (take longest (drop 24 l))) a b
    ∙ ap₂ (λ (i j : ℕ). card_of_lem x.luid.0 x.fp i j (four_in l 16) (eqb (get_or l 20 0) 1) (mark_of (get_or l 21 0)) (get_or l 22 0) (get_or l 23 0) (take longest (drop 24 l))) c d
    ∙ ap₂ (λ (i : ℕ) (v : List ℕ). card_of_lem x.luid.0 x.fp x.report.guid.0 x.report.luid.0 i (eqb (get_or l 20 0) 1) (mark_of (get_or l 21 0)) (get_or l 22 0) (get_or l 23 0) v) e w
    ∙ ap₂ (λ (o : Bool) (m : Mark). card_of_lem x.luid.0 x.fp x.report.guid.0 x.report.luid.0 x.report.fp o m x.wording.text.len x.wording.station x.wording.text.bytes) (on_back x.report.on) (mark_back x.mark)

-- that stands after other bytes
card_after_lem : (pre l : List ℕ) → card_in (pre ++ l) (length pre) ≡ card_in l 0
unfolding card_in
card_after_lem pre l =
    rw (
      four_after pre l 0 (length pre) (omega arith),
      four_after pre l 4 (length pre + 4) refl,
      four_after pre l 8 (length pre + 8) refl,
      four_after pre l 12 (length pre + 12) refl,
      four_after pre l 16 (length pre + 16) refl,
      byte_after pre l 20 (length pre + 20) refl,
      byte_after pre l 21 (length pre + 21) refl,
      byte_after pre l 22 (length pre + 22) refl,
      byte_after pre l 23 (length pre + 23) refl,
      drop-append-add pre l 24,
    )

-- ---- the places
card_long : (x : Card) → StorableCard x → length (card_bytes x) ≡ card_size
card_long x h = omega (arith, h.text)

-- ---- all of it
pub body_long : (p : Press) → Storable p → length (body_of p) ≡ 1564
unfolding body_of
body_long p h =
    let n = flat_length card_bytes card_size p.cards.places (every StorableCard (λ x. length (card_bytes x) ≡ card_size) card_long p.cards.places h.cards) in
    length-append (head_bytes p) (cards_bytes p.cards.places) ∙ ap (λ (k : ℕ). head_size + k) (n ∙ ap (λ (k : ℕ). card_size * k) h.long)

pub image_long : (p : Press) → Storable p → length (image_of p) ≡ image_size
unfolding image_of
image_long p h = length-append (body_of p) (four (sum_of (body_of p))) ∙ ap (λ (k : ℕ). k + 4) (body_long p h)

press_of : ℕ → ℕ → ℕ → ℕ → ℕ → ℕ → Awaits → List Card → Press
press_of u l f a s st w xs = record { cards = record { used = u; places = xs; luid = l; fp = f; station = st }; anchor = a; session = s; awaits = w }

pub press_back : (p : Press) → Storable p → press_in (image_of p) ≡ p
unfolding image_of body_of press_in press_of
press_back p h =
    let rest = cards_bytes p.cards.places ++ four (sum_of (body_of p)) in
    let s = head_bytes p ++ rest in
    let g = h.head in
    let u : four_in s 4 ≡ p.cards.used = four_after (four press_form) _ 0 4 refl ∙ four_back p.cards.used _ g.used in
    let l : four_in s 8 ≡ p.cards.luid = four_after (fours (press_form ∷ p.cards.used ∷ [])) _ 0 8 refl ∙ four_back p.cards.luid _ g.luid in
    let f : four_in s 12 ≡ p.cards.fp = four_after (fours (press_form ∷ p.cards.used ∷ p.cards.luid ∷ [])) _ 0 12 refl ∙ four_back p.cards.fp _ g.fp in
    let a : four_in s 16 ≡ p.anchor = four_after (fours (press_form ∷ p.cards.used ∷ p.cards.luid ∷ p.cards.fp ∷ [])) _ 0 16 refl ∙ four_back p.anchor _ g.anchor in
    let n : four_in s 20 ≡ p.session = four_after (fours (press_form ∷ p.cards.used ∷ p.cards.luid ∷ p.cards.fp ∷ p.anchor ∷ [])) _ 0 20 refl ∙ four_back p.session _ g.session in
    let xs : cards_in s ≡ p.cards.places = each_back card_in card_size card_bytes StorableCard card_first card_after_lem card_long (head_bytes p) p.cards.places (four (sum_of (body_of p))) head_size all_places refl (sym h.long) h.cards in
    ap press_in (append_assoc (head_bytes p) (cards_bytes p.cards.places) (four (sum_of (body_of p))))
    ∙ ap₂ (λ (i j : ℕ). press_of i j (four_in s 12) (four_in s 16) (four_in s 20) (get_or s 24 0) (awaits_of (get_or s 25 0)) (cards_in s)) u l
    ∙ ap₂ (λ (i j : ℕ). press_of p.cards.used p.cards.luid i j (four_in s 20) (get_or s 24 0) (awaits_of (get_or s 25 0)) (cards_in s)) f a
    ∙ ap₂ (λ (i : ℕ) (w : Awaits). press_of p.cards.used p.cards.luid p.cards.fp p.anchor i (get_or s 24 0) w (cards_in s)) n (awaits_back p.awaits)
    ∙ ap (λ (v : List Card). press_of p.cards.used p.cards.luid p.cards.fp p.anchor p.session p.cards.station p.awaits v) xs

-- ---- in the image of a press in range stands this press
pub kept_stands : (p : Press) → Storable p → PressInRange p → standing press_keeping (image_of p) ≡ Some p
kept_stands p h r = image_stands press_keeping p (image_long p h) (press_back p h) (press_tested p h.long (omega (arith, h.head.used)) r)
