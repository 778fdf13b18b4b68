-- A press that stands in an image is in range, whoever wrote the bytes.
use Rattle.std.specs.Prelude.{ℕ, Some, ◌≡◌, List, length}
use mathlib.Core.Path.{subst}
use Rattle.places.specs.Set.{all_places}
use Rattle.cards.specs.declared.Press.{Press}
use Rattle.image.specs.Keeping.{standing}
use Rattle.image.proofs.FlatLaws.{each_long}
use Rattle.image.proofs.KeepingLaws.{standing_is}
use Rattle.press_sends.specs.InRange.{PressInRange}
use Rattle.press_range.proofs.RangeLaws.{tested_press}
use Rattle.press_image.specs.Image.{head_size, card_size, card_in, press_in, press_keeping}

places_long : (s : List ℕ) → length (press_in s).cards.places ≡ all_places
unfolding press_in
places_long s = each_long card_in card_size s head_size all_places

pub standing_in_range : (s : List ℕ) (p : Press) → standing press_keeping s ≡ Some p → PressInRange p
standing_in_range s p h =
    let x = standing_is press_keeping s p h in
    tested_press p (subst (λ (q : Press). length q.cards.places ≡ all_places) x.read (places_long s)) x.tested
