-- What is shown of a place: by whether there is an image, whether there is such a place, and whether it is in use.
-- Assumes nothing.
use Rattle.std.proofs.Common.{Option, None, Some}
use Prim.Native.Nat.{ℕ, ◌≤◌, ◌<◌}
use mathlib.Core.Path.{◌≡◌, sym, ap, ap₂, ◌∙◌}
use mathlib.Core.Bool.{true, false}
use mathlib.Core.List.{List}
use lib.Dec.{leb}
use lib.ListN.{get_or}
use borrow.Author.Tests.{le-leb, lt-leb}
use Rattle.places.specs.Set.{all_places, in_use}
use Rattle.places.proofs.Choice.{chosen, passed}
use Rattle.cards.specs.declared.Press.{Press}
use Rattle.cards.specs.Press.{no_card}
use Rattle.image.specs.OnImage.{no_image}
use Rattle.image.specs.Shown.{shown}
use Rattle.press_shown.specs.Shown.{card_numbers, card_shown_in}

module _ (x : Option Press) (i : ℕ) (ns t : List ℕ) where
  pub shown_none : x ≡ None → shown no_image ns t ≡ card_shown_in x i ns t
  shown_none e = sym (ap (λ (y : Option Press). card_shown_in y i ns t) e)

  module _ (p : Press) (e : x ≡ Some p) where
    pub shown_past : all_places ≤ i → shown 3 ns t ≡ card_shown_in x i ns t
    shown_past h = sym (ap (λ (y : Option Press). card_shown_in y i ns t) e ∙ chosen (leb all_places i) _ _ (le-leb all_places i h))

    module _ (h : i < all_places) where
      pub shown_free : in_use p.cards.used i ≡ false → shown 3 ns t ≡ card_shown_in x i ns t
      shown_free u = sym (ap (λ (y : Option Press). card_shown_in y i ns t) e ∙ passed (leb all_places i) _ _ (lt-leb all_places i h) ∙ passed (in_use p.cards.used i) _ _ u)

      pub shown_used : in_use p.cards.used i ≡ true → (ms w : List ℕ) → ms ≡ card_numbers (get_or p.cards.places i no_card) → w ≡ (get_or p.cards.places i no_card).wording.text.bytes
          → shown 0 ms w ≡ card_shown_in x i ns t
      shown_used u ms w a b =
          ap₂ (λ (k l : List ℕ). shown 0 k l) a b
          ∙ sym (ap (λ (y : Option Press). card_shown_in y i ns t) e ∙ passed (leb all_places i) _ _ (lt-leb all_places i h) ∙ chosen (in_use p.cards.used i) _ _ u)
