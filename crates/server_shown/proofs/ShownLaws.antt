-- What is shown of a place: by whether there is an image, whether there is such a place, and whether it is in use.
-- Assumes nothing.
use Rattle.std.proofs.Common.{Option, None, Some}
use Prim.Native.Nat.{ℕ, ◌≤◌, ◌<◌}
use mathlib.Core.Path.{◌≡◌, sym, ap, ap₂, ◌∙◌}
use mathlib.Core.Bool.{true, false}
use mathlib.Core.List.{List}
use lib.Dec.{leb}
use lib.ListN.{get_or}
use borrow.Author.Tests.{le-leb, lt-leb}
use Rattle.places.specs.Set.{all_places, in_use}
use Rattle.places.proofs.Choice.{chosen, passed}
use Rattle.records.specs.declared.Server.{Server}
use Rattle.records.specs.Server.{no_record}
use Rattle.image.specs.OnImage.{no_image}
use Rattle.image.specs.Shown.{shown}
use Rattle.server_shown.specs.Shown.{record_numbers, record_shown_in}

module _ (x : Option Server) (i : ℕ) (ns t : List ℕ) where
  pub shown_none : x ≡ None → shown no_image ns t ≡ record_shown_in x i ns t
  shown_none e = sym (ap (λ (y : Option Server). record_shown_in y i ns t) e)

  module _ (p : Server) (e : x ≡ Some p) where
    pub shown_past : all_places ≤ i → shown 3 ns t ≡ record_shown_in x i ns t
    shown_past h = sym (ap (λ (y : Option Server). record_shown_in y i ns t) e ∙ chosen (leb all_places i) _ _ (le-leb all_places i h))

    module _ (h : i < all_places) where
      pub shown_free : in_use p.records.used i ≡ false → shown 3 ns t ≡ record_shown_in x i ns t
      shown_free u = sym (ap (λ (y : Option Server). record_shown_in y i ns t) e ∙ passed (leb all_places i) _ _ (lt-leb all_places i h) ∙ passed (in_use p.records.used i) _ _ u)

      pub shown_used : in_use p.records.used i ≡ true → (ms w : List ℕ) → ms ≡ record_numbers (get_or p.records.places i no_record) → w ≡ (get_or p.records.places i no_record).wording.text.bytes
          → shown 0 ms w ≡ record_shown_in x i ns t
      shown_used u ms w a b =
          ap₂ (λ (k l : List ℕ). shown 0 k l) a b
          ∙ sym (ap (λ (y : Option Server). record_shown_in y i ns t) e ∙ passed (leb all_places i) _ _ (lt-leb all_places i h) ∙ chosen (in_use p.records.used i) _ _ u)
