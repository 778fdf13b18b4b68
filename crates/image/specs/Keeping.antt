-- How a side is kept in bytes, whichever side it is, and which side stands in bytes.
use Rattle.std.specs.Prelude.{Option, None, Some}
use Rattle.std.specs.Prelude.{ℕ, Bool, cond, ◌&&◌, List, eqb, length}
use Rattle.image.specs.Same.{same}

-- how many bytes an image has; the image of a side; the side that stands in bytes, whatever they are; whether a side is in range
pub record Keeping (S : Type 0) : Type 0 where
  pub size : ℕ
  pub image_of : S → List ℕ
  pub side_in : List ℕ → S
  pub in_range : S → Bool

-- bytes are an image where they have its length, are the image of the side that stands in them, and this side is in range: so there is no second
-- spelling and no byte that is not looked at, and what the laws ask of a table holds of every image, by whomever it was written
abbrev pub is_image : {S : Type 0} → Keeping S → List ℕ → Bool
is_image k s = eqb (length s) k.size && (same (k.image_of (k.side_in s)) s && k.in_range (k.side_in s))

-- the side that stands in an image
abbrev pub standing : {S : Type 0} → Keeping S → List ℕ → Option S
standing k s = cond (is_image k s) (Some (k.side_in s)) None
