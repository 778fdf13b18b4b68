-- What is said keeps its rule: by a press or the server's people, and where nothing is said.
-- Assumes nothing.
use Prim.Native.Nat.{ℕ, ◌≤◌}
use mathlib.Core.Path.{refl}
use mathlib.Core.List.{List, []}
use native.Mathlib.Omega.{arith}
use Rattle.text.specs.Text.{GoodText, all_ok, text_ok}
use Rattle.text.specs.Wording.{last_station, signed_by, no_wording, IsWording}

pub signed_well : (n : ℕ) (l : List ℕ) → n ≤ last_station → GoodText l → IsWording (signed_by n l)
signed_well n l h g = record { text = (l, g, refl); station = h }

pub nothing_said : IsWording no_wording
unfolding all_ok text_ok
nothing_said = signed_well 0 [] (omega arith) refl
