-- One Replace or Add, by the place of the record with its LUID, and by the room for a new one. Assumes nothing.
use Rattle.std.proofs.Common.{Option, None}
use Prim.Native.Nat.{ℕ}
use mathlib.Core.Path.{◌≡◌, ap, ◌∙◌}
use Rattle.lists.specs.declared.Entry.{Entry}
use Rattle.records.specs.declared.Records.{Records}
use Rattle.records.specs.declared.Rule.{Rule}
use Rattle.record_moves.specs.Named.{place_of}
use Rattle.server_edits.specs.Edit.{room_for}
use Rattle.server_changes.specs.Step4.{make_at, make_code, paired, change_at, change, change_code_at}

module _ (rule : Rule) (c : Entry) (s : Records) where
  pub change_by : (w : Option ℕ) → place_of s (paired c) ≡ w → change rule c s ≡ change_at rule c s w
  unfolding change
  change_by w e = ap (change_at rule c s) e

  pub code_by : (w : Option ℕ) → place_of s (paired c) ≡ w → change_code_at rule c s (place_of s (paired c)) ≡ change_code_at rule c s w
  code_by w e = ap (change_code_at rule c s) e

  pub make_by : (r : Option ℕ) → place_of s (paired c) ≡ None → room_for s ≡ r → change rule c s ≡ make_at c s r
  make_by r e f = change_by None e ∙ ap (make_at c s) f

  pub make_code_by : (r : Option ℕ) → place_of s (paired c) ≡ None → room_for s ≡ r → change_code_at rule c s (place_of s (paired c)) ≡ make_code r
  make_code_by r e f = code_by None e ∙ ap make_code f
