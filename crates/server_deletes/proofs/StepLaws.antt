-- The turns of the loops of step 2 over the commands, and a record that is deleted in its place. Assumes nothing.
use Prim.Native.Nat.{suc, ◌≤◌}
use mathlib.Core.Path.{◌≡◌, refl, ap, ◌∙◌}
use mathlib.Core.Bool.{Bool, true, false, cond, ◌||◌}
use mathlib.Core.List.{List, [], ◌∷◌, map}
use native.Mathlib.Omega.{arith}
use lib.Dec.{eqb}
use lib.ListN.{length}
use Rattle.places.proofs.Choice.{chosen, passed}
use Rattle.terms.specs.declared.Luid.{Luid}
use Rattle.lists.specs.declared.Entry.{Entry}
use Rattle.statuses.specs.Status.{name_of}
use Rattle.ranks.specs.Numbers.{luid_in, has_number}
use Rattle.server_deletes.specs.Step2.{is_delete, deletes_in, names_luid}

module _ (l m : List Entry) (c : Entry) (here : l ≡ c ∷ m) where
  -- a Delete counts, and another command ends the count
  pub deletes_more : is_delete (name_of c.fields.kind) ≡ true → deletes_in l ≡ suc (deletes_in m)
  unfolding deletes_in
  deletes_more e = ap deletes_in here ∙ chosen _ _ _ e

  pub deletes_stop : is_delete (name_of c.fields.kind) ≡ false → deletes_in l ≡ 0
  unfolding deletes_in
  deletes_stop e = ap deletes_in here ∙ passed _ _ _ e

pub deletes_end : (l : List Entry) → l ≡ [] → deletes_in l ≡ 0
unfolding deletes_in
deletes_end l e = ap deletes_in e

-- no more Deletes than commands
pub deletes_most : (l : List Entry) → deletes_in l ≤ length l
unfolding deletes_in
deletes_most [] = omega arith
deletes_most (c ∷ cs) = go (is_delete (name_of c.fields.kind)) (deletes_most cs)
  where
    go : (b : Bool) → deletes_in cs ≤ length cs → cond b (suc (deletes_in cs)) 0 ≤ suc (length cs)
    go true h = omega arith
    go false h = omega arith

-- ---- the LUIDs of commands as numbers
pub names_number : (cs : List Entry) (l : Luid) → names_luid cs l ≡ has_number l.0 (map luid_in cs)
unfolding names_luid has_number
names_number [] l = refl
names_number (c ∷ cs) l = ap (λ (b : Bool). eqb (luid_in c) l.0 || b) (names_number cs l)
