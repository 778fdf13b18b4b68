-- Steps 4 and 5 keep the server's table safe, whatever is changed or added, if texts and stations keep their rules. Assumes nothing.
use Rattle.std.proofs.Common.{ℕ}
use Rattle.std.proofs.Common.{Option, Some, None}
use mathlib.Core.Path.{◌≡◌, refl}
use mathlib.Core.List.{List, [], ◌∷◌}
use native.Mathlib.Omega.{arith}
use lib.ListN.{get_or}
use Rattle.text.specs.Wording.{IsWording}
use Rattle.records.specs.declared.Record.{Record}
use Rattle.records.specs.declared.Records.{Records}
use Rattle.records.specs.declared.Rule.{Rule}
use Rattle.records.specs.Server.{no_record, FineRecord}
use Rattle.lists.specs.declared.Entry.{Entry}
use Rattle.places.specs.Act.{in_order}
use Rattle.places.proofs.Every.{Every}
use Rattle.places.proofs.KeptLaws.{find_hit}
use Rattle.record_moves.specs.Named.{table_of, is_named, place_of, Safe}
use Rattle.record_moves.proofs.SafeLaws.{alone_same, alone_new, safe_put, safe_new}
use Rattle.server_edits.specs.Edit.{room_for}
use Rattle.server_edits.proofs.RoomLaws.{room_at}
use Rattle.server_changes.specs.Step4.{changed, made, make_at, paired, change_at, change}
use Rattle.server_changes.proofs.RuleLaws.{changed_all}

-- a change keeps a record's GUID and LUID; its text and station are those of the command or as they were
pub record Same (c : Entry) (x y : Record) : Type 0 where
  pub guid : y.guid ≡ x.guid
  pub luid : y.pairing.luid ≡ x.pairing.luid
  pub fine : IsWording c.wording → FineRecord x → FineRecord y

pub changed_same : (rule : Rule) (c : Entry) (x : Record) → Same c x (changed rule c x)
changed_same rule c x =
    changed_all rule c x (Same c x)
    (λ e. record { guid = refl; luid = refl; fine = λ t p. p }) (λ e. record { guid = refl; luid = refl; fine = λ t p. t }) (λ e b. record { guid = refl; luid = refl; fine = λ t p. p })

module _ (rule : Rule) (c : Entry) (t : IsWording c.wording) (s : Records) (h : Safe s) where
  make_safe : place_of s (paired c) ≡ None → Safe (make_at c s (room_for s))
  make_safe new = go (room_for s) refl
    where
      go : (f : Option ℕ) → room_for s ≡ f → Safe (make_at c s f)
      go None e = h
      go (Some i) e = let r = room_at s i e in safe_new s i h r.inside r.free (made c s) refl t (alone_new s i (made c s) new)

  pub change_safe : Safe (change rule c s)
  unfolding change
  change_safe = go (place_of s (paired c)) refl
    where
      go : (f : Option ℕ) → place_of s (paired c) ≡ f → Safe (change_at rule c s f)
      go None e = make_safe e
      go (Some i) e =
          let w = find_hit no_record (is_named (paired c)) (table_of s) i e in
          let x = get_or s.places i no_record in
          let k = changed_same rule c x in
          safe_put s i h (omega (arith, w.inside, h.formed.guids.long)) w.used (changed rule c x) k.guid (k.fine t (h.formed.records i w.used))
          (alone_same s i (changed rule c x) h.once w.used k.luid)

pub changes_safe : (rule : Rule) (cs : List Entry) → Every (λ c. IsWording c.wording) cs → (s : Records) → Safe s → Safe (in_order (change rule) cs s)
unfolding in_order
changes_safe rule [] t s h = h
changes_safe rule (c ∷ cs) t s h = changes_safe rule cs t.1 (change rule c s) (change_safe rule c t.0 s h)
