-- The statuses of the press's commands in Pkg 4 are in the written form, one for each command. Assumes nothing.
use Rattle.std.proofs.Common.{Option, Some, None}
use Prim.Native.Nat.{ℕ, ◌+◌, ◌≤◌}
use mathlib.Core.Path.{◌≡◌}
use mathlib.Core.Bool.{Bool, true, false, cond}
use mathlib.Core.List.{List, [], ◌∷◌}
use native.Mathlib.Omega.{arith}
use lib.ListN.{length, get_or, length-append, length-take, length-drop}
use Rattle.terms.specs.declared.Mode.{Mode}
use Rattle.records.specs.declared.Mark.{Mark}
use Rattle.records.specs.declared.Mark.TheVariants.{Clean, Dirty, Offered, Deleted}
use Rattle.records.specs.declared.Records.{Records}
use Rattle.records.specs.declared.Rule.{Rule}
use Rattle.records.specs.Server.{no_record}
use Rattle.lists.specs.declared.Entry.{Entry}
use Rattle.message.specs.Message.{empty_statuses}
use Rattle.places.specs.Act.{replies}
use Rattle.places.proofs.Every.{Every, every_append}
use Rattle.places.proofs.Turns.{replies_length}
use Rattle.statuses.specs.declared.Name.{Name}
use Rattle.statuses.specs.Status.{name_of, cmd_of, empty_status}
use Rattle.record_moves.specs.Named.{place_of}
use Rattle.sendable.specs.Sendable.{Code, Cmd, Sendable}
use Rattle.sendable.proofs.ElementLaws.{empty_status_lem}
use Rattle.places.proofs.OrderLaws.{replies_each}
use Rattle.server_reports.specs.Step1.{is_late}
use Rattle.server_edits.specs.Edit.{room_for}
use Rattle.server_deletes.specs.Step2.{lost_code, deleted, delete, delete_code_at, delete_status, deletes_in, deletes_of}
use Rattle.server_deletes.proofs.StepLaws.{deletes_most}
use Rattle.server_changes.proofs.RuleLaws.{newer_code_all}
use Rattle.server_changes.specs.Step4.{newer_code, make_code, paired, change, change_code_at, change_status}
use Rattle.server_merge.specs.Merge.{changes_of, up_to3, statuses_for}

-- ---- the codes
lost_code_lem : (m : Mark) → Code (lost_code m)
lost_code_lem Clean = (omega arith, omega arith)
lost_code_lem Deleted = (omega arith, omega arith)
lost_code_lem Dirty = (omega arith, omega arith)
lost_code_lem Offered = (omega arith, omega arith)

delete_code : (s : Records) (f : Option ℕ) → Code (delete_code_at s f)
delete_code s None = (omega arith, omega arith)
delete_code s (Some i) = lost_code_lem (get_or s.places i no_record).pairing.mark

newer_code_lem : (rule : Rule) (b : Bool) (m : Mark) → Code (cond b 200 (newer_code rule m))
newer_code_lem rule true m = (omega arith, omega arith)
newer_code_lem rule false m = newer_code_all rule Code (omega arith, omega arith) (omega arith, omega arith) (omega arith, omega arith) m

make_code_lem : (f : Option ℕ) → Code (make_code f)
make_code_lem None = (omega arith, omega arith)
make_code_lem (Some i) = (omega arith, omega arith)

change_code : (rule : Rule) (c : Entry) (s : Records) (f : Option ℕ) → Code (change_code_at rule c s f)
change_code rule c s None = make_code_lem (room_for s)
change_code rule c s (Some i) = newer_code_lem rule (is_late c (get_or s.places i no_record)) (get_or s.places i no_record).pairing.mark

-- ---- a status
cmd_of_lem : (m : Name) → Cmd (cmd_of m)
cmd_of_lem Name.Add = (omega arith, omega arith)
cmd_of_lem Name.Replace = (omega arith, omega arith)
cmd_of_lem Name.Delete = (omega arith, omega arith)

-- (the greatest CmdRef)
abbrev top : ℕ
top = 4294967295

status_sendable : (ref : ℕ) → ref ≤ top → (m : Name) (code : ℕ) → Code code → Sendable empty_statuses (empty_status ref m code)
status_sendable ref r m code c = empty_status_lem 2 ref (cmd_of m) code (omega arith, omega arith) (omega arith, r) (cmd_of_lem m) c

-- ---- the statuses of commands one after the other, whatever they say: the first has number ref
whatever : (cs : List Entry) → Every (λ c. Unit {0}) cs
whatever [] = tt
whatever (c ∷ cs) = (tt, whatever cs)

all_sendable : (r : ℕ → Entry → Records → Entry) (f : Entry → Records → Records) → ((n : ℕ) (c : Entry) (s : Records) → n ≤ top → Sendable empty_statuses (r n c s))
    → (ref : ℕ) (cs : List Entry) (s : Records) → ref + length cs ≤ top → Every (Sendable empty_statuses) (replies r f ref cs s)
all_sendable r f one ref cs s fit =
    replies_each f (λ c. Unit {0}) (λ s. Unit {0}) (λ c s q h. tt) r (Sendable empty_statuses) top (λ n c s b q h. one n c s b) ref cs s (omega arith) (whatever cs) tt

delete_sendable : (n : ℕ) (c : Entry) (s : Records) → n ≤ top → Sendable empty_statuses (delete_status n c s)
unfolding delete_status
delete_sendable n c s b = status_sendable n b Name.Delete (delete_code_at s (place_of s (deleted c))) (delete_code s (place_of s (deleted c)))

change_sendable : (rule : Rule) (n : ℕ) (c : Entry) (s : Records) → n ≤ top → Sendable empty_statuses (change_status rule n c s)
unfolding change_status
change_sendable rule n c s b = status_sendable n b (name_of c.fields.kind) (change_code_at rule c s (place_of s (paired c))) (change_code rule c s (place_of s (paired c)))

module _ (rule : Rule) (m : Mode) (ref : ℕ) (cs : List Entry) (s : Records) where
  pub statuses_sendable : ref + length cs ≤ top → Every (Sendable empty_statuses) (statuses_for rule m ref cs s)
  unfolding statuses_for
  statuses_sendable fit =
      let deletes = replies delete_status delete ref (deletes_of cs) s in
      let changes = replies (change_status rule) (change rule) (ref + deletes_in cs) (changes_of cs) (up_to3 m cs s) in
      every_append (Sendable empty_statuses) changes deletes
      (all_sendable delete_status delete delete_sendable ref (deletes_of cs) s (omega (arith, length-take (deletes_in cs) cs)))
      (all_sendable (change_status rule) (change rule) (change_sendable rule) (ref + deletes_in cs) (changes_of cs) (up_to3 m cs s) (omega (arith, deletes_most cs, length-drop (deletes_in cs) cs)))

  pub statuses_length : length (statuses_for rule m ref cs s) ≡ length cs
  unfolding statuses_for
  statuses_length =
      omega (
        arith,
        length-append (replies delete_status delete ref (deletes_of cs) s) (replies (change_status rule) (change rule) (ref + deletes_in cs) (changes_of cs) (up_to3 m cs s)),
        replies_length delete_status delete ref (deletes_of cs) s,
        replies_length (change_status rule) (change rule) (ref + deletes_in cs) (changes_of cs) (up_to3 m cs s),
        length-take (deletes_in cs) cs,
        length-drop (deletes_in cs) cs,
        deletes_most cs,
      )
