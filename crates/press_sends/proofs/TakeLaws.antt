-- The press at Pkg 4 keeps its table in range: old reports go, marks end, and each command that was read is taken.
-- Assumes nothing.
use Rattle.std.proofs.Common.{ℕ}
use Rattle.std.proofs.Common.{Option, Some, None}
use Prim.Native.Nat.{◌+◌, ◌≤◌}
use mathlib.Core.Path.{◌≡◌, refl}
use mathlib.Core.Bool.{Bool, true, false, cond}
use mathlib.Core.List.{List}
use native.Mathlib.Omega.{arith}
use lib.ListN.{get_or}
use borrow.Author.Tests.{leb-false}
use Rattle.terms.specs.declared.Mode.{Mode}
use Rattle.terms.specs.declared.Mode.TheVariants.{Normal, Recovery}
use Rattle.terms.specs.Number.{luid, no_guid}
use Rattle.cards.specs.declared.Cards.{Cards}
use Rattle.cards.specs.Press.{no_card, find_card, WellFormed}
use Rattle.cards.proofs.FindLaws.{card_at_lem}
use Rattle.lists.specs.declared.Entry.{Entry}
use Rattle.message.specs.Message.{server_commands}
use Rattle.places.specs.Act.{in_order, act, with_answers}
use Rattle.places.proofs.Every.{Every}
use Rattle.places.proofs.KeptLaws.{order_keeps}
use Rattle.statuses.specs.declared.Name.{Name}
use Rattle.statuses.specs.declared.Name.TheVariants.{Delete, Replace, Add}
use Rattle.statuses.specs.Status.{name_of}
use Rattle.sendable.specs.Sendable.{Sendable}
use Rattle.sendable.proofs.TakenLaws.{taken_guid}
use Rattle.places.proofs.OrderLaws.{order_each}
use Rattle.card_moves.specs.Moves.{table_of, with_table, is_entry, without_reports}
use Rattle.card_moves.proofs.FormedLaws.{bare_formed, unmarked_formed}
use Rattle.press_edits.specs.Edit.{room_for}
use Rattle.press_edits.proofs.RoomLaws.{room_at}
use Rattle.press_ends.specs.End.{keeps_mark, ended, end_mark, ends, marks_end}
use Rattle.press_ends.proofs.FormedEnds.{ended_fair, end_formed}
use Rattle.press_replies.specs.Reply.{no_fingerprint}
use Rattle.press_takes.specs.Take.{delete_at, taken_card, with_replaced, replace_at, add_at, after_command_by, after_command}
use Rattle.press_takes.proofs.FormedTakes.{taking_formed}
use Rattle.press_sends.specs.InRange.{ReportInRange, CardsInRange}
use Rattle.press_sends.proofs.MoveLaws.{act_ranged, bare_ranged, unmarked_ranged, freed_ranged, replaced_ranged, new_ranged}

-- well-formed, and in range
abbrev pub Good : Cards → Type 0
Good c = WellFormed c × CardsInRange c

-- ---- the statuses of the press's commands
end_good : (p : Entry × Entry) (c : Cards) → Good c → Good (end_mark p c)
unfolding end_mark
end_good p c g = (end_formed p c g.0, go (keeps_mark p.1.fields.code))
  where
    go : (b : Bool) → CardsInRange (cond b c (with_table c (act no_card (is_entry p.0.fields.luid) ended (table_of c))))
    go true = g.1
    go false = act_ranged c g.0 g.1 (is_entry p.0.fields.luid) ended (ended_fair c.luid ReportInRange (λ x r. r) (is_entry p.0.fields.luid))

ends_good : (cs xs : List Entry) (c : Cards) → Good c → Good (ends cs xs c)
unfolding ends
ends_good cs xs c g = order_keeps end_mark Good end_good (with_answers cs xs) (without_reports c) (bare_formed c g.0, bare_ranged c g.0 g.1)

pub marks_good : (m : Mode) (cs xs : List Entry) (c : Cards) → Good c → Good (marks_end m cs xs c)
unfolding marks_end
marks_good Normal cs xs c g = ends_good cs xs c g
marks_good Recovery cs xs c g = let e = ends_good cs xs c g in (unmarked_formed (ends cs xs c) e.0, unmarked_ranged (ends cs xs c) e.0 e.1)

-- ---- the server's commands
module _ (o : Entry) (c : Cards) (s : Sendable server_commands o) (g : Good c) where
  delete_ranged : (f : Option ℕ) → CardsInRange (delete_at c f)
  delete_ranged None = g.1
  delete_ranged (Some i) = freed_ranged c g.0 g.1 i

  replace_ranged : (f : Option ℕ) → find_card c o.fields.luid ≡ f → CardsInRange (replace_at o c f)
  replace_ranged None e = g.1
  replace_ranged (Some i) e = go (no_fingerprint c) refl
    where
      go : (b : Bool) → no_fingerprint c ≡ b → CardsInRange (cond b c (with_replaced o c i))
      go true spent = g.1
      go false spent =
          let w = card_at_lem c g.0 o.fields.luid i e in
          let left = leb-false 4294967295 c.fp spent in
          replaced_ranged c g.0 g.1 i w.inside (taken_card no_guid (get_or c.places i no_card).luid (c.fp + 1) o.wording) (λ q. ((omega arith, omega arith), (omega arith, omega (arith, left))))
          c.luid (c.fp + 1) g.1.luid (omega (arith, left)) w.taken

  add_ranged : (f : Option ℕ) → room_for c ≡ f → CardsInRange (add_at o c f)
  add_ranged None e = g.1
  add_ranged (Some i) e =
      let r = room_at c i e in
      let left : c.fp + 1 ≤ 4294967295 = omega (arith, g.1.fp, r.fp) in
      new_ranged c g.0 g.1 i r.inside (taken_card o.fields.guid (luid (c.luid + 1)) (c.fp + 1) o.wording)
      (λ q. ((omega arith, taken_guid server_commands o s), (omega arith, left))) (c.luid + 1) (c.fp + 1) (omega (arith, r.luid)) left r.free refl

  by_name : (m : Name) → CardsInRange (after_command_by m o c)
  by_name Delete = delete_ranged (find_card c o.fields.luid)
  by_name Replace = replace_ranged (find_card c o.fields.luid) refl
  by_name Add = add_ranged (room_for c) refl

  pub taking_good : Good (after_command o c)
  unfolding after_command
  taking_good = (taking_formed o s.1 c g.0, by_name (name_of o.fields.kind))

pub takings_good : (os : List Entry) (c : Cards) → Every (Sendable server_commands) os → Good c → Good (in_order after_command os c)
takings_good = order_each after_command (Sendable server_commands) Good taking_good
