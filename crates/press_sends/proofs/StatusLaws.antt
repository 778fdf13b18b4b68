-- The statuses of Pkg 5 are in the written form.
-- Assumes nothing.
use Rattle.std.proofs.Common.{Option, Some, None}
use Prim.Native.Nat.{ℕ, ◌+◌, ◌≤◌, ◌<◌}
use mathlib.Core.Path.{◌≡◌, refl, subst}
use mathlib.Core.Bool.{Bool, true, false, cond}
use mathlib.Core.List.{List}
use native.Mathlib.Omega.{arith}
use lib.Dec.{eqb}
use lib.ListN.{length}
use borrow.Author.Tests.{eqb-true, eqb-false, leb-false}
use Rattle.terms.specs.Number.{luid}
use Rattle.cards.specs.declared.Cards.{Cards}
use Rattle.cards.specs.Press.{find_card}
use Rattle.cards.proofs.FindLaws.{card_at_lem}
use Rattle.lists.specs.declared.Entry.{Entry}
use Rattle.message.specs.Message.{statuses, server_commands}
use Rattle.places.specs.Act.{replies}
use Rattle.places.proofs.Every.{Every}
use Rattle.statuses.specs.declared.Name.{Name}
use Rattle.statuses.specs.declared.Name.TheVariants.{Delete, Replace, Add}
use Rattle.statuses.specs.Status.{name_of, cmd_of, empty_status, replaced}
use Rattle.sendable.specs.Sendable.{Code, Cmd, CmdRef, Number, Sendable}
use Rattle.sendable.proofs.ElementLaws.{status_without_item, status_with_luid, status_with_guid}
use Rattle.sendable.proofs.TakenLaws.{taken_kind, add_guid}
use Rattle.places.proofs.OrderLaws.{replies_each}
use Rattle.press_edits.specs.Edit.{room_for}
use Rattle.press_edits.proofs.RoomLaws.{room_at}
use Rattle.press_replies.specs.Reply.{delete_answer, no_fingerprint, replace_answer, add_answer, answering_by, answering}
use Rattle.press_takes.specs.Take.{after_command}
use Rattle.press_sends.proofs.TakeLaws.{Good, taking_good}

-- ---- an Add of the server is of kind 17
add_kind : (k : ℕ) → 15 ≤ k → k < 18 → name_of k ≡ Add → k ≡ 17
add_kind k a b add = go (eqb k 15) (eqb k 16) refl refl
  where
    named : (n : ℕ) → eqb k n ≡ true → name_of n ≡ Add
    named n e = subst (λ (i : ℕ). name_of i ≡ Add) (eqb-true k n e) add

    go : (t u : Bool) → eqb k 15 ≡ t → eqb k 16 ≡ u → k ≡ 17
    go true u e f = let d : Delete ≡ Add = named 15 e in cc
    go false true e f = let r : Replace ≡ Add = named 16 f in cc
    go false false e f = omega (arith, eqb-false k 15 e, eqb-false k 16 f)

-- ---- the answer to command number ref
cmd_in : (m : Name) → Cmd (cmd_of m)
cmd_in Add = (omega arith, omega arith)
cmd_in Replace = (omega arith, omega arith)
cmd_in Delete = (omega arith, omega arith)

-- the server's message before is number 2
two : Number 2
two = (omega arith, omega arith)

module _ (ref : ℕ) (few : ref ≤ 4294967295) where
  ref_in : CmdRef ref
  ref_in = (omega arith, few)

  empty_sendable : (m : Name) (code : ℕ) → Code code → Sendable statuses (empty_status ref m code)
  empty_sendable m code c = status_without_item 2 ref (cmd_of m) code two ref_in (cmd_in m) c

  module _ (o : Entry) (c : Cards) (s : Sendable server_commands o) (g : Good c) where
    delete_sendable : (f : Option ℕ) → Sendable statuses (delete_answer ref c f)
    delete_sendable None = empty_sendable Delete 211 (omega arith, omega arith)
    delete_sendable (Some i) = empty_sendable Delete 200 (omega arith, omega arith)

    replace_sendable : (f : Option ℕ) → find_card c o.fields.luid ≡ f → Sendable statuses (replace_answer ref o c f)
    replace_sendable None e = empty_sendable Replace 404 (omega arith, omega arith)
    replace_sendable (Some i) e = go (no_fingerprint c) refl
      where
        go : (b : Bool) → no_fingerprint c ≡ b → Sendable statuses (cond b (empty_status ref Replace 420) (replaced ref o.fields.luid (c.fp + 1)))
        go true spent = empty_sendable Replace 420 (omega arith, omega arith)
        go false spent =
            let w = card_at_lem c g.0 o.fields.luid i e in
            status_with_luid 2 ref 3 200 two ref_in (cmd_in Replace) (omega arith, omega arith) o.fields.luid (c.fp + 1)
            (omega (arith, w.number, g.0.luids.least i w.taken), omega (arith, w.number, g.0.luids.given i w.taken, g.1.luid))
            (omega arith, omega (arith, leb-false 4294967295 c.fp spent))

    add_sendable : name_of o.fields.kind ≡ Add → (f : Option ℕ) → room_for c ≡ f → Sendable statuses (add_answer ref o c f)
    add_sendable add None e = empty_sendable Add 420 (omega arith, omega arith)
    add_sendable add (Some i) e =
        let r = room_at c i e in
        status_with_guid 2 ref 2 200 two ref_in (cmd_in Add) (omega arith, omega arith) (luid (c.luid + 1)) (c.fp + 1) (omega arith, omega (arith, r.luid))
        (omega arith, omega (arith, g.1.fp, r.fp)) o.fields.guid (add_guid server_commands o s (let k = taken_kind server_commands o s in add_kind o.fields.kind k.0 k.1 add))

    by_name : (m : Name) → name_of o.fields.kind ≡ m → Sendable statuses (answering_by m ref o c)
    by_name Delete e = delete_sendable (find_card c o.fields.luid)
    by_name Replace e = replace_sendable (find_card c o.fields.luid) refl
    by_name Add e = add_sendable e (room_for c) refl

    answer_sendable : Sendable statuses (answering ref o c)
    unfolding answering
    answer_sendable = by_name (name_of o.fields.kind) refl

-- ---- all of them; the first command has number ref
pub replies_sendable : (ref : ℕ) (os : List Entry) (c : Cards) → ref + length os ≤ 4294967296 → Every (Sendable server_commands) os → Good c
    → Every (Sendable statuses) (replies answering after_command ref os c)
replies_sendable = replies_each after_command (Sendable server_commands) Good taking_good answering (Sendable statuses) 4294967295 (λ ref o c few. answer_sendable ref few o c)
