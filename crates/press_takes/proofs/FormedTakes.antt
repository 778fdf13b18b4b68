-- The server's commands keep the press's table well-formed, if texts and stations keep their rule. Assumes nothing.
use Rattle.std.proofs.Common.{ℕ}
use Rattle.std.proofs.Common.{Option, Some, None}
use Prim.Native.Nat.{◌+◌}
use mathlib.Core.Path.{◌≡◌, refl}
use mathlib.Core.Bool.{Bool, true, false, cond}
use mathlib.Core.List.{List, [], ◌∷◌}
use native.Mathlib.Omega.{arith}
use lib.ListN.{get_or}
use Rattle.text.specs.Wording.{IsWording}
use Rattle.terms.specs.Number.{luid, no_guid}
use Rattle.cards.specs.declared.Cards.{Cards}
use Rattle.cards.specs.Press.{no_card, find_card, WellFormed}
use Rattle.cards.proofs.FindLaws.{card_at_lem}
use Rattle.lists.specs.declared.Entry.{Entry}
use Rattle.places.specs.Act.{in_order}
use Rattle.places.proofs.Every.{Every}
use Rattle.statuses.specs.declared.Name.{Name}
use Rattle.statuses.specs.declared.Name.TheVariants.{Delete, Replace, Add}
use Rattle.statuses.specs.Status.{name_of}
use Rattle.card_moves.proofs.FormedLaws.{free_formed, newer_formed, new_formed}
use Rattle.press_replies.specs.Reply.{no_fingerprint}
use Rattle.press_edits.specs.Edit.{room_for}
use Rattle.press_edits.proofs.RoomLaws.{room_at}
use Rattle.press_takes.specs.Take.{delete_at, taken_card, with_replaced, replace_at, add_at, after_command_by, after_command}

module _ (o : Entry) (t : IsWording o.wording) (c : Cards) (h : WellFormed c) where
  delete_formed : (f : Option ℕ) → find_card c o.fields.luid ≡ f → WellFormed (delete_at c f)
  delete_formed None e = h
  delete_formed (Some i) e = let w = card_at_lem c h o.fields.luid i e in free_formed c h i w.inside w.taken

  replace_formed : (f : Option ℕ) → find_card c o.fields.luid ≡ f → WellFormed (replace_at o c f)
  replace_formed None e = h
  replace_formed (Some i) e = go (no_fingerprint c)
    where
      go : (b : Bool) → WellFormed (cond b c (with_replaced o c i))
      go true = h
      go false =
          let w = card_at_lem c h o.fields.luid i e in
          newer_formed c h i w.inside w.taken (taken_card no_guid (get_or c.places i no_card).luid (c.fp + 1) o.wording) refl (omega arith, omega arith, t, λ e. refl)

  add_formed : (f : Option ℕ) → room_for c ≡ f → WellFormed (add_at o c f)
  add_formed None e = h
  add_formed (Some i) e = let r = room_at c i e in new_formed c h i r.inside r.free (taken_card o.fields.guid (luid (c.luid + 1)) (c.fp + 1) o.wording) refl (omega arith, omega arith, t, λ e. refl)

  by_name : (m : Name) → WellFormed (after_command_by m o c)
  by_name Delete = delete_formed (find_card c o.fields.luid) refl
  by_name Replace = replace_formed (find_card c o.fields.luid) refl
  by_name Add = add_formed (room_for c) refl

  pub taking_formed : WellFormed (after_command o c)
  unfolding after_command
  taking_formed = by_name (name_of o.fields.kind)

pub takings_formed : (os : List Entry) → Every (λ o. IsWording o.wording) os → (c : Cards) → WellFormed c → WellFormed (in_order after_command os c)
unfolding in_order
takings_formed [] t c h = h
takings_formed (o ∷ os) t c h = takings_formed os t.1 (after_command o c) (taking_formed o t.0 c h)
