-- The press takes the server's commands, one after the other: the invariant stays, also where 404 or 420 is answered. Assumes nothing.
use Rattle.std.proofs.Common.{Option, Some, None}
use Prim.Native.Nat.{ℕ, ◌+◌}
use mathlib.Core.Path.{◌≡◌, refl, sym, ◌∙◌, subst}
use mathlib.Core.Bool.{Bool, true, false, cond}
use mathlib.Core.List.{List, [], ◌∷◌}
use native.Mathlib.Omega.{arith}
use lib.ListN.{get_or, length}
use Rattle.places.specs.Set.{all_places}
use Rattle.places.specs.Act.{free, holds, in_order}
use Rattle.places.proofs.Views.{view_here, view_other}
use Rattle.places.proofs.Every.{Every, every2, Pairs}
use Rattle.places.proofs.Held.{used_holds}
use Rattle.text.specs.declared.Wording.{Wording}
use Rattle.text.specs.Wording.{IsWording}
use Rattle.lists.specs.declared.Entry.{Entry}
use Rattle.terms.specs.Number.{luid, guid, no_guid}
use Rattle.cards.specs.declared.Card.{Card}
use Rattle.cards.specs.declared.Cards.{Cards}
use Rattle.cards.specs.Press.{no_card, find_card, WellFormed}
use Rattle.cards.proofs.FindLaws.{card_at_lem}
use Rattle.records.specs.declared.Mark.{Mark}
use Rattle.records.specs.declared.Record.{Record}
use Rattle.records.specs.declared.Records.{Records}
use Rattle.press_edits.specs.Edit.{room_for}
use Rattle.press_edits.proofs.RoomLaws.{room_at}
use Rattle.statuses.specs.declared.Name.{Name}
use Rattle.statuses.specs.Status.{name_of}
use Rattle.record_moves.specs.Named.{is_paired, has_luid}
use Rattle.record_moves.proofs.HasLaws.{has_as}
use Rattle.card_moves.specs.Moves as moves
use Rattle.card_moves.specs.Moves.{without_card}
use Rattle.card_moves.proofs.FormedLaws.{free_formed, newer_formed, new_formed}
use Rattle.server_each.proofs.EachRecord.{record_at}
use Rattle.press_replies.specs.Reply.{no_fingerprint}
use Rattle.press_takes.specs.Take.{delete_at, taken_card, with_replaced, replace_at, with_added, add_at, after_command_by, after_command}
use Rattle.pairs.proofs.Invariant.{card_at, FromServer, Invariant}
use Rattle.pairs.proofs.EntryPut.{FitsHere, entry_put}
use Rattle.press_pairs.proofs.CommandFits.{replaced_fits, added_fits, removed_fits}
use Rattle.press_pairs.proofs.AfterCommands.{taking_all}

-- ---- the record that a command is of
pub record Of (s : Records) (P : Record → Type 0) : Type 0 where
  pub place : ℕ
  pub record' : Record
  pub here : record_at s place ≡ holds record'
  pub is : P record'

pub record Offers (o : Entry) (y : Record) : Type 0 where
  pub offered' : y.pairing.mark ≡ Mark.Offered
  pub wording : o.wording ≡ y.wording

abbrev pub AskedBy : Name → Records → Entry → Type 0
AskedBy Name.Delete s o = Of s (λ y. (y.pairing.mark ≡ Mark.Deleted) × (has_luid o.fields.luid y ≡ true))
AskedBy Name.Replace s o = Of s (λ y. Offers o y × (has_luid o.fields.luid y ≡ true))
AskedBy Name.Add s o = Of s (λ y. Offers o y × (is_paired y ≡ false) × (o.fields.guid.0 ≡ y.guid.0))

pub record Asked (s : Records) (o : Entry) : Type 0 where
  pub of : AskedBy (name_of o.fields.kind) s o
  pub fine : IsWording o.wording

-- no report names its GUID yet (of an Add)
abbrev pub Unreported : Cards → Entry → Type 0
Unreported c o = (i : ℕ) (x : Card) → card_at c i ≡ holds x → FromServer x → x.report.guid.0 ≡ o.fields.guid.0 → ⊥

module _ (o : Entry) (fine : IsWording o.wording) (c : Cards) (s : Records) (h : Invariant c s) where
  abbrev long : length c.places ≡ all_places
  long = h.formed.luids.long

  delete_inv : AskedBy Name.Delete s o → (f : Option ℕ) → find_card c o.fields.luid ≡ f → Invariant (delete_at c f) s
  delete_inv k None e = h
  delete_inv k (Some i) e =
      let w = card_at_lem c h.formed o.fields.luid i e in
      let x = get_or c.places i no_card in
      entry_put c (without_card c i) s i free (view_here no_card (moves.table_of c) i free (omega (arith, w.inside, long))) (λ n ne. view_other no_card (moves.table_of c) i free n ne)
      (free_formed c h.formed i w.inside w.taken) (omega arith) (omega arith)
      (removed_fits c s h k.place k.record' k.here k.is.0 i x (used_holds no_card (moves.table_of c) i long w.inside w.taken) (has_as o.fields.luid k.record' x.luid w.number k.is.1)) h

  replace_inv : AskedBy Name.Replace s o → (f : Option ℕ) → find_card c o.fields.luid ≡ f → Invariant (replace_at o c f) s
  replace_inv k None e = h
  replace_inv k (Some i) e = go (no_fingerprint c)
    where
      put : Invariant (with_replaced o c i) s
      put =
          let w = card_at_lem c h.formed o.fields.luid i e in
          let x = get_or c.places i no_card in
          let z = taken_card no_guid x.luid (c.fp + 1) o.wording in
          entry_put c (with_replaced o c i) s i (holds z) (view_here no_card (moves.table_of c) i (holds z) (omega (arith, w.inside, long))) (λ n ne. view_other no_card (moves.table_of c) i (holds z) n ne)
          (newer_formed c h.formed i w.inside w.taken z refl (omega arith, omega arith, fine, λ q. refl)) (omega arith) (omega arith)
          (subst (λ (t : Wording). FitsHere c s i (holds (taken_card no_guid x.luid (c.fp + 1) t))) (sym k.is.0.wording)
          (replaced_fits c s h k.place k.record' k.here k.is.0.offered' i x (used_holds no_card (moves.table_of c) i long w.inside w.taken) (has_as o.fields.luid k.record' x.luid w.number k.is.1))) h

      go : (b : Bool) → Invariant (cond b c (with_replaced o c i)) s
      go true = h
      go false = put

  add_inv : AskedBy Name.Add s o → Unreported c o → (f : Option ℕ) → room_for c ≡ f → Invariant (add_at o c f) s
  add_inv k free' None e = h
  add_inv k free' (Some i) e =
      let r = room_at c i e in
      let y = k.record' in
      let z = taken_card o.fields.guid (luid (c.luid + 1)) (c.fp + 1) o.wording in
      let none : (n : ℕ) (x : Card) → card_at c n ≡ holds x → FromServer x → x.report.guid.0 ≡ y.guid.0 → ⊥ = λ n x g f q. free' n x g f (q ∙ sym k.is.2) in
      entry_put c (with_added o c i) s i (holds z) (view_here no_card (moves.table_of c) i (holds z) (omega (arith, r.inside, long))) (λ n ne. view_other no_card (moves.table_of c) i (holds z) n ne)
      (new_formed c h.formed i r.inside r.free z refl (omega arith, omega arith, fine, λ q. refl)) (omega arith) (omega arith)
      (subst (λ (t : Wording). FitsHere c s i (holds (taken_card o.fields.guid (luid (c.luid + 1)) (c.fp + 1) t))) (sym k.is.0.wording)
      (subst (λ (n : ℕ). FitsHere c s i (holds (taken_card (guid n) (luid (c.luid + 1)) (c.fp + 1) y.wording))) (sym k.is.2)
      (added_fits c s h k.place y k.here k.is.0.offered' k.is.1 none i r.free))) h

pub taking_inv : (o : Entry) (s : Records) → Asked s o → (c : Cards) → Unreported c o → Invariant c s → Invariant (after_command o c) s
unfolding after_command
taking_inv o s k c u h = go (name_of o.fields.kind) k.of
  where
    go : (n : Name) → AskedBy n s o → Invariant (after_command_by n o c) s
    go Name.Delete a = delete_inv o k.fine c s h a (find_card c o.fields.luid) refl
    go Name.Replace a = replace_inv o k.fine c s h a (find_card c o.fields.luid) refl
    go Name.Add a = add_inv o k.fine c s h a u (room_for c) refl

-- ---- a command leaves no report of another GUID than its own
module _ (o q : Entry) (apart : (q.fields.guid.0 ≡ 0 → ⊥) → o.fields.guid.0 ≡ q.fields.guid.0 → ⊥) (c : Cards) (w : WellFormed c) where
  taking_un : Unreported c q → Unreported (after_command o c) q
  taking_un u = taking_all o c w (λ x. FromServer x → x.report.guid.0 ≡ q.fields.guid.0 → ⊥) u (λ m i e b f r. f.given refl) (λ m i e f r. apart (λ z. f.given (r ∙ z)) r)

-- ---- all of them
-- (Delete and Replace name no GUID)
abbrev pub Apart : Entry → Entry → Type 0
Apart o q = (q.fields.guid.0 ≡ 0 → ⊥) → o.fields.guid.0 ≡ q.fields.guid.0 → ⊥

pub takings_inv : (os : List Entry) (s : Records) → Every (Asked s) os → Pairs Apart os → (c : Cards) → Every (Unreported c) os → Invariant c s → Invariant (in_order after_command os c) s
unfolding in_order
takings_inv [] s k a c u h = h
takings_inv (o ∷ os) s k a c u h =
    takings_inv os s k.1 a.1 (after_command o c)
    (every2 (Apart o) (Unreported c) (Unreported (after_command o c)) (λ q p v. taking_un o q p c h.formed v) os a.0 u.1)
    (taking_inv o s k.0 c u.0 h)
