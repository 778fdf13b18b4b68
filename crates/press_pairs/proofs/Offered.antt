-- The server's commands in Pkg 4, each with the record that it is of, as the press is to take them. Assumes nothing.
use Prim.Native.Nat.{ℕ, ◌<◌}
use mathlib.Core.Path.{◌≡◌, refl, sym, ap, ◌∙◌, subst}
use mathlib.Core.Bool.{Bool, true, false, cond, not, ◌&&◌, false≢true}
use mathlib.Core.List.{List, [], ◌∷◌, ◌++◌}
use native.Mathlib.Omega.{arith}
use lib.ListN.{get_or}
use borrow.Author.Tests.{not-true}
use Rattle.places.proofs.Choice.{and_first, and_second}
use Rattle.places.specs.Act.{holds}
use Rattle.places.proofs.Views.{on, holds_used}
use Rattle.places.proofs.Every.{Every, every, every2, every_append, every_map, Pairs, pairs_map, every_of}
use Rattle.places.proofs.Held.{hit_holds, holds_is}
use Rattle.text.proofs.WordingLaws.{nothing_said}
use Rattle.text.specs.Wording.{IsWording}
use Rattle.lists.specs.declared.Entry.{Entry}
use Rattle.records.specs.declared.Mark.{Mark}
use Rattle.records.specs.declared.Record.{Record}
use Rattle.records.specs.declared.Records.{Records}
use Rattle.records.specs.Server.{no_record, is_live}
use Rattle.statuses.specs.declared.Name.{Name}
use Rattle.record_moves.specs.Named.{table_of, is_paired, has_luid, Safe}
use Rattle.record_moves.proofs.HasLaws.{has_luid_lem}
use Rattle.server_forgets.specs.Step3.{is_forgotten}
use Rattle.server_offers.specs.Offer.{is_waiting, is_offered_as, offer, offers_of, offers, command_of, command, commands, is_dirty, dirty_here, offered_now, offered}
use Rattle.server_offers.proofs.OfferLaws.{IsDue, offer_at, offered_only, offered_once, command_same}
use Rattle.server_each.proofs.EachRecord.{record_at}
use Rattle.server_pairs.proofs.AfterPkg3.{offered_view}
use Rattle.press_pairs.proofs.Commands.{Of, Offers, Asked, Apart}

module _ (s : Records) (h : Safe s) (there : (j : ℕ) (y : Record) → record_at s j ≡ holds y → is_forgotten y ≡ false) where
  module _ (j : ℕ) (y : Record) (w : record_at s j ≡ holds y) where
    now : record_at (offered s) j ≡ cond (is_dirty y.pairing.mark) (holds (offered_now y)) (holds y)
    now = offered_view s h j ∙ ap (on dirty_here (λ y. holds (offered_now y))) w

    fine : IsWording y.wording
    fine = subst (λ (z : Record). IsWording z.wording) (holds_is no_record (table_of s) j y w) (h.formed.records j (holds_used no_record (table_of s) j y w))

    -- one that waits is offered, with its text and LUID
    waits : is_waiting y.pairing.mark ≡ true → (P : Record → Type 0) → P y → (P y → P (offered_now y)) → (o : Entry) → o.wording ≡ y.wording → Of (offered s) (λ z. Offers o z × P z)
    waits q P p keep o t = go y.pairing.mark refl q
      where
        go : (m : Mark) → y.pairing.mark ≡ m → is_waiting m ≡ true → Of (offered s) (λ z. Offers o z × P z)
        go Mark.Clean e k = absurd (false≢true k)
        go Mark.Deleted e k = absurd (false≢true k)
        go Mark.Dirty e k = record { place = j; record' = offered_now y; here = now ∙ ap (λ (m : Mark). cond (is_dirty m) (holds (offered_now y)) (holds y)) e; is = (record { offered' = refl; wording = t }, keep p) }
        go Mark.Offered e k = record { place = j; record' = y; here = now ∙ ap (λ (m : Mark). cond (is_dirty m) (holds (offered_now y)) (holds y)) e; is = (record { offered' = e; wording = t }, p) }

  -- a deleted record is paired, and stays
  deleted_of : (j : ℕ) (y : Record) → record_at s j ≡ holds y → is_offered_as Name.Delete y ≡ true → Asked (offered s) (command_of Name.Delete (offer Name.Delete y))
  deleted_of j y w q =
      record {
        of = record { place = j; record' = y; here = now j y w ∙ same y.pairing.mark q; is = (dead y.pairing.mark q, has (is_paired y) refl) };
        fine = nothing_said;
      }
    where
      dead : (m : Mark) → not (is_live m) ≡ true → m ≡ Mark.Deleted
      dead Mark.Clean e = absurd (false≢true e)
      dead Mark.Dirty e = absurd (false≢true e)
      dead Mark.Offered e = absurd (false≢true e)
      dead Mark.Deleted e = refl

      same : (m : Mark) → not (is_live m) ≡ true → cond (is_dirty m) (holds (offered_now y)) (holds y) ≡ holds y
      same Mark.Clean e = refl
      same Mark.Dirty e = absurd (false≢true e)
      same Mark.Offered e = refl
      same Mark.Deleted e = refl

      has : (b : Bool) → is_paired y ≡ b → has_luid y.pairing.luid y ≡ true
      has true p = has_luid_lem y.pairing.luid y p refl
      has false p = absurd (false≢true (sym (there j y w) ∙ (ap (λ (b : Bool). b && not (is_paired y)) q ∙ ap not p)))

  replaced_of : (j : ℕ) (y : Record) → record_at s j ≡ holds y → is_offered_as Name.Replace y ≡ true → Asked (offered s) (command_of Name.Replace (offer Name.Replace y))
  replaced_of j y w q =
      let p = and_second (is_waiting y.pairing.mark) (is_paired y) q in
      let l = has_luid_lem y.pairing.luid y p refl in
      record {
        of = waits j y w (and_first (is_waiting y.pairing.mark) (is_paired y) q) (λ z. has_luid y.pairing.luid z ≡ true) l (λ k. k) (command_of Name.Replace (offer Name.Replace y)) refl;
        fine = fine j y w;
      }

  added_of : (j : ℕ) (y : Record) → record_at s j ≡ holds y → is_offered_as Name.Add y ≡ true → Asked (offered s) (command_of Name.Add (offer Name.Add y))
  added_of j y w q =
      let p = and_second (is_waiting y.pairing.mark) (not (is_paired y)) q in
      let o = command_of Name.Add (offer Name.Add y) in
      let k = waits j y w (and_first (is_waiting y.pairing.mark) (not (is_paired y)) q) (λ z. (is_paired z ≡ false) × (o.fields.guid.0 ≡ z.guid.0)) (not-true (is_paired y) p, refl) (λ k. k) o refl in
      record { of = record { place = k.place; record' = k.record'; here = k.here; is = (k.is.0, k.is.1.0, k.is.1.1) }; fine = fine j y w }

  asked_of : (m : Name) (j : ℕ) (y : Record) → record_at s j ≡ holds y → is_offered_as m y ≡ true → Asked (offered s) (command (offer m y))
  asked_of m j y w q = subst (Asked (offered s)) (sym (command_same m y)) (go m q)
    where
      go : (m : Name) → is_offered_as m y ≡ true → Asked (offered s) (command_of m (offer m y))
      go Name.Delete q = deleted_of j y w q
      go Name.Replace q = replaced_of j y w q
      go Name.Add q = added_of j y w q

  -- ---- all of one name
  of_name : (m : Name) → Every (λ o. Asked (offered s) (command o)) (offers_of m s)
  of_name m =
      every (λ e. (j : ℕ) × IsDue m s j × (e ≡ offer_at m s j)) (λ o. Asked (offered s) (command o))
      (λ o t. subst (λ (e : Entry). Asked (offered s) (command e)) (sym t.2) (asked_of m t.0 (get_or s.places t.0 no_record) (hit_holds no_record (is_offered_as m) (table_of s) t.0 t.1) t.1.passes))
      (offers_of m s) (offered_only m s)

  pub all_asked : Every (Asked (offered s)) (commands s)
  unfolding commands offers
  all_asked =
      every_map command (Asked (offered s)) (offers_of Name.Delete s ++ (offers_of Name.Replace s ++ offers_of Name.Add s))
      (every_append (λ o. Asked (offered s) (command o)) (offers_of Name.Replace s ++ offers_of Name.Add s) (offers_of Name.Delete s) (of_name Name.Delete)
      (every_append (λ o. Asked (offered s) (command o)) (offers_of Name.Add s) (offers_of Name.Replace s) (of_name Name.Replace) (of_name Name.Add)))

  -- ---- no two Adds have one GUID; the others name none
  abbrev Mapped : Entry → Entry → Type 0
  Mapped o q = Apart (command o) (command q)

  none_pairs : (zs rest : List Entry) → Every (λ o. (command o).fields.guid.0 ≡ 0) zs → Pairs Mapped rest → Pairs Mapped (zs ++ rest)
  none_pairs [] rest f g = g
  none_pairs (z ∷ zs) rest f g = (every_of (Mapped z) (λ q ne e. ne (sym e ∙ f.0)) (zs ++ rest), none_pairs zs rest f.1 g)

  no_guid_lem : (m : Name) → ((y : Record) → (command_of m (offer m y)).fields.guid.0 ≡ 0) → Every (λ o. (command o).fields.guid.0 ≡ 0) (offers_of m s)
  no_guid_lem m k =
      every (λ e. (j : ℕ) × IsDue m s j × (e ≡ offer_at m s j)) (λ o. (command o).fields.guid.0 ≡ 0)
      (λ o t. ap (λ (e : Entry). (command e).fields.guid.0) t.2 ∙ (ap (λ (e : Entry). e.fields.guid.0) (command_same m (get_or s.places t.0 no_record)) ∙ k (get_or s.places t.0 no_record)))
      (offers_of m s) (offered_only m s)

  own_guid : Every (λ o. (command o).fields.guid.0 ≡ o.fields.guid.0) (offers_of Name.Add s)
  own_guid =
      every (λ e. (j : ℕ) × IsDue Name.Add s j × (e ≡ offer_at Name.Add s j)) (λ o. (command o).fields.guid.0 ≡ o.fields.guid.0)
      (λ o t. ap (λ (e : Entry). (command e).fields.guid.0) t.2 ∙ (ap (λ (e : Entry). e.fields.guid.0) (command_same Name.Add (get_or s.places t.0 no_record)) ∙ sym (ap (λ (e : Entry). e.fields.guid.0) t.2)))
      (offers_of Name.Add s) (offered_only Name.Add s)

  add_pairs : (l : List Entry) → Every (λ o. (command o).fields.guid.0 ≡ o.fields.guid.0) l → Pairs (λ d e. d.fields.guid.0 < e.fields.guid.0) l → Pairs Mapped l
  add_pairs [] f g = tt
  add_pairs (x ∷ xs) f g = (
    every2 (λ e. x.fields.guid.0 < e.fields.guid.0) (λ o. (command o).fields.guid.0 ≡ o.fields.guid.0) (Mapped x)
        (λ q lt own ne e. let a = f.0 in omega (arith, lt, own, e, a)) xs g.0 f.1,
    add_pairs xs f.1 g.1,
  )

  pub all_apart : Pairs Apart (commands s)
  unfolding commands offers
  all_apart =
      pairs_map command Apart (offers_of Name.Delete s ++ (offers_of Name.Replace s ++ offers_of Name.Add s))
      (none_pairs (offers_of Name.Delete s) (offers_of Name.Replace s ++ offers_of Name.Add s) (no_guid_lem Name.Delete (λ y. refl))
      (none_pairs (offers_of Name.Replace s) (offers_of Name.Add s) (no_guid_lem Name.Replace (λ y. refl)) (add_pairs (offers_of Name.Add s) own_guid (offered_once Name.Add s h.formed))))
