-- The edits of people at the server leave the invariant, refused or not; and so does a record that is made dirty again at Pkg 5. Assumes nothing.
use Prim.Native.Nat.{ℕ, ◌+◌, ◌≤◌, ◌<◌}
use mathlib.Core.Path.{◌≡◌, refl, sym, ap, ◌∙◌, subst}
use mathlib.Core.Bool.{Bool, true, false, cond, ◌&&◌, false≢true}
use mathlib.Core.List.{List}
use mathlib.Core.Logic.{inl, inr}
use native.Mathlib.Omega.{arith}
use lib.Dec.{eqb}
use lib.ListN.{get_or, set}
use Rattle.text.proofs.WordingLaws.{signed_well}
use Rattle.places.specs.Set.{all_places, in_use}
use Rattle.places.proofs.Choice.{never}
use Rattle.places.specs.Act.{Table, holds, put_at}
use Rattle.places.proofs.Views.{view_here, view_other, holds_used}
use Rattle.places.proofs.SameLaws.{set_is}
use Rattle.places.proofs.Held.{holds_one, used_holds}
use Rattle.text.specs.declared.Wording.{Wording}
use Rattle.text.specs.Text.{text_ok}
use Rattle.text.specs.Wording.{server_station, signed_by}
use Rattle.terms.specs.declared.Guid.{Guid}
use Rattle.cards.specs.declared.Card.{Card}
use Rattle.cards.specs.declared.Cards.{Cards}
use Rattle.records.specs.declared.Mark.{Mark}
use Rattle.records.specs.declared.Record.{Record}
use Rattle.records.specs.declared.Records.{Records}
use Rattle.records.specs.declared.Server.{Server}
use Rattle.records.specs.Server.{no_record, FineRecord, is_live}
use Rattle.records.proofs.FindLaws.{record_at_lem}
use Rattle.server_edits.specs.Edited.{Edited}
use Rattle.server_edits.specs.Edit.{new_record, with_new, server_add, changed_to, server_edit, server_delete}
use Rattle.server_edits.proofs.RoomLaws.{room_at}
use Rattle.server_edits.proofs.Cases.{add_all, edit_all, delete_all}
use Rattle.record_moves.specs.Named.{Named}
use Rattle.record_moves.specs.Named.{table_of, with_table, is_named}
use Rattle.record_moves.proofs.SafeLaws.{safe_put, safe_new, alone_same, alone_none}
use Rattle.record_moves.proofs.HasLaws.{has_too}
use Rattle.server_reports.specs.Step1.{is_late, settled, counted, told}
use Rattle.server_each.proofs.EachRecord.{record_at}
use Rattle.pairs.proofs.Invariant.{card_at, report_in, tells_of, heard, IsOf, Invariant}
use Rattle.pairs.proofs.Claims.{Claims, is_claims}
use Rattle.pairs.proofs.RecordPut.{Fits, record_put}

-- ---- a mark that stays what it is when a report is heard: dirty or deleted
pub data Busy : Mark → Type 0 where
  dirty : Busy Mark.Dirty
  deleted : Busy Mark.Deleted

busy_settled : (m : Mark) → Busy m → settled m ≡ Mark.Clean → ⊥
busy_settled m dirty e = never (cc)
busy_settled m deleted e = never (cc)

busy_not : (m : Mark) → Busy m → m ≡ Mark.Clean → ⊥
busy_not m dirty e = never (cc)
busy_not m deleted e = never (cc)

-- ---- the record y with another text and such a mark
module _ (y : Record) (t : Wording) (m : Mark) (b : Busy m) where
  abbrev y' : Record
  y' = changed_to y t m

  -- once heard: LUID and known fingerprint as those of y, and not clean
  pub record SameHeard (u v : Record) : Type 0 where
    pub luid : v.pairing.luid ≡ u.pairing.luid
    pub known : v.pairing.known ≡ u.pairing.known
    pub unclean : v.pairing.mark ≡ Mark.Clean → ⊥

  -- the same reports name it
  tells_same : (x : Card) → tells_of x y' ≡ tells_of x y
  unfolding tells_of
  tells_same x = ap (λ (q : Bool). x.report.on && q) (go (eqb x.report.guid.0 0))
    where
      go : (q : Bool) → is_named (cond q (Named.ByLuid x.report.luid) (Named.ByGuid x.report.guid)) y'
          ≡ is_named (cond q (Named.ByLuid x.report.luid) (Named.ByGuid x.report.guid)) y
      go true = refl
      go false = refl

  heard_same : (x : Card) → SameHeard (heard x y) (heard x y')
  unfolding heard told
  heard_same x =
      subst (λ (n : Bool). SameHeard (cond (tells_of x y) (cond (is_late (report_in x) y) y (counted (report_in x) y)) y) (cond n (cond (is_late (report_in x) y) y' (counted (report_in x) y')) y')) (sym (tells_same x))
      (go (tells_of x y) (is_late (report_in x) y))
    where
      go : (n l : Bool) → SameHeard (cond n (cond l y (counted (report_in x) y)) y) (cond n (cond l y' (counted (report_in x) y')) y')
      go true true = record { luid = refl; known = refl; unclean = busy_not m b }
      go true false = record { luid = refl; known = refl; unclean = busy_settled m b }
      go false l = record { luid = refl; known = refl; unclean = busy_not m b }

  module _ (c : Cards) (s : Records) (h : Invariant c s) (j : ℕ) (w : record_at s j ≡ holds y) (alive : (m ≡ Mark.Deleted → ⊥) → y.pairing.mark ≡ Mark.Deleted → ⊥) where
    same_of : (x : Card) → IsOf x y' → IsOf x y
    same_of x k = has_too x.luid (heard x y') (heard x y) (sym (heard_same x).luid) k

    pub remark_fits : Fits c s j (holds y')
    remark_fits =
        record {
          ok = record { unclean = λ p. busy_not m b; low = (h.records j y w).low; known = (h.records j y w).known };
          pairs = λ i x e.
              let p = h.pairs i x e j y w in
              let r = heard_same x in
              record {
                own = p.own;
                sole = p.sole;
                agrees = λ live k.
                    let a = p.agrees live (same_of x k) in
                    record { below = subst (λ (n : ℕ). n ≤ x.fp) (sym r.known) a.below; clean = λ q. r.known ∙ a.clean q; wording = λ q n. absurd (r.unclean n) };
              };
          owned = λ p d. let o = h.owned j y w p (alive d) in record { place = o.place; card = o.card; here = o.here; is = o.is };
          still = λ i x e one v u k.
              has_too x.luid (heard x y) (heard x y') (heard_same x).luid (subst (IsOf x) (holds_one v y (sym u ∙ w)) k);
        }

-- ---- the calls
module _ (c : Cards) (s : Records) (h : Invariant c s) (i : ℕ) where
  remark_inv : i < all_places → in_use s.used i ≡ true → is_live (get_or s.places i no_record).pairing.mark ≡ true → (t : Wording) (m : Mark) → Busy m → (FineRecord (changed_to (get_or s.places i no_record) t m))
      → Invariant c (with_table s (record { used = s.used; places = set s.places i (changed_to (get_or s.places i no_record) t m) }))
  remark_inv inside u live t m b fine =
      let y = get_or s.places i no_record in
      let z = changed_to y t m in
      let is = set_is (table_of s) i z u in
      subst (λ (q : Table Record). Invariant c (with_table s q)) (sym is)
      (record_put c s (with_table s (put_at (table_of s) i (holds z))) i (holds z) (view_here no_record (table_of s) i (holds z) (omega (arith, inside, h.safe.formed.guids.long))) (λ k ne. view_other no_record (table_of s) i (holds z) k ne)
      (safe_put s i h.safe inside u z refl fine (alone_same s i z h.safe.once u refl)) (omega arith)
      (remark_fits y t m b c s h i (used_holds no_record (table_of s) i h.safe.formed.guids.long inside u) (λ d q. false≢true (sym (ap is_live q) ∙ live))) h)

  add_inv : (t : List ℕ) → text_ok t ≡ true → i < all_places → in_use s.used i ≡ false → Invariant c (with_new s i t)
  add_inv t ok inside empty =
      let z = new_record s t in
      record_put c s (with_new s i t) i (holds z) (view_here no_record (table_of s) i (holds z) (omega (arith, inside, h.safe.formed.guids.long))) (λ k ne. view_other no_record (table_of s) i (holds z) k ne)
      (safe_new s i h.safe inside empty z refl (signed_well server_station t (omega arith) ok) (alone_none s i z refl)) (omega arith)
      (record {
        ok = record { unclean = λ p. busy_not Mark.Dirty dirty; low = omega arith; known = omega arith };
        pairs = λ k x e.
            let new : x.report.on ≡ true → s.guid + 1 ≡ x.report.guid.0 → ⊥ = λ on q. let b = (h.entries k x e).known on in omega (arith, b, q) in
            record {
              own = λ f q p. absurd (false≢true p);
              sole = λ f q. absurd (false≢true q);
              agrees = λ live q. absurd (not_of k x e new (is_claims c h.formed k x e z q));
            };
        owned = λ p d. absurd (false≢true p);
        still = λ k x e one v w q. absurd (false≢true (sym empty ∙ holds_used no_record (table_of s) i v w));
      })
      h
    where
      not_of : (k : ℕ) (x : Card) → card_at c k ≡ holds x → (x.report.on ≡ true → s.guid + 1 ≡ x.report.guid.0 → ⊥) → Claims x (new_record s t) → ⊥
      not_of k x e new (inl a) = new a.0.on a.1
      not_of k x e new (inr a) = false≢true a

abbrev Leaves : Cards → Edited → Type 0
Leaves c r = Invariant c r.server.records

module _ (c : Cards) (p : Server) (h : Invariant c p.records) where
  pub server_add_inv : (t : List ℕ) → Invariant c (server_add p t).server.records
  server_add_inv t = add_all p t (Leaves c) (λ n. h) (λ i ok e. let r = room_at p.records i e in add_inv c p.records h i t ok r.inside r.free)

  pub server_edit_inv : (g : Guid) (t : List ℕ) → Invariant c (server_edit p g t).server.records
  server_edit_inv g t =
      edit_all p g t (Leaves c) (λ n. h)
      (λ i e ok. let f = record_at_lem p.records h.safe.formed g i e in remark_inv c p.records h i f.inside f.taken f.known (signed_by server_station t) Mark.Dirty dirty (signed_well server_station t (omega arith) ok))

  pub server_delete_inv : (g : Guid) → Invariant c (server_delete p g).server.records
  server_delete_inv g =
      delete_all p g (Leaves c) (λ n. h)
      (λ i e.
      let f = record_at_lem p.records h.safe.formed g i e in
      remark_inv c p.records h i f.inside f.taken f.known (get_or p.records.places i no_record).wording Mark.Deleted deleted (h.safe.formed.records i f.taken))
