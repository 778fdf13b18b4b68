-- Steps 2 to 5 of the server at Pkg 3, one place at a time: what becomes of a record when there is nothing new to hear. Assumes nothing.
use Prim.Native.Nat.{ℕ, ◌≤◌}
use mathlib.Core.Path.{◌≡◌, refl, sym, ap, ◌∙◌, subst}
use mathlib.Core.Bool.{Bool, true, false, cond, not, ◌&&◌, false≢true}
use mathlib.Core.Logic.{◌⊎◌, inl, inr, ⊎_elim}
use native.Mathlib.Omega.{arith}
use lib.Dec.{eqb}
use lib.ListN.{get_or}
use borrow.Author.Tests.{le-leb, leb-true, eq-eqb}
use Rattle.places.proofs.Choice.{chosen, and_first, and_second}
use Rattle.places.specs.Act.{Table, Slot, free, holds, put_at, act, each}
use Rattle.places.proofs.KeptLaws.{Holds, Hit, act_keeps, each_keeps}
use Rattle.places.proofs.Views.{view_here, view_other}
use Rattle.places.proofs.Held.{hit_holds, holds_one}
use Rattle.lists.specs.declared.Entry.{Entry}
use Rattle.terms.specs.declared.Luid.{Luid}
use Rattle.cards.specs.declared.Card.{Card}
use Rattle.cards.specs.declared.Cards.{Cards}
use Rattle.cards.specs.Press as press
use Rattle.records.specs.declared.Mark as rec
use Rattle.records.specs.declared.Record.{Record}
use Rattle.records.specs.declared.Records.{Records}
use Rattle.records.specs.Server.{no_record}
use Rattle.record_moves.specs.Named.{Named}
use Rattle.record_moves.specs.Named.{table_of, with_table, is_paired, has_luid, is_named}
use Rattle.record_moves.proofs.SafeLaws.{Mild, MildSlot, mild_at}
use Rattle.record_moves.proofs.HasLaws.{has_paired, has_too}
use Rattle.server_reports.specs.Step1.{named_by, is_late, counted, told}
use Rattle.server_each.proofs.EachRecord.{record_at}
use Rattle.pairs.proofs.Invariant.{card_at, report_in, tells_of, heard, IsOf, Agrees, Pair, Owned, Invariant}
use Rattle.pairs.proofs.RecordPut.{HasOne, Fits, of_all_lem, record_put}
use Rattle.server_pairs.proofs.Quiet.{Quiet}

-- ---- the same record, later: GUID the same, LUID the same or lost, the known fingerprint not lower
module _ (y y' : Record) (m : Mild y y') where
  lost_not : y'.pairing.luid.0 ≡ 0 → is_paired y' ≡ true → ⊥
  lost_not e p = false≢true (sym (ap not (eq-eqb y'.pairing.luid.0 0 e)) ∙ p)

  paired_same : is_paired y' ≡ true → y'.pairing.luid ≡ y.pairing.luid
  paired_same p = go m.luid
    where
      go : ((y'.pairing.luid ≡ y.pairing.luid) ⊎ (y'.pairing.luid.0 ≡ 0)) → y'.pairing.luid ≡ y.pairing.luid
      go (inl e) = e
      go (inr e) = absurd (lost_not e p)

  pub later_has : (l : Luid) → has_luid l y' ≡ true → has_luid l y ≡ true
  later_has l e = has_too l y' y (sym (paired_same (has_paired l y' e))) e

  pub later_back : (l : Luid) → is_paired y' ≡ true → has_luid l y ≡ true → has_luid l y' ≡ true
  later_back l p e = has_too l y y' (paired_same p) e

  later_tells : (x : Card) → tells_of x y' ≡ true → tells_of x y ≡ true
  unfolding tells_of
  later_tells x e =
      ap (λ (b : Bool). b && is_named (named_by (report_in x)) y) (and_first x.report.on (is_named (named_by (report_in x)) y') e)
      ∙ go (eqb x.report.guid.0 0) (and_second x.report.on (is_named (named_by (report_in x)) y') e)
    where
      go : (b : Bool) → is_named (cond b (Named.ByLuid x.report.luid) (Named.ByGuid x.report.guid)) y' ≡ true
          → is_named (cond b (Named.ByLuid x.report.luid) (Named.ByGuid x.report.guid)) y ≡ true
      go true q = later_has x.report.luid q
      go false q = ap (λ (n : _). eqb n.0 x.report.guid.0) (sym m.guid) ∙ q

  pub later_heard : y.pairing.known ≤ y'.pairing.known → (x : Card) → heard x y ≡ y → heard x y' ≡ y'
  unfolding heard told
  later_heard k x q = go (tells_of x y') refl
    where
      r : Entry
      r = report_in x

      -- it was late
      was : (b : Bool) → is_late r y ≡ b → cond b y (counted r y) ≡ y → r.fields.fp ≤ y.pairing.known
      was true e p = leb-true r.fields.fp y.pairing.known e
      was false e p = let z : r.fields.fp ≡ y.pairing.known = ap (λ (u : Record). u.pairing.known) p in omega arith

      go : (b : Bool) → tells_of x y' ≡ b → cond b (cond (is_late r y') y' (counted r y')) y' ≡ y'
      go false e = refl
      go true e =
          let t = later_tells x e in
          let p : cond (is_late r y) y (counted r y) ≡ y = sym (chosen (tells_of x y) (cond (is_late r y) y (counted r y)) y t) ∙ q in
          let l : r.fields.fp ≤ y'.pairing.known = omega (arith, was (is_late r y) refl p, k) in
          chosen (is_late r y') y' (counted r y') (le-leb r.fields.fp y'.pairing.known l)

-- ---- what a record may become
pub record Moves (c : Cards) (y y' : Record) : Type 0 where
  pub mild : Mild y y'
  pub up : y.pairing.known ≤ y'.pairing.known
  pub known : y'.pairing.known ≤ c.fp
  pub unclean : is_paired y' ≡ false → y'.pairing.mark ≡ rec.Mark.Clean → ⊥
  pub agrees : (i : ℕ) (x : Card) → card_at c i ≡ holds x → press.is_live x.mark ≡ true → has_luid x.luid y' ≡ true → Agrees x y → Agrees x y'
  pub alive : is_paired y' ≡ true → (y'.pairing.mark ≡ rec.Mark.Deleted → ⊥) → (y.pairing.mark ≡ rec.Mark.Deleted → ⊥) ⊎ Owned c y'
  pub kept : (i : ℕ) (x : Card) → card_at c i ≡ holds x → HasOne x → has_luid x.luid y ≡ true → has_luid x.luid y' ≡ true

abbrev pub MovesTo : Cards → Record → Slot Record → Type 0
MovesTo c y free = (i : ℕ) (x : Card) → card_at c i ≡ holds x → HasOne x → has_luid x.luid y ≡ true → ⊥
MovesTo c y (holds y') = Moves c y y'

-- the invariant, with nothing new to hear
pub record Told (c : Cards) (s : Records) : Type 0 where
  pub inv : Invariant c s
  pub quiet : Quiet c s

module _ (c : Cards) (s : Records) (h : Told c s) (j : ℕ) (y : Record) (w : record_at s j ≡ holds y) where
  is_of : (i : ℕ) (x : Card) → card_at c i ≡ holds x → IsOf x y → has_luid x.luid y ≡ true
  is_of i x e k = subst (λ (u : Record). has_luid x.luid u ≡ true) (h.quiet i x e j y w) k

  same_at : (v : Record) → record_at s j ≡ holds v → v ≡ y
  same_at v a = holds_one v y (sym a ∙ w)

  pub moves_fit : (z : Slot Record) → MovesTo c y z → Fits c s j z
  moves_fit free m = record { ok = tt; pairs = λ i x e. tt; owned = tt; still = λ i x e one v a k. m i x e one (is_of i x e (subst (IsOf x) (same_at v a) k)) }
  moves_fit (holds y') m =
      record {
        ok = record { unclean = m.unclean; low = low m.mild.luid; known = m.known };
        pairs = pairs;
        owned = λ p d. ⊎_elim (λ alive. owner p (h.inv.owned j y w (was_paired p) alive)) (λ (o : Owned c y'). o) (m.alive p d);
        still = λ i x e one v a k. now i x e (m.kept i x e one (is_of i x e (subst (IsOf x) (same_at v a) k)));
      }
    where
      low : ((y'.pairing.luid ≡ y.pairing.luid) ⊎ (y'.pairing.luid.0 ≡ 0)) → y'.pairing.luid.0 ≤ c.luid
      low (inl e) = subst (λ (l : Luid). l.0 ≤ c.luid) (sym e) (h.inv.records j y w).low
      low (inr e) = omega (arith, e)

      same_luid_lem : is_paired y' ≡ true → y'.pairing.luid ≡ y.pairing.luid
      same_luid_lem p = paired_same y y' m.mild p

      was_paired : is_paired y' ≡ true → is_paired y ≡ true
      was_paired p = subst (λ (l : Luid). not (eqb l.0 0) ≡ true) (same_luid_lem p) p

      owner : is_paired y' ≡ true → Owned c y → Owned c y'
      owner p o = record { place = o.place; card = o.card; here = o.here; is = later_back y y' m.mild o.card.luid p o.is }

      quiet : (i : ℕ) (x : Card) → card_at c i ≡ holds x → heard x y' ≡ y'
      quiet i x e = later_heard y y' m.mild m.up x (h.quiet i x e j y w)

      now : (i : ℕ) (x : Card) → card_at c i ≡ holds x → has_luid x.luid y' ≡ true → IsOf x y'
      now i x e k = subst (λ (u : Record). has_luid x.luid u ≡ true) (sym (quiet i x e)) k

      pairs : (i : ℕ) (x : Card) → card_at c i ≡ holds x → Pair x y'
      pairs i x e =
          let p = h.inv.pairs i x e j y w in
          let back : (u v : Record) → u ≡ v → Agrees x u → Agrees x v = λ u v q a. subst (Agrees x) q a in
          record {
            own = λ f g q. later_back y y' m.mild x.luid q (p.own f (sym (ap (λ (n : _). n.0) m.mild.guid) ∙ g) (was_paired q));
            sole = λ f q. ap (λ (n : _). n.0) m.mild.guid ∙ p.sole f (later_has y y' m.mild x.luid q);
            agrees = λ live k.
                let has : has_luid x.luid y' ≡ true = subst (λ (u : Record). has_luid x.luid u ≡ true) (quiet i x e) k in
                let had : IsOf x y = subst (λ (u : Record). has_luid x.luid u ≡ true) (sym (h.quiet i x e j y w)) (later_has y y' m.mild x.luid has) in
                back y' (heard x y') (sym (quiet i x e)) (m.agrees i x e live has (back (heard x y) y (h.quiet i x e j y w) (p.agrees live had)));
          }

  -- nothing new is to be heard of it
  pub moves_quiet : (z : Slot Record) → MovesTo c y z → (i : ℕ) (x : Card) → card_at c i ≡ holds x → Holds (λ u. heard x u ≡ u) z
  moves_quiet free m i x e = tt
  moves_quiet (holds y') m i x e = later_heard y y' m.mild m.up x (h.quiet i x e j y w)

-- ---- a rule for those that pass a test, each of which may become what the rule makes of it
module _ (c : Cards) (s : Records) (q : Record → Bool) (f : Record → Slot Record)
    (may : (t : Table Record) → Told c (with_table s t) → (i : ℕ) → Hit no_record q t i → MovesTo c (get_or t.places i no_record) (f (get_or t.places i no_record))) where
  one : (t : Table Record) (i : ℕ) → Hit no_record q t i → Told c (with_table s t) → Told c (with_table s (put_at t i (f (get_or t.places i no_record))))
  one t i hit h =
      let y = get_or t.places i no_record in
      let w : record_at (with_table s t) i ≡ holds y = hit_holds no_record q t i hit in
      let m = may t h i hit in
      let here = view_here no_record t i (f y) hit.inside in
      let other : (k : ℕ) → (k ≡ i → ⊥) → record_at (with_table s (put_at t i (f y))) k ≡ record_at (with_table s t) k = λ k ne. view_other no_record t i (f y) k ne in
      record {
        inv = record_put c (with_table s t) (with_table s (put_at t i (f y))) i (f y) here other (mild_at (with_table s t) i h.inv.safe (omega (arith, hit.inside, h.inv.safe.formed.guids.long)) hit.used (f y) (mild (f y) m)) (omega arith) (moves_fit c (with_table s t) h i y w (f y) m) h.inv;
        quiet = λ k x e. of_all_lem c (with_table s t) (with_table s (put_at t i (f y))) i (f y) here other (λ u. heard x u ≡ u) (h.quiet k x e) (moves_quiet c (with_table s t) h i y w (f y) m k x e);
      }
    where
      mild : (z : Slot Record) → MovesTo c (get_or t.places i no_record) z → MildSlot (get_or t.places i no_record) z
      mild free m = tt
      mild (holds y') m = m.mild

  pub act_told : Told c s → Told c (with_table s (act no_record q f (table_of s)))
  act_told h = act_keeps no_record q f (λ (t : Table Record). Told c (with_table s t)) one (table_of s) h

  pub each_told : Told c s → Told c (with_table s (each no_record q f (table_of s)))
  each_told h = each_keeps no_record q f (λ (t : Table Record). Told c (with_table s t)) one (λ t k. k.inv.safe.formed.guids.long) (table_of s) h
