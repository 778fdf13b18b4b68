-- The press at Pkg 4: statuses end marks, and delete marks go. The invariant stays, also where 420 keeps a mark. Assumes nothing.
use Prim.Native.Nat.{ℕ, ◌≤◌, ◌<◌}
use mathlib.Core.Path.{◌≡◌, refl, sym, ap, ◌∙◌, subst}
use mathlib.Core.Bool.{Bool, true, false, cond, false≢true}
use mathlib.Core.List.{List, [], ◌∷◌}
use native.Mathlib.Omega.{arith}
use lib.ListN.{get_or}
use borrow.Author.Tests.{eqb-true, not-true}
use Rattle.places.specs.Set.{all_places}
use Rattle.places.specs.Act.{Table, Slot, free, holds, put_at, act, each, in_order}
use Rattle.places.proofs.KeptLaws.{Holds, Hit, act_keeps, each_keeps, sound_put, each_put, SameNumber}
use Rattle.places.proofs.Views.{view_here, view_other}
use Rattle.places.proofs.Every.{Every, every}
use Rattle.places.proofs.Held.{All, hit_holds, holds_one, put_all}
use Rattle.text.specs.Wording.{IsWording}
use Rattle.lists.specs.declared.Entry.{Entry}
use Rattle.terms.specs.declared.Luid.{Luid}
use Rattle.cards.specs.declared.Card.{Card}
use Rattle.cards.specs.declared.Cards.{Cards}
use Rattle.cards.specs.Press as press
use Rattle.cards.specs.Press.{no_card}
use Rattle.records.specs.declared.Record.{Record}
use Rattle.records.specs.declared.Records.{Records}
use Rattle.record_moves.specs.Named.{has_luid}
use Rattle.card_moves.specs.Moves as moves
use Rattle.card_moves.specs.Moves.{is_entry, is_delete_mark, freed, without_delete_marks}
use Rattle.server_each.proofs.EachRecord.{record_at}
use Rattle.press_ends.specs.End.{keeps_mark, cleaned, ended, end_mark}
use Rattle.pairs.proofs.Invariant.{card_at, heard, Agrees, Invariant}
use Rattle.pairs.proofs.Heard.{no_report_lem}
use Rattle.pairs.proofs.EntryPut.{FitsHere, entry_put}
use Rattle.pairs.proofs.Once.{one_luid}

-- ---- what the server knows of an entry that was told of: all of the card; nothing of a delete mark
pub record Knows (s : Records) (x : Card) : Type 0 where
  pub place : ℕ
  pub record' : Record
  pub here : record_at s place ≡ holds record'
  pub has : has_luid x.luid record' ≡ true
  pub all : x.fp ≤ record'.pairing.known

abbrev pub Lost : Records → Card → Type 0
Lost s x = (j : ℕ) (y : Record) → record_at s j ≡ holds y → has_luid x.luid y ≡ true → ⊥

-- there are no reports, and each delete mark is lost
pub record Bared (c : Cards) (s : Records) : Type 0 where
  pub inv : Invariant c s
  pub bare : (i : ℕ) (x : Card) → card_at c i ≡ holds x → x.report.on ≡ false
  pub lost : (i : ℕ) (x : Card) → card_at c i ≡ holds x → press.is_live x.mark ≡ false → Lost s x

-- a card with a command's LUID may end: the server knows all of it
abbrev MayEnd : Records → Entry → Card → Type 0
MayEnd s d x = x.luid.0 ≡ d.fields.luid.0 → press.is_live x.mark ≡ true → Knows s x

abbrev pub EndsAt : Records → Cards → Entry → Type 0
EndsAt s c d = All no_card (MayEnd s d) (moves.table_of c)

module _ (c : Cards) (s : Records) (h : Bared c s) (i : ℕ) (x : Card) (e : card_at c i ≡ holds x) where
  silent : (y : Record) → heard x y ≡ y
  silent y = no_report_lem x (h.bare i x e) y

  one : (z : Card) → card_at c i ≡ holds z → x ≡ z
  one z g = holds_one x z (sym e ∙ g)

  freed_fits : press.is_live x.mark ≡ false → FitsHere c s i free
  freed_fits dead =
      record { ok = tt; pairs = λ k v u. tt; sole = tt; recorded = tt; still = λ k v u p d z g q. h.lost i x e dead k v u (subst (λ (a : Card). has_luid a.luid v ≡ true) (sym (one z g)) q) }

  cleaned_fits : press.is_live x.mark ≡ true → Knows s x → FitsHere c s i (holds (cleaned x))
  cleaned_fits live k =
      let off = h.bare i x e in
      let quiet : (y : Record) → heard (cleaned x) y ≡ y = λ y. no_report_lem (cleaned x) off y in
      record {
        ok = record { bare = λ a. off; older = λ on. absurd (false≢true (sym off ∙ on)); known = λ on. absurd (false≢true (sym off ∙ on)) };
        pairs = λ n v u.
            record {
              own = λ f. absurd (false≢true (sym off ∙ f.on));
              sole = λ f. absurd (false≢true (sym off ∙ f.on));
              agrees = λ l q.
                  let has : has_luid x.luid v ≡ true = subst (λ (r : Record). has_luid x.luid r ≡ true) (quiet v) q in
                  let a : Agrees x v = subst (Agrees x) (silent v) ((h.inv.pairs i x e n v u).agrees live (subst (λ (r : Record). has_luid x.luid r ≡ true) (sym (silent v)) has)) in
                  let same : v ≡ k.record' = one_luid s h.inv.safe n v u k.place k.record' k.here x.luid has k.has in
                  let all : x.fp ≤ v.pairing.known = subst (λ (r : Record). x.fp ≤ r.pairing.known) (sym same) k.all in
                  let below = a.below in
                  subst (Agrees (cleaned x)) (sym (quiet v)) (record { below = below; clean = λ m. omega (arith, below, all); wording = a.wording });
            };
        sole = λ f. absurd (false≢true (sym off ∙ f.on));
        recorded = λ l o. record { place = k.place; record' = k.record'; here = k.here; is = subst (λ (r : Record). has_luid x.luid r ≡ true) (sym (quiet k.record')) k.has };
        still = λ n v u p d z g q. subst (λ (a : Card). has_luid a.luid v ≡ true) (sym (one z g)) q;
      }

  -- ---- an entry that ends
  ended_fits : (press.is_live x.mark ≡ true → Knows s x) → FitsHere c s i (ended x)
  ended_fits k = go (press.is_live x.mark) refl
    where
      go : (b : Bool) → press.is_live x.mark ≡ b → FitsHere c s i (cond b (holds (cleaned x)) free)
      go true l = cleaned_fits l (k l)
      go false l = freed_fits l

-- ---- a rule at the press that ends entries
abbrev EndsTo : Card → Slot Card → Type 0
EndsTo x free = Unit {0}
EndsTo x (holds z) = (z.luid ≡ x.luid) × (z.fp ≡ x.fp) × (z.report ≡ x.report) × (z.wording ≡ x.wording) × (press.is_live z.mark ≡ press.is_live x.mark)

ended_to : (x : Card) → EndsTo x (ended x)
ended_to x = go (press.is_live x.mark) refl
  where
    go : (b : Bool) → press.is_live x.mark ≡ b → EndsTo x (cond b (holds (cleaned x)) free)
    go true l = (refl, refl, refl, refl, sym l)
    go false l = tt

module _ (c : Cards) (s : Records) (q : Card → Bool) (f : Card → Slot Card) (to : (x : Card) → EndsTo x (f x)) where
  put_fits : (t : Table Card) (i : ℕ) → Hit no_card q t i → Bared (moves.with_table c t) s → FitsHere (moves.with_table c t) s i (f (get_or t.places i no_card)) → Bared (moves.with_table c (put_at t i (f (get_or t.places i no_card)))) s
  put_fits t i hit k fit =
      let z = f (get_or t.places i no_card) in
      let m = to (get_or t.places i no_card) in
      let inside : i < all_places = omega (arith, hit.inside, k.inv.formed.luids.long) in
      record {
        inv = entry_put (moves.with_table c t) (moves.with_table c (put_at t i z)) s i z (view_here no_card t i z hit.inside) (λ n ne. view_other no_card t i z n ne)
            (record { station = k.inv.formed.station; luids = sound_put press.luid_of no_card c.luid t i inside hit.used z (same z m) k.inv.formed.luids; cards = each_put press.luid_of no_card c.luid (press.FineCard c.fp) t i inside hit.used z (fine z m) k.inv.formed.luids k.inv.formed.cards })
            (omega arith) (omega arith) fit k.inv;
        bare = put_all no_card (λ v. v.report.on ≡ false) t i z hit.inside k.bare (off z m);
        lost = put_all no_card (λ v. press.is_live v.mark ≡ false → Lost s v) t i z hit.inside k.lost (gone z m);
      }
    where
      x : Card
      x = get_or t.places i no_card

      e : card_at (moves.with_table c t) i ≡ holds (get_or t.places i no_card)
      e = hit_holds no_card q t i hit

      same : (z : Slot Card) → EndsTo (get_or t.places i no_card) z → SameNumber press.luid_of (get_or t.places i no_card) z
      same free m = tt
      same (holds v) m = ap (λ (l : Luid). l.0) m.0

      fine : (z : Slot Card) → EndsTo (get_or t.places i no_card) z → Holds (press.FineCard c.fp) z
      fine free m = tt
      fine (holds v) m =
          let w = k.inv.formed.cards i hit.used in
          (subst (λ (n : ℕ). 1 ≤ n) (sym m.1) w.0, subst (λ (n : ℕ). n ≤ c.fp) (sym m.1) w.1, subst IsWording (sym m.3) w.2, λ on. ap (λ (r : _). r.luid) m.2 ∙ (w.3 (sym (ap (λ (r : _). r.on) m.2) ∙ on) ∙ sym m.0))

      off : (z : Slot Card) → EndsTo (get_or t.places i no_card) z → Holds (λ v. v.report.on ≡ false) z
      off free m = tt
      off (holds v) m = ap (λ (r : _). r.on) m.2 ∙ k.bare i (get_or t.places i no_card) e

      gone : (z : Slot Card) → EndsTo (get_or t.places i no_card) z → Holds (λ v. press.is_live v.mark ≡ false → Lost s v) z
      gone free m = tt
      gone (holds v) m = λ dead j y u a. k.lost i (get_or t.places i no_card) e (sym m.4 ∙ dead) j y u (subst (λ (l : Luid). has_luid l y ≡ true) m.0 a)

  pub each_bared : ((t : Table Card) → Bared (moves.with_table c t) s → (i : ℕ) → Hit no_card q t i → FitsHere (moves.with_table c t) s i (f (get_or t.places i no_card))) → Bared c s
      → Bared (moves.with_table c (each no_card q f (moves.table_of c))) s
  each_bared fits h = each_keeps no_card q f (λ (t : Table Card). Bared (moves.with_table c t) s) (λ t i hit k. put_fits t i hit k (fits t k i hit)) (λ t k. k.inv.formed.luids.long) (moves.table_of c) h

-- ---- in recovery all delete marks go
pub unmarked_bared : (c : Cards) (s : Records) → Bared c s → Bared (without_delete_marks c) s
unfolding without_delete_marks
unmarked_bared c s h =
    each_bared c s is_delete_mark freed (λ x. tt)
    (λ t k i hit. freed_fits (moves.with_table c t) s k i (get_or t.places i no_card) (hit_holds no_card is_delete_mark t i hit) (not-true (press.is_live (get_or t.places i no_card).mark) hit.passes)) h

-- ---- a status
knows_same : (s : Records) (x z : Card) → EndsTo x (holds z) → Knows s x → Knows s z
knows_same s x z m k =
    record {
      place = k.place;
      record' = k.record';
      here = k.here;
      has = subst (λ (l : Luid). has_luid l k.record' ≡ true) (sym m.0) k.has;
      all = subst (λ (n : ℕ). n ≤ k.record'.pairing.known) (sym m.1) k.all;
    }

-- a card that may end may end after another has ended
put_may : (s : Records) (d : Entry) (q : Card → Bool) (t : Table Card) (i : ℕ) → Hit no_card q t i → All no_card (MayEnd s d) t → All no_card (MayEnd s d) (put_at t i (ended (get_or t.places i no_card)))
put_may s d q t i hit g = put_all no_card (MayEnd s d) t i (ended x) hit.inside g (go (ended x) (ended_to x))
  where
    x : Card
    x = get_or t.places i no_card

    go : (z : Slot Card) → EndsTo (get_or t.places i no_card) z → Holds (MayEnd s d) z
    go free m = tt
    go (holds z) m = λ l live. knows_same s (get_or t.places i no_card) z m (g i (get_or t.places i no_card) (hit_holds no_card q t i hit) (sym (ap (λ (a : Luid). a.0) m.0) ∙ l) (sym m.4 ∙ live))

module _ (s : Records) (p : Entry × Entry) (c : Cards) where
  abbrev hits : Card → Bool
  hits = is_entry p.0.fields.luid

  pub end_bared : (keeps_mark p.1.fields.code ≡ false → EndsAt s c p.0) → Bared c s → Bared (end_mark p c) s
  unfolding end_mark
  end_bared k h = go (keeps_mark p.1.fields.code) k
    where
      State : Table Card → Type 0
      State t = Bared (moves.with_table c t) s × All no_card (MayEnd s p.0) t

      one : (t : Table Card) (i : ℕ) → Hit no_card hits t i → State t → State (put_at t i (ended (get_or t.places i no_card)))
      one t i hit b =
          let x = get_or t.places i no_card in
          let e = hit_holds no_card hits t i hit in
          let l : x.luid.0 ≡ p.0.fields.luid.0 = eqb-true x.luid.0 p.0.fields.luid.0 hit.passes in
          (put_fits c s hits ended ended_to t i hit b.0 (ended_fits (moves.with_table c t) s b.0 i x e (b.1 i x e l)), put_may s p.0 hits t i hit b.1)

      go : (b : Bool) → (b ≡ false → EndsAt s c p.0) → Bared (cond b c (moves.with_table c (act no_card hits ended (moves.table_of c)))) s
      go true g = h
      go false g = (act_keeps no_card hits ended State one (moves.table_of c) (h, g refl)).0

  -- what may end after it may end before it
  pub end_keeps : (d : Entry) → EndsAt s c d → EndsAt s (end_mark p c) d
  unfolding end_mark
  end_keeps d k = go (keeps_mark p.1.fields.code)
    where
      go : (b : Bool) → EndsAt s (cond b c (moves.with_table c (act no_card hits ended (moves.table_of c)))) d
      go true = k
      go false = act_keeps no_card hits ended (All no_card (MayEnd s d)) (put_may s d hits) (moves.table_of c) k

-- ---- all statuses
pub ends_bared : (s : Records) (ps : List (Entry × Entry)) (c : Cards) → Every (λ p. keeps_mark p.1.fields.code ≡ false → EndsAt s c p.0) ps → Bared c s → Bared (in_order end_mark ps c) s
unfolding in_order
ends_bared s [] c k h = h
ends_bared s (p ∷ ps) c k h =
    ends_bared s ps (end_mark p c)
    (every (λ r. keeps_mark r.1.fields.code ≡ false → EndsAt s c r.0) (λ r. keeps_mark r.1.fields.code ≡ false → EndsAt s (end_mark p c) r.0) (λ r g e. end_keeps s p c r.0 (g e)) ps k.1)
    (end_bared s p c k.0 h)
