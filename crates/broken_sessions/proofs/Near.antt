-- Near tables: all entries are clean cards, and each record is done, or offered and reported, or deleted and without a card. What a session from them ends in. Assumes nothing.
use Prim.Native.Nat.{ℕ, ◌<◌}
use mathlib.Core.Path.{◌≡◌, refl, sym, ap, ◌∙◌, subst}
use mathlib.Core.Bool.{Bool, true, false, cond}
use mathlib.Core.List.{List, [], ◌∷◌}
use mathlib.Core.Logic.{inl, inr}
use native.Mathlib.Omega.{arith}
use Rattle.places.specs.Act.{Slot, free, holds, in_order}
use Rattle.places.proofs.Views.{on}
use Rattle.places.proofs.Every.{Every}
use Rattle.places.proofs.Held.{holds_one, not_free}
use Rattle.lists.specs.declared.Entry.{Entry}
use Rattle.cards.specs.declared.Mark as card
use Rattle.cards.specs.declared.Card.{Card}
use Rattle.cards.specs.declared.Cards.{Cards}
use Rattle.records.specs.declared.Mark as rec
use Rattle.records.specs.declared.Record.{Record}
use Rattle.records.specs.declared.Records.{Records}
use Rattle.record_moves.specs.Named.{is_paired, has_luid, is_named}
use Rattle.card_moves.specs.Moves.{without_reports}
use Rattle.server_reports.specs.Step1.{named_by, settled, counted, told, report}
use Rattle.server_each.proofs.EachRecord.{record_at, named_each}
use Rattle.press_tells.specs.Tell.{reports}
use Rattle.own_packages.proofs.Own.{heard_all}
use Rattle.pairs.proofs.Invariant.{card_at, report_in, tells_of, heard, Invariant}
use Rattle.pairs.proofs.Claims.{Claims, tells_claims, one_claims}
use Rattle.pairs.proofs.Heard.{unheard, heard_again, heard_counted}
use Rattle.server_pairs.proofs.Reports.{heard_claims, IsReport, one_keeps}
use Rattle.server_pairs.proofs.Quiet.{Quiet, cases}
use Rattle.server_pairs.proofs.Step1.{own_reports}

-- ---- what becomes of the record y: z
pub data Ends (c : Cards) (y : Record) (z : Slot Record) : Type 0 where
  done : y.pairing.mark ≡ rec.Mark.Clean → ((i : ℕ) (x : Card) → card_at c i ≡ holds x → heard x y ≡ y) → z ≡ holds y → Ends c y z
  reported : y.pairing.mark ≡ rec.Mark.Offered → (i : ℕ) (x : Card) → card_at c i ≡ holds x → tells_of x y ≡ true → y.pairing.known < x.report.fp → z ≡ holds (heard x y) → Ends c y z
  gone : y.pairing.mark ≡ rec.Mark.Deleted → is_paired y ≡ true → ((i : ℕ) (x : Card) → card_at c i ≡ holds x → has_luid x.luid y ≡ true → ⊥) → z ≡ free → Ends c y z

pub record Near (c : Cards) (s : Records) (e : Cards) (f : Records) : Type 0 where
  pub clean : (i : ℕ) (x : Card) → card_at c i ≡ holds x → x.mark ≡ card.Mark.Clean
  pub cards : (i : ℕ) → card_at (without_reports c) i ≡ card_at e i
  pub empty : (j : ℕ) → record_at s j ≡ free → record_at f j ≡ free
  pub records : (j : ℕ) (y : Record) → record_at s j ≡ holds y → Ends c y (record_at f j)

-- ---- a report that is news: the record once it is heard
module _ (c : Cards) (s : Records) (h : Invariant c s) (i : ℕ) (x : Card) (e : card_at c i ≡ holds x) (j : ℕ) (y : Record) (w : record_at s j ≡ holds y) (t : tells_of x y ≡ true) (new : y.pairing.known < x.report.fp) where
  pub is_counted : heard x y ≡ counted (report_in x) y
  is_counted = heard_counted x y t new

  pub is_news : heard x y ≡ y → ⊥
  is_news q = let k : x.report.fp ≡ y.pairing.known = ap (λ (z : Record). z.pairing.known) (sym is_counted ∙ q) in omega (arith, k, new)

  pub then_clean : y.pairing.mark ≡ rec.Mark.Offered → (heard x y).pairing.mark ≡ rec.Mark.Clean
  then_clean m = ap (λ (z : Record). z.pairing.mark) is_counted ∙ ap settled m

-- a record that no entry has is named by no report
pub untold : (c : Cards) (s : Records) → Invariant c s → (j : ℕ) (y : Record) → record_at s j ≡ holds y → is_paired y ≡ true → ((i : ℕ) (x : Card) → card_at c i ≡ holds x → has_luid x.luid y ≡ true → ⊥)
    → (i : ℕ) (x : Card) → card_at c i ≡ holds x → tells_of x y ≡ true → ⊥
untold c s h j y w p none i x e t = go (tells_claims c h.formed i x e y t)
  where
    go : Claims x y → ⊥
    go (inl a) = none i x e ((h.pairs i x e j y w).own a.0 a.1 p)
    go (inr a) = none i x e a

same_card_lem : (c : Cards) (i k : ℕ) (x z : Card) → i ≡ k → card_at c i ≡ holds x → card_at c k ≡ holds z → x ≡ z
same_card_lem c i k x z q e g = holds_one x z (sym e ∙ (ap (card_at c) q ∙ g))

-- ---- the server hears one report of the press
module _ (c : Cards) (e : Cards) (f : Records) where
  report_view : (s : Records) → Invariant c s → (z : Card) (j : ℕ) → record_at (report (report_in z) s) j ≡ on (is_named (named_by (report_in z))) (λ y. holds (told (report_in z) y)) (record_at s j)
  unfolding report
  report_view s h z j = named_each s h.safe (named_by (report_in z)) (λ y. holds (told (report_in z) y)) j

  one_near : (s : Records) → Invariant c s → (k : ℕ) (z : Card) → card_at c k ≡ holds z → z.report.on ≡ true → Near c s e f → Near c (report (report_in z) s) e f
  one_near s h k z g o n =
      record {
        clean = n.clean;
        cards = n.cards;
        empty = λ j q. n.empty j (was j (record_at s j) refl (sym (after j) ∙ q));
        records = λ j v q. cases c s h k z g o (λ j v. record_at (report (report_in z) s) j ≡ holds v → Ends c v (record_at f j)) (λ j y w t q. n.records j y w) (λ j y w t q. hit j y w t q (n.records j y w)) j v q q;
      }
    where
      after : (j : ℕ) → record_at (report (report_in z) s) j ≡ on (is_named (named_by (report_in z))) (λ y. holds (told (report_in z) y)) (record_at s j)
      after j = report_view s h z j

      was : (j : ℕ) (v : Slot Record) → record_at s j ≡ v → on (is_named (named_by (report_in z))) (λ y. holds (told (report_in z) y)) v ≡ free → record_at s j ≡ free
      was j free q r = q
      was j (holds y) q r = by (is_named (named_by (report_in z)) y) r
        where
          by : (b : Bool) → cond b (holds (told (report_in z) y)) (holds y) ≡ free → record_at s j ≡ free
          by true r = not_free (told (report_in z) y) r
          by false r = not_free y r

      hit : (j : ℕ) (y : Record) → record_at s j ≡ holds y → tells_of z y ≡ true → record_at (report (report_in z) s) j ≡ holds (heard z y) → Ends c y (record_at f j) → Ends c (heard z y) (record_at f j)
      hit j y w t q (done m quiet r) = subst (λ (u : Record). Ends c u (record_at f j)) (sym (quiet k z g)) (done m quiet r)
      hit j y w t q (gone m p none r) = absurd (untold c s h j y w p none k z g t)
      hit j y w t q (reported m i x a t' new r) =
          let same : x ≡ z = same_card_lem c i k x z (one_claims c s h i k x z a g j y w (tells_claims c h.formed i x a y t') (tells_claims c h.formed k z g y t)) a g in
          done (then_clean c s h k z g j y w t (subst (λ (u : Card). y.pairing.known < u.report.fp) same new) m) (quiet j y w t q) (subst (λ (u : Card). record_at f j ≡ holds (heard u y)) same r)
        where
          quiet : (j : ℕ) (y : Record) → record_at s j ≡ holds y → tells_of z y ≡ true → record_at (report (report_in z) s) j ≡ holds (heard z y) → (i : ℕ) (x : Card) → card_at c i ≡ holds x → heard x (heard z y) ≡ heard z y
          quiet j y w t q i x a = go (tells_of x (heard z y)) refl
            where
              go : (b : Bool) → tells_of x (heard z y) ≡ b → heard x (heard z y) ≡ heard z y
              go false u = unheard x (heard z y) u
              go true u =
                  let h' = one_keeps c s h (report_in z) (k, z, g, o, refl) in
                  let same : x ≡ z = same_card_lem c i k x z (one_claims c (report (report_in z) s) h' i k x z a g j (heard z y) q (tells_claims c h.formed i x a (heard z y) u) (heard_claims c s h k z g j y w t)) a g in
                  subst (λ (v : Card). heard v (heard z y) ≡ heard z y) (sym same) (heard_again z y)

  -- ---- all reports
  reports_near : (rs : List Entry) → Every (IsReport c) rs → (s : Records) → Invariant c s → Near c s e f → Near c (in_order report rs s) e f
  unfolding in_order
  reports_near [] k s h n = n
  reports_near (r ∷ rs) k s h n =
      let o = k.0 in
      reports_near rs k.1 (report r s) (one_keeps c s h r o) (subst (λ (u : Entry). Near c (report u s) e f) (sym o.4) (one_near s h o.0 o.1 o.2 o.3 n))

  pub heard_near : (s : Records) → Invariant c s → Near c s e f → Near c (heard_all c s) e f
  heard_near s h n = reports_near (reports c) (own_reports c) s h n

-- ---- near, and nothing new to hear: each record is done, or deleted and without a card
pub data Calm (c : Cards) (y : Record) (z : Slot Record) : Type 0 where
  done : y.pairing.mark ≡ rec.Mark.Clean → z ≡ holds y → Calm c y z
  gone : y.pairing.mark ≡ rec.Mark.Deleted → is_paired y ≡ true → ((i : ℕ) (x : Card) → card_at c i ≡ holds x → has_luid x.luid y ≡ true → ⊥) → z ≡ free → Calm c y z

pub calm : (c : Cards) (s : Records) → Invariant c s → Quiet c s → (j : ℕ) (y : Record) → record_at s j ≡ holds y → (z : Slot Record) → Ends c y z → Calm c y z
calm c s h q j y w z (done m k r) = done m r
calm c s h q j y w z (reported m i x e t new r) = absurd (is_news c s h i x e j y w t new (q i x e j y w))
calm c s h q j y w z (gone m p none r) = gone m p none r
