-- Step 1 of the server at Pkg 3, with the press's own reports: each fits (none is refused 8), and each leaves the invariant. Assumes nothing.
use Rattle.std.proofs.Common.{Option, Some, None}
use Prim.Native.Nat.{ℕ, ◌≤◌}
use mathlib.Core.Path.{◌≡◌, refl, sym, ap, ap₂, ◌∙◌, subst}
use mathlib.Core.Bool.{Bool, true, false, cond, not, ◌&&◌, ◌||◌, false≢true, or-true}
use mathlib.Core.List.{List, [], ◌∷◌}
use mathlib.Core.Logic.{inl, inr}
use native.Mathlib.Omega.{arith}
use lib.Dec.{eqb}
use lib.ListN.{get_or}
use borrow.Author.Tests.{eq-eqb}
use Rattle.places.proofs.Choice.{and_first, and_second}
use Rattle.places.proofs.TableLaws.{by_place}
use Rattle.places.specs.Act.{holds, put_at, act_at, in_order, all_pass}
use Rattle.places.proofs.KeptLaws.{find_hit}
use Rattle.places.proofs.Views.{view_here, view_other}
use Rattle.places.proofs.Every.{Every}
use Rattle.places.proofs.Held.{hit_holds, holds_one}
use Rattle.lists.specs.declared.Entry.{Entry}
use Rattle.terms.specs.declared.Luid.{Luid}
use Rattle.cards.specs.declared.Card.{Card}
use Rattle.cards.specs.declared.Cards.{Cards}
use Rattle.records.specs.declared.Record.{Record}
use Rattle.records.specs.declared.Records.{Records}
use Rattle.records.specs.Server.{no_record}
use Rattle.record_moves.specs.Named.{Named}
use Rattle.record_moves.specs.Named.{table_of, with_table, is_paired, has_luid, has_guid, is_named, place_of, is_nothing, may_have, Safe}
use Rattle.record_moves.proofs.NamedLaws.{acted}
use Rattle.record_moves.proofs.HasLaws.{has_own, has_paired, has_same}
use Rattle.server_reports.specs.Step1.{named_by, is_late, counted, told, report, fits_at, report_fits}
use Rattle.server_reports.proofs.SafeReports.{report_safe}
use Rattle.server_each.proofs.EachRecord.{record_at}
use Rattle.pairs.proofs.Invariant.{card_at, report_in, tells_of, heard, IsOf, Agrees, FromServer, Pair, RecordOK, Invariant}
use Rattle.pairs.proofs.Claims.{Claims, tells_claims, is_claims, one_claims}
use Rattle.pairs.proofs.Heard.{heard_again, heard_told}
use Rattle.pairs.proofs.RecordPut.{HasOne, NeedsOwner, Fits, record_put}
use Rattle.pairs.proofs.Once.{fp_given, luid_apart, luid_given, luid_least, one_luid, report_luid}

-- ---- the report of x, at a record that it names
module _ (c : Cards) (s : Records) (h : Invariant c s) (i : ℕ) (x : Card) (e : card_at c i ≡ holds x) where
  abbrev r : Entry
  r = report_in x

  module _ (j : ℕ) (y : Record) (w : record_at s j ≡ holds y) (t : tells_of x y ≡ true) where
    on : x.report.on ≡ true
    unfolding tells_of
    on = and_first x.report.on (is_named (named_by r) y) t

    mine : Claims x y
    mine = tells_claims c h.formed i x e y t

    -- what holds of y and of y counted holds of y heard
    pub by_late : (P : Record → Type 0) → P y → P (counted r y) → P (heard x y)
    unfolding told
    by_late P a b = subst P (sym (heard_told x y t)) (go (is_late r y))
      where
        go : (q : Bool) → P (cond q y (counted r y))
        go true = a
        go false = b

    same_luid_lem : x.report.luid ≡ x.luid
    same_luid_lem = report_luid c h.formed i x e on

    counted_has : has_luid x.luid (counted r y) ≡ true
    counted_has = subst (λ (l : Luid). (not (eqb l.0 0) && eqb l.0 x.luid.0) ≡ true) (sym same_luid_lem) (has_own x.luid (luid_least c h.formed i x e))

    pub heard_claims : Claims x (heard x y)
    heard_claims = go mine
      where
        go : Claims x y → Claims x (heard x y)
        go (inl a) = inl (a.0, by_late (λ (v : Record). v.guid.0 ≡ x.report.guid.0) a.1 a.1)
        go (inr b) = inr (by_late (λ (v : Record). has_luid x.luid v ≡ true) b counted_has)

    -- another entry does not claim it
    module _ (k : ℕ) (z : Card) (g : card_at c k ≡ holds z) (ne : k ≡ i → ⊥) where
      not_y : Claims z y → ⊥
      not_y q = ne (one_claims c s h k i z x g e j y w q mine)

      not_has : has_luid z.luid (counted r y) ≡ true → ⊥
      not_has q = ne (luid_apart c h.formed k i z x g e (has_same z.luid x.luid (counted r y) q counted_has))

      not_counted : Claims z (counted r y) → ⊥
      not_counted (inl a) = not_y (inl a)
      not_counted (inr b) = not_has b

    pub report_fits_lem : Fits c s j (holds (heard x y))
    report_fits_lem = record { ok = ok; pairs = pairs; owned = owned; still = still }
      where
        ok : RecordOK c (heard x y)
        ok =
            by_late (RecordOK c) (h.records j y w)
            (record {
              unclean = λ q m. false≢true (sym q ∙ has_paired x.luid (counted r y) counted_has);
              low = subst (λ (l : Luid). l.0 ≤ c.luid) (sym same_luid_lem) (luid_given c h.formed i x e);
              known = omega (arith, (h.entries i x e).older on, fp_given c h.formed i x e);
            })

        owned : NeedsOwner c (heard x y)
        owned = by_late (NeedsOwner c) (h.owned j y w) (λ p m. record { place = i; card = x; here = e; is = counted_has })

        -- x itself
        self : Pair x (heard x y)
        self =
            record {
              own = λ f q. by_late (λ (v : Record). v.guid.0 ≡ x.report.guid.0 → is_paired v ≡ true → has_luid x.luid v ≡ true) ((h.pairs i x e j y w).own f) (λ q p. counted_has) q;
              sole = λ f q. by_late (λ (v : Record). v.guid.0 ≡ x.report.guid.0) (named f mine) (named f mine);
              agrees = λ live is. subst (Agrees x) (sym (heard_again x y)) ((h.pairs i x e j y w).agrees live (subst (λ (v : Record). has_luid x.luid v ≡ true) (heard_again x y) is));
            }
          where
            named : FromServer x → Claims x y → y.guid.0 ≡ x.report.guid.0
            named f (inl a) = a.1
            named f (inr b) = (h.pairs i x e j y w).sole f b

        other : (k : ℕ) (z : Card) → card_at c k ≡ holds z → (k ≡ i → ⊥) → Pair z (heard x y)
        other k z g ne =
            by_late (Pair z) (h.pairs k z g j y w)
            (record {
              own = λ f q p. absurd (not_counted k z g ne (inl (f, q)));
              sole = λ f q. absurd (not_counted k z g ne (inr q));
              agrees = λ live is. absurd (not_counted k z g ne (is_claims c h.formed k z g (counted r y) is));
            })

        same_card_lem : (k : ℕ) (z : Card) → card_at c k ≡ holds z → k ≡ i → z ≡ x
        same_card_lem k z g q = holds_one z x (sym g ∙ (ap (card_at c) q ∙ e))

        pairs : (k : ℕ) (z : Card) → card_at c k ≡ holds z → Pair z (heard x y)
        pairs k z g = by_place i (λ k. card_at c k ≡ holds z → Pair z (heard x y)) (λ g. subst (λ (v : Card). Pair v (heard x y)) (sym (same_card_lem i z g refl)) self) (λ k ne g. other k z g ne) k g

        still : (k : ℕ) (z : Card) → card_at c k ≡ holds z → HasOne z → (v : Record) → record_at s j ≡ holds v → IsOf z v → IsOf z (heard x y)
        still k z g one v a is =
            by_place i (λ k. card_at c k ≡ holds z → IsOf z (heard x y))
            (λ g. let q = same_card_lem i z g refl in
            subst (λ (u : Card). IsOf u (heard x y)) (sym q) (subst (λ (u : Record). has_luid x.luid u ≡ true) (sym (heard_again x y)) (subst (λ (u : Card). IsOf u y) q (subst (IsOf z) same is))))
            (λ k ne g. absurd (not_y k z g ne (is_claims c h.formed k z g y (subst (IsOf z) same is)))) k g
          where
            same : v ≡ y
            same = holds_one v y (sym a ∙ w)

    -- 8 has nothing against it: the LUID is its own, or bound nowhere
    pub may : may_have x.report.luid y s ≡ true
    unfolding may_have
    may = ap₂ ◌&&◌ (own_or_none mine) (nothing (place_of s (Named.Elsewhere y.guid x.report.luid)) refl)
      where
        own_or_none : Claims x y → (not (is_paired y) || has_luid x.report.luid y) ≡ true
        own_or_none q = go (is_paired y) refl
          where
            has : is_paired y ≡ true → Claims x y → has_luid x.luid y ≡ true
            has p (inl a) = (h.pairs i x e j y w).own a.0 a.1 p
            has p (inr b) = b

            go : (b : Bool) → is_paired y ≡ b → (not b || has_luid x.report.luid y) ≡ true
            go false p = refl
            go true p = subst (λ (l : Luid). has_luid l y ≡ true) (sym same_luid_lem) (has p q)

        -- a record elsewhere with this LUID
        none_else : (k : ℕ) (v : Record) → record_at s k ≡ holds v → has_luid x.luid v ≡ true → Claims x y → v.guid.0 ≡ y.guid.0
        none_else k v a b (inl q) = (h.pairs i x e k v a).sole q.0 b ∙ sym q.1
        none_else k v a b (inr q) = ap (λ (u : Record). u.guid.0) (one_luid s h.safe k v a j y w x.luid b q)

        nothing : (f : Option ℕ) → place_of s (Named.Elsewhere y.guid x.report.luid) ≡ f → is_nothing f ≡ true
        nothing None q = refl
        nothing (Some k) q =
            let hit = find_hit no_record (is_named (Named.Elsewhere y.guid x.report.luid)) (table_of s) k q in
            let v = get_or s.places k no_record in
            let has = and_first (has_luid x.report.luid v) (not (has_guid y.guid v)) hit.passes in
            let others = and_second (has_luid x.report.luid v) (not (has_guid y.guid v)) hit.passes in
            let same : v.guid.0 ≡ y.guid.0 = none_else k v (hit_holds no_record (is_named (Named.Elsewhere y.guid x.report.luid)) (table_of s) k hit) (subst (λ (l : Luid). has_luid l v ≡ true) same_luid_lem has) mine in
            absurd (false≢true (sym (ap not (eq-eqb v.guid.0 y.guid.0 same)) ∙ others))

  -- ---- the report as Pkg 3 brings it
  module _ (on : x.report.on ≡ true) where
    abbrev named : Record → Bool
    named = is_named (named_by r)

    tells : (y : Record) → named y ≡ true → tells_of x y ≡ true
    unfolding tells_of
    tells y q = ap (λ (b : Bool). b && named y) on ∙ q

    pub own_report_fits : report_fits r s ≡ true
    unfolding report_fits
    own_report_fits = go (place_of s (named_by r)) refl
      where
        go : (f : Option ℕ) → place_of s (named_by r) ≡ f → fits_at r s f ≡ true
        go None q = refl
        go (Some j) q =
            let hit = find_hit no_record named (table_of s) j q in
            let y = get_or s.places j no_record in
            ap (λ (b : Bool). is_late r y || b) (may j y (hit_holds no_record named (table_of s) j hit) (tells y hit.passes)) ∙ or-true (is_late r y)

    pub own_report_keeps : Invariant c (report r s)
    unfolding report
    own_report_keeps = go (place_of s (named_by r)) refl
      where
        safe : Safe (report r s)
        safe = report_safe r s h.safe own_report_fits

        is : (f : Option ℕ) → place_of s (named_by r) ≡ f → report r s ≡ with_table s (act_at no_record (λ y. holds (told r y)) (table_of s) f)
        is f q = acted s (named_by r) (λ y. holds (told r y)) f q

        go : (f : Option ℕ) → place_of s (named_by r) ≡ f → Invariant c (report r s)
        go None q = subst (Invariant c) (sym (is None q)) h
        go (Some j) q =
            let hit = find_hit no_record named (table_of s) j q in
            let y = get_or s.places j no_record in
            let w = hit_holds no_record named (table_of s) j hit in
            let t = tells y hit.passes in
            let s' = with_table s (put_at (table_of s) j (holds (told r y))) in
            subst (Invariant c) (sym (is (Some j) q))
            (record_put c s s' j (holds (told r y)) (view_here no_record (table_of s) j (holds (told r y)) hit.inside) (λ k ne. view_other no_record (table_of s) j (holds (told r y)) k ne)
            (subst Safe (is (Some j) q) safe) (omega arith) (subst (λ (u : Record). Fits c s j (holds u)) (heard_told x y t) (report_fits_lem j y w t)) h)

-- ---- all of them, one after the other
abbrev pub IsReport : Cards → Entry → Type 0
IsReport c r = (i : ℕ) × (x : Card) × (card_at c i ≡ holds x) × (x.report.on ≡ true) × (r ≡ report_in x)

module _ (c : Cards) where
  one_fits : (s : Records) → Invariant c s → (r : Entry) → IsReport c r → report_fits r s ≡ true
  one_fits s h r (i, x, e, on, q) = subst (λ (u : Entry). report_fits u s ≡ true) (sym q) (own_report_fits c s h i x e on)

  pub one_keeps : (s : Records) → Invariant c s → (r : Entry) → IsReport c r → Invariant c (report r s)
  one_keeps s h r (i, x, e, on, q) = subst (λ (u : Entry). Invariant c (report u s)) (sym q) (own_report_keeps c s h i x e on)

  pub reports_pass : (rs : List Entry) → Every (IsReport c) rs → (s : Records) → Invariant c s → all_pass report_fits report rs s ≡ true
  unfolding all_pass
  reports_pass [] f s h = refl
  reports_pass (r ∷ rs) f s h = ap₂ ◌&&◌ (one_fits s h r f.0) (reports_pass rs f.1 (report r s) (one_keeps s h r f.0))

  pub reports_keep : (rs : List Entry) → Every (IsReport c) rs → (s : Records) → Invariant c s → Invariant c (in_order report rs s)
  unfolding in_order
  reports_keep [] f s h = h
  reports_keep (r ∷ rs) f s h = reports_keep rs f.1 (report r s) (one_keeps s h r f.0)
