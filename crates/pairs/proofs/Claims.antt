-- A record is claimed by one entry at most: by its LUID, or by a report that names it. Assumes nothing.
use Prim.Native.Nat.{ℕ}
use mathlib.Core.Path.{◌≡◌, refl, sym, ◌∙◌, subst}
use mathlib.Core.Bool.{Bool, true, false, cond}
use mathlib.Core.Logic.{◌⊎◌, inl, inr}
use lib.Dec.{eqb}
use borrow.Author.Tests.{eqb-true, eqb-false}
use Rattle.places.proofs.Choice.{and_first, and_second}
use Rattle.places.specs.Act.{holds}
use Rattle.terms.specs.declared.Luid.{Luid}
use Rattle.cards.specs.declared.Card.{Card}
use Rattle.cards.specs.declared.Cards.{Cards}
use Rattle.cards.specs.Press as press
use Rattle.records.specs.declared.Record.{Record}
use Rattle.records.specs.declared.Records.{Records}
use Rattle.record_moves.specs.Named.{Named}
use Rattle.record_moves.specs.Named.{has_luid, is_named}
use Rattle.record_moves.proofs.HasLaws.{has_paired, has_same}
use Rattle.server_reports.specs.Step1.{named_by, told}
use Rattle.server_each.proofs.EachRecord.{record_at}
use Rattle.pairs.proofs.Invariant.{card_at, report_in, tells_of, heard, IsOf, FromServer, Invariant}
use Rattle.pairs.proofs.Once.{report_luid, luid_apart}

-- ---- an entry claims a record: by LUID, or by a report with GUID
abbrev pub Claims : Card → Record → Type 0
Claims x y = (FromServer x × (y.guid.0 ≡ x.report.guid.0)) ⊎ (has_luid x.luid y ≡ true)

module _ (c : Cards) (f : press.WellFormed c) (i : ℕ) (x : Card) (e : card_at c i ≡ holds x) (y : Record) where
  -- a report that names y
  pub tells_claims : tells_of x y ≡ true → Claims x y
  unfolding tells_of
  tells_claims h =
      let on = and_first x.report.on (is_named (named_by (report_in x)) y) h in
      go (eqb x.report.guid.0 0) refl on (and_second x.report.on (is_named (named_by (report_in x)) y) h)
    where
      go : (b : Bool) → eqb x.report.guid.0 0 ≡ b → x.report.on ≡ true
          → is_named (cond b (Named.ByLuid x.report.luid) (Named.ByGuid x.report.guid)) y ≡ true → Claims x y
      go true g on n = inr (subst (λ (l : Luid). has_luid l y ≡ true) (report_luid c f i x e on) n)
      go false g on n = inl (record { on = on; given = eqb-false x.report.guid.0 0 g }, eqb-true y.guid.0 x.report.guid.0 n)

  pub is_claims : IsOf x y → Claims x y
  unfolding heard
  is_claims h = go (tells_of x y) refl h
    where
      go : (b : Bool) → tells_of x y ≡ b → has_luid x.luid (cond b (told (report_in x) y) y) ≡ true → Claims x y
      go true t w = tells_claims t
      go false t w = inr w

pub one_claims : (c : Cards) (s : Records) → Invariant c s → (i k : ℕ) (x z : Card) → card_at c i ≡ holds x → card_at c k ≡ holds z → (j : ℕ) (y : Record) → record_at s j ≡ holds y
    → Claims x y → Claims z y → i ≡ k
one_claims c s h i k x z e g j y r = go
  where
    by_luid_lem : has_luid x.luid y ≡ true → has_luid z.luid y ≡ true → i ≡ k
    by_luid_lem a b = luid_apart c h.formed i k x z e g (has_same x.luid z.luid y a b)

    go : Claims x y → Claims z y → i ≡ k
    go (inl a) (inl b) = h.guids i k x z e g a.0 b.0 (sym a.1 ∙ b.1)
    go (inl a) (inr b) = by_luid_lem ((h.pairs i x e j y r).own a.0 a.1 (has_paired z.luid y b)) b
    go (inr a) (inl b) = by_luid_lem a ((h.pairs k z g j y r).own b.0 b.1 (has_paired x.luid y a))
    go (inr a) (inr b) = by_luid_lem a b
