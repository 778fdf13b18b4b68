-- After step 1 every report of the press is late; and what one place of the server may become then. Assumes nothing.
use Prim.Native.Nat.{ℕ}
use mathlib.Core.Path.{◌≡◌, refl, sym, ap, ◌∙◌, subst}
use mathlib.Core.Bool.{Bool, true, false, ◌&&◌}
use mathlib.Core.List.{List, [], ◌∷◌}
use Rattle.places.proofs.Choice.{chosen, and_both}
use Rattle.places.proofs.TableLaws.{by_place}
use Rattle.places.specs.Act.{holds, in_order}
use Rattle.places.proofs.Views.{on}
use Rattle.places.proofs.Every.{Every}
use Rattle.places.proofs.Held.{holds_one, on_each}
use Rattle.lists.specs.declared.Entry.{Entry}
use Rattle.cards.specs.declared.Card.{Card}
use Rattle.cards.specs.declared.Cards.{Cards}
use Rattle.records.specs.declared.Record.{Record}
use Rattle.records.specs.declared.Records.{Records}
use Rattle.records.specs.Server.{no_record}
use Rattle.record_moves.specs.Named.{is_named, table_of}
use Rattle.server_reports.specs.Step1.{named_by, told, report}
use Rattle.server_each.proofs.EachRecord.{record_at, named_each}
use Rattle.pairs.proofs.Invariant.{card_at, report_in, tells_of, heard, Invariant}
use Rattle.pairs.proofs.Claims.{tells_claims, one_claims}
use Rattle.pairs.proofs.Heard.{unheard, heard_again}
use Rattle.server_pairs.proofs.Reports.{heard_claims, IsReport, one_keeps}

-- ---- the server has nothing new to hear from x; from any entry
abbrev pub QuietFor : Records → Card → Type 0
QuietFor s x = (j : ℕ) (y : Record) → record_at s j ≡ holds y → heard x y ≡ y

abbrev pub Quiet : Cards → Records → Type 0
Quiet c s = (i : ℕ) (x : Card) → card_at c i ≡ holds x → QuietFor s x

-- ---- one report
module _ (c : Cards) (s : Records) (h : Invariant c s) (k : ℕ) (z : Card) (g : card_at c k ≡ holds z) (on' : z.report.on ≡ true) where
  abbrev r : Entry
  r = report_in z

  h' : Invariant c (report r s)
  h' = one_keeps c s h r (k, z, g, on', refl)

  -- what each place holds after it
  after : (j : ℕ) → record_at (report r s) j ≡ on (is_named (named_by r)) (λ y. holds (told r y)) (record_at s j)
  unfolding report
  after j = named_each s h.safe (named_by r) (λ y. holds (told r y)) j

  -- a record is then one that z does not name, as it was, or z's own, heard
  pub cases : (P : ℕ → Record → Type 0) → ((j : ℕ) (y : Record) → record_at s j ≡ holds y → tells_of z y ≡ false → P j y) → ((j : ℕ) (y : Record) → record_at s j ≡ holds y → tells_of z y ≡ true → P j (heard z y))
      → (j : ℕ) (y : Record) → record_at (report r s) j ≡ holds y → P j y
  unfolding tells_of heard
  cases P miss hit =
      on_each no_record (is_named (named_by r)) (λ y. holds (told r y)) (table_of s) (table_of (report r s)) after P
      (λ j y q n. let t : (z.report.on && is_named (named_by r) y) ≡ true = and_both z.report.on (is_named (named_by r) y) on' n in subst (P j) (chosen (z.report.on && is_named (named_by r) y) (told r y) y t) (hit j y q t))
      (λ j y q n. miss j y q (ap (λ (b : Bool). b && is_named (named_by r) y) on' ∙ n))

  pub own_quiet : QuietFor (report r s) z
  own_quiet = cases (λ j y. heard z y ≡ y) (λ j y e t. unheard z y t) (λ j y e t. heard_again z y)

  -- what was quiet stays so
  pub others_quiet : (i : ℕ) (x : Card) → card_at c i ≡ holds x → QuietFor s x → QuietFor (report r s) x
  others_quiet i x e q =
      by_place k (λ i. card_at c i ≡ holds x → QuietFor (report r s) x)
      (λ e. subst (QuietFor (report r s)) (holds_one z x (sym g ∙ e)) own_quiet)
      (λ i ne e j v a. cases (λ j v. record_at (report r s) j ≡ holds v → heard x v ≡ v) (λ j y w t b. q j y w) (λ j y w t b. silent i e ne j y w t b) j v a a)
      i e
    where
      silent : (i : ℕ) → card_at c i ≡ holds x → (i ≡ k → ⊥) → (j : ℕ) (y : Record) → record_at s j ≡ holds y → tells_of z y ≡ true → record_at (report r s) j ≡ holds (heard z y) → heard x (heard z y) ≡ heard z y
      silent i e ne j y w t b = go (tells_of x (heard z y)) refl
        where
          go : (b : Bool) → tells_of x (heard z y) ≡ b → heard x (heard z y) ≡ heard z y
          go false m = unheard x (heard z y) m
          go true m = absurd (ne (one_claims c (report r s) h' i k x z e g j (heard z y) b (tells_claims c h.formed i x e (heard z y) m) (heard_claims c s h k z g j y w t)))

-- ---- all reports
module _ (c : Cards) where
  -- what was quiet stays so, and each that is heard becomes so
  stay_quiet : (rs : List Entry) → Every (IsReport c) rs → (s : Records) → Invariant c s → (i : ℕ) (x : Card) → card_at c i ≡ holds x → QuietFor s x → QuietFor (in_order report rs s) x
  unfolding in_order
  stay_quiet [] f s h i x e q = q
  stay_quiet (r ∷ rs) f s h i x e q =
      let o = f.0 in
      stay_quiet rs f.1 (report r s) (one_keeps c s h r o) i x e
      (subst (λ (u : Entry). QuietFor (report u s) x) (sym o.4) (others_quiet c s h o.0 o.1 o.2 o.3 i x e q))

  abbrev QuietIn : Records → Entry → Type 0
  QuietIn s r = (i : ℕ) (x : Card) → card_at c i ≡ holds x → x.report.on ≡ true → r ≡ report_in x → QuietFor s x

  pub reports_quiet : (rs : List Entry) → Every (IsReport c) rs → (s : Records) → Invariant c s → Every (QuietIn (in_order report rs s)) rs
  unfolding in_order
  reports_quiet [] f s h = tt
  reports_quiet (r ∷ rs) f s h =
      let k = one_keeps c s h r f.0 in
      ((λ i x e on q. stay_quiet rs f.1 (report r s) k i x e (subst (λ (u : Entry). QuietFor (report u s) x) (sym q) (own_quiet c s h i x e on))), reports_quiet rs f.1 (report r s) k)
