-- A session without 420, in either mode, keeps what one side alone has: each stands as before, and what it is paired with is new. Assumes nothing.
use Prim.Native.Nat.{ℕ, ◌≤◌, ◌<◌}
use mathlib.Core.Path.{◌≡◌, refl, sym, ap, ◌∙◌, subst}
use mathlib.Core.Bool.{Bool, true, false, cond, not, ◌&&◌, and-false, false≢true}
use mathlib.Core.List.{List, [], ◌∷◌}
use mathlib.Core.Logic.{inl, inr}
use native.Mathlib.Omega.{arith}
use lib.Dec.{eqb}
use borrow.Author.Tests.{ne_eqb}
use Rattle.places.proofs.Choice.{passed, and_first, never}
use Rattle.places.specs.Act.{Slot, free, holds, in_order}
use Rattle.places.proofs.KeptLaws.{order_keeps}
use Rattle.places.proofs.Views.{on}
use Rattle.places.proofs.Every.{Every, every}
use Rattle.places.proofs.Held.{holds_one, not_free, not_held}
use Rattle.places.proofs.SameLaws.{order_same}
use Rattle.text.specs.Wording.{IsWording}
use Rattle.lists.specs.declared.Entry.{Entry}
use Rattle.terms.specs.declared.Guid.{Guid}
use Rattle.terms.specs.declared.Luid.{Luid}
use Rattle.terms.specs.declared.Mode.{Mode}
use Rattle.terms.specs.declared.Mode.TheVariants.{Normal, Recovery}
use Rattle.cards.specs.declared.Mark as card
use Rattle.cards.specs.declared.Card.{Card}
use Rattle.cards.specs.declared.Cards.{Cards}
use Rattle.cards.specs.Press as press
use Rattle.records.specs.declared.Mark as rec
use Rattle.records.specs.declared.Record.{Record}
use Rattle.records.specs.declared.Records.{Records}
use Rattle.records.specs.declared.Rule.{Rule}
use Rattle.records.specs.Server as server
use Rattle.statuses.specs.declared.Name.{Name}
use Rattle.statuses.specs.Status.{name_of}
use Rattle.record_moves.specs.Named.{is_paired, has_luid, is_named, Safe}
use Rattle.record_moves.proofs.HasLaws.{guid_is, has_as, has_own, has_too}
use Rattle.card_moves.specs.Moves.{any_entry, bare, with_bare}
use Rattle.server_reports.specs.Step1.{named_by, counted, report}
use Rattle.server_deletes.specs.Step2.{delete, deletes_of, step2}
use Rattle.server_deletes.proofs.SafeDeletes.{step2_safe}
use Rattle.server_forgets.specs.Step3.{is_forgotten, step3}
use Rattle.server_changes.specs.Step4.{changed}
use Rattle.server_changes.proofs.RuleLaws.{changed_all}
use Rattle.server_changes.proofs.SafeChanges.{changed_same}
use Rattle.server_merge.specs.Merge.{changes_of, up_to3, merged}
use Rattle.server_offers.specs.Offer.{is_dirty, dirty_here, offered_now}
use Rattle.server_each.proofs.EachRecord.{record_at, report_here, step1_each}
use Rattle.server_each.proofs.EditBeatsDelete.{unpaired_stays}
use Rattle.press_tells.specs.Tell as tell
use Rattle.press_ends.specs.End.{cleaned, marks_end}
use Rattle.own_packages.proofs.Own.{statuses4, commands4, press_at5, server6, press_at7, heard_all, merged_of, server4}
use Rattle.pairs.proofs.Invariant.{card_at, report_in, tells_of, heard, FromServer, Invariant}
use Rattle.pairs.proofs.Claims.{Claims, tells_claims}
use Rattle.pairs.proofs.Once.{luid_least, one_entry, report_luid}
use Rattle.server_pairs.proofs.Reports.{IsReport, by_late, one_keeps}
use Rattle.server_pairs.proofs.Quiet.{cases}
use Rattle.server_pairs.proofs.Step1.{own_reports, step1_passes}
use Rattle.server_pairs.proofs.Merge.{IsChange}
use Rattle.server_pairs.proofs.Pkg3.{own_changes, safe_merged}
use Rattle.server_pairs.proofs.AfterPkg3.{AllRecords, Without, step2_without, step3_view, offered_view, changes_all, on_records, safe1, safe3}
use Rattle.press_pairs.proofs.Bared.{bare_view}
use Rattle.press_pairs.proofs.Pkg4.{asked_own, unmarked_own, inv_5}
use Rattle.press_pairs.proofs.Commands.{AskedBy, Asked}
use Rattle.press_pairs.proofs.Says.{Leaves, all_leave}
use Rattle.press_pairs.proofs.AfterCommands.{added_above}
use Rattle.press_pairs.proofs.Pkg5 as five
use Rattle.whole_sessions.proofs.PackageLaws.{Roomy, CardKept, RecordKept, Kept}
use Rattle.broken_sessions.proofs.Near.{Ends, done, reported, gone, Near, is_counted}
use Rattle.broken_sessions.proofs.Cleaned.{Still, marks_stand, marks_luid}
use Rattle.broken_sessions.proofs.Nears.{nears_5}

-- ---- step 1 gives no record a LUID that no report has
module _ (c : Cards) (l : Luid) (none : (i : ℕ) (x : Card) → card_at c i ≡ holds x → x.report.on ≡ true → x.luid.0 ≡ l.0 → ⊥) where
  reports_without : (rs : List Entry) → Every (IsReport c) rs → (s : Records) → Invariant c s → AllRecords (Without l) s → AllRecords (Without l) (in_order report rs s)
  unfolding in_order
  reports_without [] f s h k = k
  reports_without (r ∷ rs) f s h k =
      let o = f.0 in
      reports_without rs f.1 (report r s) (one_keeps c s h r o)
      (subst (λ (u : Entry). AllRecords (Without l) (report u s)) (sym o.4)
      (cases c s h o.0 o.1 o.2 o.3 (λ j y. Without l y) (λ j y w t. k j y w)
      (λ j y w t. by_late c s h o.0 o.1 o.2 j y w t (Without l) (k j y w) (not_counted s h o.0 o.1 o.2 o.3 y))))
    where
      not_counted : (s : Records) → Invariant c s → (i : ℕ) (x : Card) → card_at c i ≡ holds x → x.report.on ≡ true → (y : Record) → Without l (counted (report_in x) y)
      not_counted s h i x e on y =
          let q : x.report.luid.0 ≡ x.luid.0 = ap (λ (n : Luid). n.0) (report_luid c h.formed i x e on) in
          ap (λ (b : Bool). not (eqb x.report.luid.0 0) && b) (ne_eqb x.report.luid.0 l.0 (λ z. none i x e on (sym q ∙ z))) ∙ and-false (not (eqb x.report.luid.0 0))

-- ---- no GUID is given before step 5
heard_guid : (c : Cards) (s : Records) → (heard_all c s).guid ≡ s.guid
unfolding report
heard_guid c s = order_keeps report (λ (t : Records). t.guid ≡ s.guid) (λ r t e. e) (tell.reports c) s refl

step2_guid : (m : Mode) (cs : List Entry) (s : Records) → (step2 m cs s).guid ≡ s.guid
unfolding step2 delete
step2_guid Normal cs s = order_keeps delete (λ (t : Records). t.guid ≡ s.guid) (λ d t e. e) (deletes_of cs) s refl
step2_guid Recovery cs s = refl

up_to3_guid : (m : Mode) (cs : List Entry) (s : Records) → (up_to3 m cs s).guid ≡ s.guid
unfolding step3
up_to3_guid m cs s = step2_guid m cs s

-- a clean record that is changed is clean
changed_clean : (rule : Rule) (d : Entry) (y : Record) → y.pairing.mark ≡ rec.Mark.Clean → (changed rule d y).pairing.mark ≡ rec.Mark.Clean
changed_clean rule d y e = changed_all rule d y (λ z. z.pairing.mark ≡ rec.Mark.Clean) (λ q. e) (λ q. refl) (λ q b. e)

module _ (rule : Rule) (m : Mode) (c : Cards) (s : Records) (h : Invariant c s) (r : Roomy rule m c s) where
  abbrev s1 : Records
  s1 = heard_all c s

  abbrev cs : List Entry
  cs = tell.commands m c

  abbrev t : Records
  t = server4 rule m c s

  abbrev c4 : Cards
  c4 = marks_end m cs (statuses4 rule m c s) c

  abbrev c5 : Cards
  c5 = press_at5 rule m c s

  abbrev s6 : Records
  s6 = server6 rule m c s

  i5 : Invariant c5 t
  i5 = inv_5 rule m c s h

  near : Near c5 t (press_at7 rule m c s) s6
  near = nears_5 rule m c s h r

  -- ---- a card that is added, and whose LUID no record has
  module _ (i : ℕ) (x : Card) (e : card_at c i ≡ holds x) (added : tell.is_added x.mark ≡ true) (none : AllRecords (Without x.luid) s) where
    live : press.is_live x.mark ≡ true
    live = go x.mark added
      where
        go : (k : card.Mark) → tell.is_added k ≡ true → press.is_live k ≡ true
        go card.Mark.Clean q = absurd (false≢true q)
        go card.Mark.Added q = refl
        go card.Mark.Changed q = absurd (false≢true q)
        go card.Mark.Deleted q = absurd (false≢true q)

    unreported : (k : ℕ) (z : Card) → card_at c k ≡ holds z → z.report.on ≡ true → z.luid.0 ≡ x.luid.0 → ⊥
    unreported k z g on q =
        false≢true (sym ((h.entries i x e).bare added) ∙ subst (λ (u : Card). u.report.on ≡ true) (one_entry c h.formed k i z x g e q) on)

    -- at the server: a record that has its LUID is new, and clean
    abbrev New : Record → Type 0
    New y = has_luid x.luid y ≡ true → (s.guid < y.guid.0) × (y.pairing.mark ≡ rec.Mark.Clean)

    new4 : AllRecords New t
    unfolding merged
    new4 =
        let l = x.luid in
        let s2 = step2 m cs s1 in
        let safe2 : Safe s2 = step2_safe m cs s1 (safe1 rule m c s h) in
        let without2 = step2_without m cs l s1 (safe1 rule m c s h) (reports_without c l unreported (tell.reports c) (own_reports c) s h none) in
        let without3 : AllRecords (Without l) (up_to3 m cs s1) = on_records (Without l) (Without l) is_forgotten (λ y. free) (λ y q p. tt) (λ y q p. p) s2 (step3 s2) (step3_view s2 safe2) without2 in
        let low : s.guid ≤ (up_to3 m cs s1).guid = let a = up_to3_guid m cs s1 in let b = heard_guid c s in omega (arith, a, b) in
        let merged' : AllRecords New (merged_of rule m c s) =
        changes_all rule c s.guid New (λ d k y p. renewed d y p) (λ d k u b q. (omega (arith, b), refl)) (changes_of cs) (own_changes c h.formed m) (up_to3 m cs s1) (safe3 rule m c s h) low
        (λ j y w q. absurd (false≢true (sym (without3 j y w) ∙ q))) in
        on_records New New dirty_here (λ y. holds (offered_now y)) (λ y q p has. absurd (false≢true (sym (ap is_dirty (p has).1) ∙ q))) (λ y q p. p) (merged_of rule m c s) t (offered_view (merged_of rule m c s) (safe_merged rule m c s h)) merged'
      where
        renewed : (d : Entry) (y : Record) → New y → New (changed rule d y)
        renewed d y p has =
            let same = changed_same rule d y in
            let n = p (has_too x.luid (changed rule d y) y (sym same.luid) has) in
            (subst (λ (g : Guid). s.guid < g.0) (sym same.guid) n.0, changed_clean rule d y n.1)

    -- no command of the server's names its LUID
    left : Every (Leaves x.luid.0) (commands4 rule m c s)
    left = every (Asked t) (Leaves x.luid.0) (λ o k. go o (name_of o.fields.kind) refl k.of) (commands4 rule m c s) (asked_own rule m c s h)
      where
        clean : (o : Entry) (j : ℕ) (y : Record) → record_at t j ≡ holds y → has_luid o.fields.luid y ≡ true → o.fields.luid.0 ≡ x.luid.0 → y.pairing.mark ≡ rec.Mark.Clean
        clean o j y w has q = (new4 j y w (has_as o.fields.luid y x.luid (sym q) has)).1

        go : (o : Entry) (n : Name) → name_of o.fields.kind ≡ n → AskedBy n t o → Leaves x.luid.0 o
        go o Name.Add q a = inl q
        go o Name.Delete q a = inr (λ u. let p = a.is.0 in let z = clean o a.place a.record' a.here a.is.1 u in never (cc))
        go o Name.Replace q a = inr (λ u. let p = a.is.0.offered' in let z = clean o a.place a.record' a.here a.is.1 u in never (cc))

    -- at the press: z is x without report, with its mark ended or not
    module _ (z : Card) (g : card_at c4 i ≡ holds z) (luid : z.luid ≡ x.luid) (wording : z.wording ≡ x.wording) (off : z.report.on ≡ false) where
      at5 : card_at c5 i ≡ holds z
      at5 = all_leave (commands4 rule m c s) (five.texts rule m c s h) c4 (unmarked_own rule m c s h).inv.formed i z g (subst (λ (l : Luid). Every (Leaves l.0) (commands4 rule m c s)) (sym luid) left)

      at7 : card_at (press_at7 rule m c s) i ≡ holds (bare z)
      at7 = bare_view c5 i5.formed.luids.long i ∙ ap (on any_entry with_bare) at5

      -- no report gives its LUID, and so each record with it was there at Pkg 4
      new6 : (j : ℕ) (y : Record) → record_at s6 j ≡ holds y → y.pairing.luid ≡ x.luid → s.guid < y.guid.0
      unfolding tells_of
      new6 j y w q = go (record_at t j) refl
        where
          has : has_luid x.luid y ≡ true
          has = subst (λ (l : Luid). (not (eqb l.0 0) && eqb l.0 x.luid.0) ≡ true) (sym q) (has_own x.luid (luid_least c h.formed i x e))

          go : (v : Slot Record) → record_at t j ≡ v → s.guid < y.guid.0
          go free u = not_free y (sym w ∙ near.empty j u)
          go (holds u) v = by (near.records j u v)
            where
              by : Ends c5 u (record_at s6 j) → s.guid < y.guid.0
              by (gone k p n f) = not_held y (sym f ∙ w)
              by (done k f g) =
                  let same : u ≡ y = holds_one u y (sym g ∙ w) in
                  subst (λ (a : Record). s.guid < a.guid.0) same (new4 j u v (subst (λ (a : Record). has_luid x.luid a ≡ true) (sym same) has)).0
              by (reported k n x' a tells new f) =
                  let is : counted (report_in x') u ≡ y = sym (is_counted c5 t i5 n x' a j u v tells new) ∙ holds_one (heard x' u) y (sym f ∙ w) in
                  let on' : x'.report.on ≡ true = and_first x'.report.on (is_named (named_by (report_in x')) u) tells in
                  let l : x'.luid.0 ≡ z.luid.0 = sym (ap (λ (b : Luid). b.0) (report_luid c5 i5.formed n x' a on')) ∙ (ap (λ (b : Record). b.pairing.luid.0) is ∙ ap (λ (b : Luid). b.0) (q ∙ sym luid)) in
                  absurd (false≢true (sym off ∙ subst (λ (b : Card). b.report.on ≡ true) (one_entry c5 i5.formed n i x' z a at5 l) on'))

      card_as : CardKept s (press_at7 rule m c s) s6 x
      card_as = record { place = i; card = bare z; here = at7; luid = luid; wording = wording; new = new6 }

    card_kept : CardKept s (press_at7 rule m c s) s6 x
    card_kept = go (marks_stand m cs (statuses4 rule m c s) r.at_server c h.formed i x e live)
      where
        go : Still (bare x) (card_at c4 i) → CardKept s (press_at7 rule m c s) s6 x
        go (inl g) = card_as (bare x) g refl refl refl
        go (inr g) = card_as (cleaned (bare x)) g refl refl refl

  -- ---- a live record without LUID, that no report names
  module _ (j : ℕ) (y : Record) (w : record_at s j ≡ holds y) (live : server.is_live y.pairing.mark ≡ true) (alone : is_paired y ≡ false)
      (untold : (i : ℕ) (x : Card) → card_at c i ≡ holds x → x.report.on ≡ true → x.report.guid ≡ y.guid → ⊥) where
    unnamed : (l : Luid) → has_luid l y ≡ false
    unnamed l = ap (λ (b : Bool). b && eqb y.pairing.luid.0 l.0) alone

    not_told : (i : ℕ) (x : Card) → card_at c i ≡ holds x → x.report.on ≡ true → is_named (named_by (report_in x)) y ≡ false
    unfolding tells_of
    not_told i x e on' = go (is_named (named_by (report_in x)) y) refl
      where
        by : Claims x y → ⊥
        by (inl a) = untold i x e a.0.on (guid_is x.report.guid y.guid (sym a.1))
        by (inr a) = false≢true (sym (unnamed x.luid) ∙ a)

        go : (b : Bool) → is_named (named_by (report_in x)) y ≡ b → is_named (named_by (report_in x)) y ≡ false
        go false q = q
        go true q = absurd (by (tells_claims c h.formed i x e y (ap (λ (b : Bool). b && is_named (named_by (report_in x)) y) on' ∙ q)))

    -- steps 1 to 5 leave it
    at1 : record_at s1 j ≡ holds y
    at1 =
        step1_each (tell.reports c) s h.safe (step1_passes c s h) j
        ∙ (ap (in_order report_here (tell.reports c)) w
        ∙ order_same report_here (tell.reports c) (holds y)
        (every (IsReport c) (λ a. report_here a (holds y) ≡ holds y)
        (λ a o. subst (λ (b : Entry). report_here b (holds y) ≡ holds y) (sym o.4) (passed (is_named (named_by (report_in o.1)) y) _ (holds y) (not_told o.0 o.1 o.2 o.3))) (tell.reports c) (own_reports c)))

    at4 : record_at (merged_of rule m c s) j ≡ holds y
    at4 = unpaired_stays y live alone rule m cs (every (IsChange c) (λ d. IsWording d.wording) (λ d k. k.fine) (changes_of cs) (own_changes c h.formed m)) s1 (safe1 rule m c s h) j at1

    -- it waits, and so it is offered
    offered4 : record_at t j ≡ holds (offered_now y)
    offered4 = offered_view (merged_of rule m c s) (safe_merged rule m c s h) j ∙ (ap (on dirty_here (λ u. holds (offered_now u))) at4 ∙ go y.pairing.mark refl live)
      where
        go : (k : rec.Mark) → y.pairing.mark ≡ k → server.is_live k ≡ true → cond (is_dirty y.pairing.mark) (holds (offered_now y)) (holds y) ≡ holds (offered_now y)
        go rec.Mark.Clean q l = absurd ((h.records j y w).unclean alone q)
        go rec.Mark.Dirty q l = ap (λ (k : rec.Mark). cond (is_dirty k) (holds (offered_now y)) (holds y)) q
        go rec.Mark.Offered q l =
            ap (λ (k : rec.Mark). cond (is_dirty k) (holds (offered_now y)) (holds y)) q
            ∙ ap (λ (k : rec.Mark). holds (record { guid = y.guid; wording = y.wording; pairing = record { luid = y.pairing.luid; known = y.pairing.known; mark = k } })) q
        go rec.Mark.Deleted q l = absurd (false≢true l)

    -- the card that is made for it has a new LUID
    above : (i : ℕ) (x : Card) → card_at c5 i ≡ holds x → FromServer x → c.luid < x.luid.0
    above =
        added_above c.luid (commands4 rule m c s) (five.texts rule m c s h) c4 (unmarked_own rule m c s h).inv.formed (let q = marks_luid m cs (statuses4 rule m c s) c in omega (arith, q))
        (λ i x e f. absurd (false≢true (sym ((unmarked_own rule m c s h).bare i x e) ∙ f.on)))

    record_kept : RecordKept c s6 y
    record_kept = go (near.records j (offered_now y) offered4)
      where
        go : Ends c5 (offered_now y) (record_at s6 j) → RecordKept c s6 y
        go (done k f e) = never (cc)
        go (gone k p n e) = never (cc)
        go (reported k i x a tells new e) = by (tells_claims c5 i5.formed i x a (offered_now y) tells)
          where
            by : Claims x (offered_now y) → RecordKept c s6 y
            by (inr b) = absurd (false≢true (sym (unnamed x.luid) ∙ b))
            by (inl b) =
                let f = b.0 in
                record {
                  place = j;
                  record' = counted (report_in x) (offered_now y);
                  here = e ∙ ap holds (is_counted c5 t i5 i x a j (offered_now y) offered4 tells new);
                  guid = refl;
                  wording = refl;
                  new = let l : x.report.luid.0 ≡ x.luid.0 = ap (λ (n : Luid). n.0) (report_luid c5 i5.formed i x a f.on) in let u = above i x a f in omega (arith, l, u);
                }

  pub kept : Kept c s (press_at7 rule m c s) s6
  kept = record { cards = card_kept; records = record_kept }
