-- The server at Pkg 5, one answer: it fits (it is not refused 8), and leaves the invariant. An answer 200 to Replace or Add does what the card's report would. Assumes nothing.
use Rattle.std.proofs.Common.{Some}
use Prim.Native.Nat.{ℕ, ◌<◌}
use mathlib.Core.Path.{◌≡◌, refl, sym, ap, ap₂, ◌∙◌, subst}
use mathlib.Core.Bool.{Bool, true, false, cond, ◌&&◌}
use mathlib.Core.Logic.{inl, inr}
use native.Mathlib.Omega.{arith}
use lib.Dec.{eqb, ltb}
use lib.ListN.{get_or, length}
use borrow.Author.Tests.{eq-eqb, lt-ltb}
use Rattle.places.proofs.Choice.{never}
use Rattle.places.specs.Act.{Slot, free, holds, put_at}
use Rattle.places.proofs.Views.{view_here, view_other, found}
use Rattle.places.proofs.Held.{holds_hit, holds_is, holds_one}
use Rattle.lists.specs.declared.Entry.{Entry}
use Rattle.terms.specs.declared.Guid.{Guid}
use Rattle.terms.specs.Number.{luid}
use Rattle.cards.specs.declared.Card.{Card}
use Rattle.cards.specs.declared.Cards.{Cards}
use Rattle.records.specs.declared.Mark.{Mark}
use Rattle.records.specs.declared.Record.{Record}
use Rattle.records.specs.declared.Records.{Records}
use Rattle.records.specs.Server.{no_record}
use Rattle.statuses.specs.declared.Name.{Name}
use Rattle.statuses.specs.Status.{name_of}
use Rattle.record_moves.specs.Named.{Named}
use Rattle.record_moves.specs.Named.{table_of, with_table, is_paired, has_luid, is_named, place_of, may_have, Safe}
use Rattle.record_moves.proofs.NamedLaws.{acted}
use Rattle.server_reports.specs.Step1.{settled, counted}
use Rattle.server_answers.specs.Answer.{recorded, dirty_again, answered_by, offered_in, answer, gives, given_at, answer_fits}
use Rattle.server_answers.proofs.SafeAnswers.{answer_safe}
use Rattle.server_each.proofs.EachRecord.{record_at, named_once}
use Rattle.pairs.proofs.Invariant.{card_at, report_in, tells_of, heard, IsOf, Invariant}
use Rattle.pairs.proofs.Claims.{Claims, is_claims}
use Rattle.pairs.proofs.RecordPut.{Fits, record_put}
use Rattle.pairs.proofs.ServerEdits.{dirty, remark_fits}
use Rattle.pairs.proofs.Heard.{heard_counted}
use Rattle.server_pairs.proofs.Reports.{report_fits_lem, may}

-- ---- what an answer is, by the command's name and code
-- 200 to Replace or Add: what an entry reports of the record
pub record Reported (c : Cards) (y : Record) (a : Entry) : Type 0 where
  pub place : ℕ
  pub card : Card
  pub here : card_at c place ≡ holds card
  pub tells : tells_of card y ≡ true
  pub luid : a.fields.luid.0 ≡ card.report.luid.0
  pub fp : a.fields.fp ≡ card.report.fp
  pub new : y.pairing.known < card.report.fp

abbrev pub Given : Bool → Cards → Record → Entry → Type 0
Given true c y a = Reported c y a
Given false c y a = Unit {0}

-- to Delete: no entry has the record's LUID any more
abbrev pub Answers : Name → Cards → Record → Entry → Type 0
Answers Name.Delete c y a = (i : ℕ) (x : Card) → card_at c i ≡ holds x → has_luid x.luid y ≡ true → ⊥
Answers Name.Replace c y a = (y.pairing.mark ≡ Mark.Offered) × Given (eqb a.fields.code 200) c y a
Answers Name.Add c y a = (y.pairing.mark ≡ Mark.Offered) × Given (eqb a.fields.code 200) c y a

module _ (c : Cards) (s : Records) (h : Invariant c s) (j : ℕ) (y : Record) (w : record_at s j ≡ holds y) where
  at : get_or s.places j no_record ≡ y
  at = holds_is no_record (table_of s) j y w

  -- the record that is offered stands there
  place_guid : (g : Guid) → y.guid.0 ≡ g.0 → place_of s (Named.ByGuid g) ≡ Some j
  place_guid g q =
      found no_record (is_named (Named.ByGuid g)) (table_of s) (named_once s h.safe (Named.ByGuid g)) j (holds_hit no_record (is_named (Named.ByGuid g)) (table_of s) j y w (eq-eqb y.guid.0 g.0 q))

  inside : j < length s.places
  inside = (holds_hit no_record (λ z. true) (table_of s) j y w refl).inside

  -- ---- a record that no entry has may go
  gone_fits : ((i : ℕ) (x : Card) → card_at c i ≡ holds x → has_luid x.luid y ≡ true → ⊥) → is_paired y ≡ true → Fits c s j free
  gone_fits none p =
      record {
        ok = tt;
        pairs = λ i x e. tt;
        owned = tt;
        still = λ i x e one v u k. none i x e (has i x e (is_claims c h.formed i x e y (subst (IsOf x) (holds_one v y (sym u ∙ w)) k)));
      }
    where
      has : (i : ℕ) (x : Card) → card_at c i ≡ holds x → Claims x y → has_luid x.luid y ≡ true
      has i x e (inl a) = (h.pairs i x e j y w).own a.0 a.1 p
      has i x e (inr a) = a

  -- ---- an answer 200 is the report of the entry
  pub recorded_heard : (a : Entry) (r : Reported c y a) → y.pairing.mark ≡ Mark.Offered → recorded a y ≡ heard r.card y
  recorded_heard a r o = same ∙ sym (heard_counted r.card y r.tells r.new)
    where
      same : recorded a y ≡ counted (report_in r.card) y
      same =
          ap (λ (l : ℕ). record { guid = y.guid; wording = y.wording; pairing = record { luid = luid l; known = a.fields.fp; mark = Mark.Clean } }) r.luid
          ∙ (ap (λ (n : ℕ). record { guid = y.guid; wording = y.wording; pairing = record { luid = r.card.report.luid; known = n; mark = Mark.Clean } }) r.fp
          ∙ ap (λ (m : Mark). record { guid = y.guid; wording = y.wording; pairing = record { luid = r.card.report.luid; known = r.card.report.fp; mark = settled m } }) (sym o))

  -- ---- what the place becomes
  given_take : (a : Entry) (b : Bool) → y.pairing.mark ≡ Mark.Offered → Given b c y a → Fits c s j (holds (cond b (recorded a y) (dirty_again y)))
  given_take a true o r = subst (λ (z : Record). Fits c s j (holds z)) (sym (recorded_heard a r o)) (report_fits_lem c s h r.place r.card r.here j y w r.tells)
  given_take a false o u = remark_fits y y.wording Mark.Dirty dirty c s h j w (λ d q. never (cc))

  taken_fits : (n : Name) (a : Entry) → Answers n c y a → (n ≡ Name.Delete → is_paired y ≡ true) → Fits c s j (answered_by n a y)
  taken_fits Name.Delete a k p = gone_fits k (p refl)
  taken_fits Name.Replace a k p = given_take a (eqb a.fields.code 200) k.0 k.1
  taken_fits Name.Add a k p = given_take a (eqb a.fields.code 200) k.0 k.1

  -- ---- 8 has nothing against it
  given_fits : (a : Entry) → Reported c y a → given_at a s (Some j) ≡ true
  given_fits a r =
      subst (λ (z : Record). (ltb z.pairing.known a.fields.fp && may_have a.fields.luid z s) ≡ true) (sym at)
      (ap₂ ◌&&◌ (lt-ltb y.pairing.known a.fields.fp (let n = r.new in let f = r.fp in omega (arith, n, f)))
      (subst (λ (l : ℕ). may_have (luid l) y s ≡ true) (sym r.luid) (may c s h r.place r.card r.here j y w r.tells)))

  module _ (o a : Entry) (q : y.guid.0 ≡ o.fields.guid.0) (k : Answers (name_of o.fields.kind) c y a) where
    offered_at : place_of s (offered_in o) ≡ Some j
    offered_at = place_guid o.fields.guid q

    pub own_answer_fits : answer_fits (o, a) s ≡ true
    unfolding answer_fits
    own_answer_fits = go (name_of o.fields.kind) k
      where
        by : (b : Bool) → Given b c y a → cond b (given_at a s (place_of s (offered_in o))) true ≡ true
        by true r = ap (given_at a s) offered_at ∙ given_fits a r
        by false u = refl

        go : (n : Name) → Answers n c y a → cond (gives n a) (given_at a s (place_of s (offered_in o))) true ≡ true
        go Name.Delete r = refl
        go Name.Replace r = by (eqb a.fields.code 200) r.1
        go Name.Add r = by (eqb a.fields.code 200) r.1

    pub own_answer_keeps : (name_of o.fields.kind ≡ Name.Delete → is_paired y ≡ true) → Invariant c (answer (o, a) s)
    unfolding answer
    own_answer_keeps p =
        let n = name_of o.fields.kind in
        let f : Record → Slot Record = answered_by n a in
        let z = f y in
        let is : answer (o, a) s ≡ with_table s (put_at (table_of s) j (f (get_or s.places j no_record))) = acted s (offered_in o) f (Some j) offered_at in
        let is' : answer (o, a) s ≡ with_table s (put_at (table_of s) j z) = is ∙ ap (λ (r : Record). with_table s (put_at (table_of s) j (f r))) at in
        subst (Invariant c) (sym is')
        (record_put c s (with_table s (put_at (table_of s) j z)) j z (view_here no_record (table_of s) j z inside) (λ i ne. view_other no_record (table_of s) j z i ne)
        (subst Safe is' (answer_safe (o, a) s own_answer_fits h.safe)) (omega arith) (taken_fits n a k p) h)
