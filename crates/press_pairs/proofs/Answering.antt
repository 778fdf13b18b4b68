-- The server at Pkg 5, all answers: none is refused, the invariant stays, each offer's record becomes what its answer says, and what an answer says is no news in a report. Assumes nothing.
use Prim.Native.Nat.{ℕ, ◌≤◌}
use mathlib.Core.Path.{◌≡◌, refl, sym, ap, ap₂, ◌∙◌, subst}
use mathlib.Core.Bool.{Bool, true, false, cond, ◌&&◌}
use mathlib.Core.List.{List, [], ◌∷◌}
use native.Mathlib.Omega.{arith}
use lib.Dec.{eqb}
use borrow.Author.Tests.{eqb-true, eq-eqb, ne_eqb, le-leb}
use Rattle.places.proofs.Choice.{chosen, passed, and_second}
use Rattle.places.specs.Act.{Slot, free, holds, in_order, all_pass}
use Rattle.places.proofs.KeptLaws.{Holds}
use Rattle.places.proofs.Views.{on}
use Rattle.places.proofs.Every.{Every, every, every2, Pairs}
use Rattle.lists.specs.declared.Entry.{Entry}
use Rattle.cards.specs.declared.Card.{Card}
use Rattle.cards.specs.declared.Cards.{Cards}
use Rattle.records.specs.declared.Record.{Record}
use Rattle.records.specs.declared.Records.{Records}
use Rattle.statuses.specs.declared.Name.{Name}
use Rattle.statuses.specs.Status.{name_of}
use Rattle.record_moves.specs.Named.{Named}
use Rattle.record_moves.specs.Named.{is_paired, has_luid, is_named, Safe}
use Rattle.record_moves.proofs.HasLaws.{has_number_lem, has_too, luid_is}
use Rattle.server_reports.specs.Step1.{named_by, is_late, counted, told}
use Rattle.server_offers.specs.Offer.{offer, command}
use Rattle.server_answers.specs.Answer.{recorded, dirty_again, answered_by, offered_in, answer, answer_fits}
use Rattle.server_each.proofs.EachRecord.{record_at, named_each}
use Rattle.pairs.proofs.Invariant.{report_in, tells_of, heard, Invariant}
use Rattle.pairs.proofs.Heard.{heard_told, unheard}
use Rattle.pairs.proofs.Once.{guid_place, luid_place, same_record_lem}
use Rattle.server_pairs.proofs.Quiet.{QuietFor}
use Rattle.server_pairs.proofs.Answers.{Answers, own_answer_fits, own_answer_keeps}
use Rattle.press_pairs.proofs.AfterCommands.{AnsweredBy, Answered}

-- ---- an offer of the record y with its answer
pub record About (c : Cards) (p : Entry × Entry) (y : Record) : Type 0 where
  pub name : Name
  pub offer' : p.0 ≡ offer name y
  pub answers : Answers name c y p.1
  pub paired : name ≡ Name.Delete → is_paired y ≡ true
  pub given : 1 ≤ y.guid.0

-- its record stands in the table t; it has become what the answer says
pub record Waits (c : Cards) (t : Records) (p : Entry × Entry) : Type 0 where
  pub place : ℕ
  pub record' : Record
  pub here : record_at t place ≡ holds record'
  pub about : About c p record'

pub record Took (c : Cards) (t : Records) (p : Entry × Entry) : Type 0 where
  pub place : ℕ
  pub record' : Record
  pub about : About c p record'
  pub here : record_at t place ≡ answered_by about.name p.1 record'

-- two offers are of two records
abbrev pub OfTwo : Entry × Entry → Entry × Entry → Type 0
OfTwo p q = p.0.fields.guid.0 ≡ q.0.fields.guid.0 → ⊥

name_of_lem : (n : Name) (y : Record) → name_of (offer n y).fields.kind ≡ n
name_of_lem Name.Delete y = refl
name_of_lem Name.Replace y = refl
name_of_lem Name.Add y = refl

module _ (c : Cards) where
  pub named : (p : Entry × Entry) (y : Record) (b : About c p y) → name_of p.0.fields.kind ≡ b.name
  named p y b = ap (λ (o : Entry). name_of o.fields.kind) b.offer' ∙ name_of_lem b.name y

  pub offer_guid : (p : Entry × Entry) (y : Record) (b : About c p y) → y.guid.0 ≡ p.0.fields.guid.0
  offer_guid p y b = sym (ap (λ (o : Entry). o.fields.guid.0) b.offer')

  -- ---- one answer
  module _ (t : Records) (h : Invariant c t) (p : Entry × Entry) (k : Waits c t p) where
    abbrev y : Record
    y = k.record'

    pub after : (j : ℕ) → record_at (answer p t) j ≡ on (is_named (offered_in p.0)) (answered_by (name_of p.0.fields.kind) p.1) (record_at t j)
    unfolding answer
    after j = named_each t h.safe (offered_in p.0) (answered_by (name_of p.0.fields.kind) p.1) j

    fits : answer_fits p t ≡ true
    fits = own_answer_fits c t h k.place y k.here p.0 p.1 (offer_guid p y k.about) (subst (λ (n : Name). Answers n c y p.1) (sym (named p y k.about)) k.about.answers)

    pub keeps : Invariant c (answer p t)
    keeps =
        own_answer_keeps c t h k.place y k.here p.0 p.1 (offer_guid p y k.about) (subst (λ (n : Name). Answers n c y p.1) (sym (named p y k.about)) k.about.answers)
        (λ e. k.about.paired (sym (named p y k.about) ∙ e))

    took : Took c (answer p t) p
    took =
        record {
          place = k.place;
          record' = y;
          about = k.about;
          here = after k.place ∙ (ap (on (is_named (offered_in p.0)) (answered_by (name_of p.0.fields.kind) p.1)) k.here
              ∙ (chosen (eqb y.guid.0 p.0.fields.guid.0) (answered_by (name_of p.0.fields.kind) p.1 y) (holds y) (eq-eqb y.guid.0 p.0.fields.guid.0 (offer_guid p y k.about))
              ∙ ap (λ (n : Name). answered_by n p.1 y) (named p y k.about)));
        }

    -- another record stays
    beside : (j : ℕ) (z : Slot Record) → record_at t j ≡ z → Holds (λ u. u.guid.0 ≡ p.0.fields.guid.0 → ⊥) z → record_at (answer p t) j ≡ z
    beside j z e ne = after j ∙ (ap (on (is_named (offered_in p.0)) (answered_by (name_of p.0.fields.kind) p.1)) e ∙ go z ne)
      where
        go : (z : Slot Record) → Holds (λ u. u.guid.0 ≡ p.0.fields.guid.0 → ⊥) z → on (is_named (offered_in p.0)) (answered_by (name_of p.0.fields.kind) p.1) z ≡ z
        go free n = refl
        go (holds u) n = passed (eqb u.guid.0 p.0.fields.guid.0) (answered_by (name_of p.0.fields.kind) p.1 u) (holds u) (ne_eqb u.guid.0 p.0.fields.guid.0 n)

    pub waits_still : (q : Entry × Entry) → OfTwo p q → Waits c t q → Waits c (answer p t) q
    waits_still q ne w =
        record {
          place = w.place;
          record' = w.record';
          here = beside w.place (holds w.record') w.here (λ e. ne (sym e ∙ offer_guid q w.record' w.about));
          about = w.about;
        }

  -- ---- all answers
  pub all_fit : (ps : List (Entry × Entry)) → Pairs OfTwo ps → (t : Records) → Invariant c t → Every (Waits c t) ps → all_pass answer_fits answer ps t ≡ true
  unfolding all_pass
  all_fit [] a t h k = refl
  all_fit (p ∷ ps) a t h k =
      ap₂ ◌&&◌ (fits t h p k.0) (all_fit ps a.1 (answer p t) (keeps t h p k.0) (every2 (OfTwo p) (Waits c t) (Waits c (answer p t)) (λ r o v. waits_still t h p k.0 r o v) ps a.0 k.1))

  pub all_keep : (ps : List (Entry × Entry)) → Pairs OfTwo ps → (t : Records) → Invariant c t → Every (Waits c t) ps → Invariant c (in_order answer ps t)
  unfolding in_order
  all_keep [] a t h k = h
  all_keep (p ∷ ps) a t h k = all_keep ps a.1 (answer p t) (keeps t h p k.0) (every2 (OfTwo p) (Waits c t) (Waits c (answer p t)) (λ r o v. waits_still t h p k.0 r o v) ps a.0 k.1)

  -- a place that no answer is of
  pub untouched : (ps : List (Entry × Entry)) → Pairs OfTwo ps → (t : Records) → Invariant c t → Every (Waits c t) ps → (j : ℕ) (z : Slot Record) → Every (λ p. Holds (λ u. u.guid.0 ≡ p.0.fields.guid.0 → ⊥) z) ps → record_at t j ≡ z → record_at (in_order answer ps t) j ≡ z
  unfolding in_order
  untouched [] a t h k j z d q = q
  untouched (p ∷ ps) a t h k j z d q =
      untouched ps a.1 (answer p t) (keeps t h p k.0) (every2 (OfTwo p) (Waits c t) (Waits c (answer p t)) (λ r o v. waits_still t h p k.0 r o v) ps a.0 k.1) j z d.1 (beside t h p k.0 j z q d.0)

  -- the place that an answer is of
  answered_guid : (n : Name) (a : Entry) (y : Record) (g : ℕ) → (y.guid.0 ≡ g → ⊥) → Holds (λ u. u.guid.0 ≡ g → ⊥) (answered_by n a y)
  answered_guid Name.Delete a y g ne = tt
  answered_guid Name.Replace a y g ne = by (eqb a.fields.code 200)
    where
      by : (b : Bool) → (cond b (recorded a y) (dirty_again y)).guid.0 ≡ g → ⊥
      by true = ne
      by false = ne
  answered_guid Name.Add a y g ne = by (eqb a.fields.code 200)
    where
      by : (b : Bool) → (cond b (recorded a y) (dirty_again y)).guid.0 ≡ g → ⊥
      by true = ne
      by false = ne

  abbrev pub Placed : Records → Records → Entry × Entry → Type 0
  Placed t r q = (k : Waits c t q) → record_at r k.place ≡ answered_by k.about.name q.1 k.record'

  pub all_placed : (ps : List (Entry × Entry)) → Pairs OfTwo ps → (t : Records) → Invariant c t → Every (Waits c t) ps → Every (Placed t (in_order answer ps t)) ps
  unfolding in_order took waits_still
  all_placed [] a t h k = tt
  all_placed (p ∷ ps) a t h k =
      let h' = keeps t h p k.0 in
      let w = every2 (OfTwo p) (Waits c t) (Waits c (answer p t)) (λ r o v. waits_still t h p k.0 r o v) ps a.0 k.1 in (
        (λ v. untouched ps a.1 (answer p t) h' w v.place (answered_by v.about.name p.1 v.record')
            (every (OfTwo p) (λ q. Holds (λ u. u.guid.0 ≡ q.0.fields.guid.0 → ⊥) (answered_by v.about.name p.1 v.record')) (λ q ne. answered_guid v.about.name p.1 v.record' q.0.fields.guid.0 (λ e. ne (sym (offer_guid p v.record' v.about) ∙ e))) ps a.0)
            (took t h p v).here),
        every2 (OfTwo p) (Placed (answer p t) (in_order answer ps (answer p t))) (Placed t (in_order answer ps (answer p t))) (λ q ne f v. f (waits_still t h p k.0 q ne v)) ps a.0 (all_placed ps a.1 (answer p t) h' w),
      )

  pub all_took : (ps : List (Entry × Entry)) → Pairs OfTwo ps → (t : Records) → Invariant c t → Every (Waits c t) ps → Every (Took c (in_order answer ps t)) ps
  all_took ps a t h k = every2 (Waits c t) (Placed t (in_order answer ps t)) (Took c (in_order answer ps t)) (λ p w f. record { place = w.place; record' = w.record'; about = w.about; here = f w }) ps k (all_placed ps a t h k)

-- ---- a report x that says what the answer to the offer of y said
module _ (c : Cards) (t : Records) (h : Safe t) (p : Entry × Entry) (y : Record) (a : About c p y) (x : Card) (b : Answered x (command p.0, p.1)) where
  -- what the answer says, by the name of the offer
  pub said_of : (n : Name) → p.0 ≡ offer n y → AnsweredBy (name_of (command (offer n y)).fields.kind) (command (offer n y)) x
  said_of n e = subst (λ (o : Entry). AnsweredBy (name_of (command o).fields.kind) (command o) x) e b.by

  -- a record u that it names is the one with y's GUID and the LUID that was answered: z
  module _ (k : ℕ) (z : Record) (v : record_at t k ≡ holds z) (guid : z.guid.0 ≡ y.guid.0) (luid : p.0 ≡ offer Name.Replace y → z.pairing.luid.0 ≡ x.report.luid.0) where
    pub named_place : (j : ℕ) (u : Record) → record_at t j ≡ holds u → is_named (named_by (report_in x)) u ≡ true → j ≡ k
    named_place j u w n = go a.name a.offer'
      where
        by : (q : Bool) → eqb x.report.guid.0 0 ≡ q → is_named (cond q (Named.ByLuid x.report.luid) (Named.ByGuid x.report.guid)) u ≡ true
        by q e = subst (λ (q : Bool). is_named (cond q (Named.ByLuid x.report.luid) (Named.ByGuid x.report.guid)) u ≡ true) e n

        go : (m : Name) → p.0 ≡ offer m y → j ≡ k
        go Name.Delete e = absurd (said_of Name.Delete e)
        go Name.Replace e =
            let l = x.report.luid in
            let has : has_luid l u ≡ true = by true (eq-eqb x.report.guid.0 0 (said_of Name.Replace e).0) in
            luid_place t h j u w k z v l has (has_too l u z (luid_is z.pairing.luid u.pairing.luid (luid e ∙ sym (has_number_lem l u has))) has)
        go Name.Add e =
            let g : x.report.guid.0 ≡ y.guid.0 = said_of Name.Add e in
            let low = a.given in
            guid_place t h j u w k z v (eqb-true u.guid.0 x.report.guid.0 (by false (ne_eqb x.report.guid.0 0 (λ q. omega (arith, g, low, q)))) ∙ (g ∙ sym guid))

-- ---- such a report is late once the answer is taken
module _ (c : Cards) (t : Records) (h : Safe t) (p : Entry × Entry) (k : Took c t p) (x : Card) (a : Answered x (command p.0, p.1)) where
  abbrev z : Record
  z = recorded p.1 k.record'

  late : told (report_in x) z ≡ z
  unfolding told
  late = chosen (is_late (report_in x) z) z (counted (report_in x) z) (le-leb x.report.fp p.1.fields.fp (let e = a.fp in omega (arith, e)))

  -- the place of the answer's record holds the one that was recorded
  is_recorded : record_at t k.place ≡ holds z
  is_recorded = k.here ∙ go k.about.name k.about.offer'
    where
      yes200 : holds (cond (eqb p.1.fields.code 200) z (dirty_again k.record')) ≡ holds z
      yes200 = ap (λ (v : Bool). holds (cond v z (dirty_again k.record'))) (eq-eqb p.1.fields.code 200 a.code)

      go : (n : Name) → p.0 ≡ offer n k.record' → answered_by n p.1 k.record' ≡ holds z
      go Name.Delete e = absurd (said_of c t h p k.record' k.about x a Name.Delete e)
      go Name.Replace e = yes200
      go Name.Add e = yes200

  pub answered_quiet : QuietFor t x
  unfolding tells_of
  answered_quiet j u w = go (tells_of x u) refl
    where
      go : (b : Bool) → (x.report.on && is_named (named_by (report_in x)) u) ≡ b → heard x u ≡ u
      go false q = unheard x u q
      go true q =
          let e : j ≡ k.place = named_place c t h p k.record' k.about x a k.place z is_recorded refl (λ r. a.luid) j u w (and_second x.report.on (is_named (named_by (report_in x)) u) q) in
          heard_told x u q ∙ subst (λ (v : Record). told (report_in x) v ≡ v) (sym (same_record_lem t h j u w k.place z is_recorded e)) late
