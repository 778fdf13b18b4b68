-- The server takes the press's own Pkg 5, in either mode and whatever was answered: it is not refused, the invariant stays, and there is nothing new to hear. Assumes nothing.
use Prim.Native.Nat.{ℕ, ◌+◌, ◌≤◌, ◌<◌}
use mathlib.Core.Path.{◌≡◌, refl, sym, ap, ap₂, ◌∙◌, subst}
use mathlib.Core.Bool.{Bool, true, false, cond, not, ◌&&◌, false≢true}
use mathlib.Core.List.{List, ◌++◌}
use mathlib.Core.Logic.{inl, inr}
use native.Mathlib.Omega.{arith}
use lib.Dec.{eqb, ltb}
use lib.ListN.{get_or, length}
use borrow.Author.Tests.{eqb-true, eq-eqb, ne_eqb}
use Rattle.places.proofs.Choice.{and_first, and_second, never}
use Rattle.places.specs.Act.{holds, in_order, all_pass, with_answers}
use Rattle.places.proofs.Every.{Every, every, every2, every_append, every_map_back, Pairs}
use Rattle.places.proofs.WithAnswers.{with_first, with_map, with_map_back, with_pairs}
use Rattle.places.proofs.Held.{hit_holds}
use Rattle.text.specs.Wording.{IsWording}
use Rattle.lists.specs.declared.Entry.{Entry}
use Rattle.terms.specs.declared.Check.TheVariants.{Pass}
use Rattle.terms.specs.declared.Mode.{Mode}
use Rattle.terms.specs.Check.{checked}
use Rattle.cards.specs.declared.Card.{Card}
use Rattle.cards.specs.declared.Cards.{Cards}
use Rattle.cards.specs.Press as press
use Rattle.records.specs.declared.Mark.{Mark}
use Rattle.records.specs.declared.Record.{Record}
use Rattle.records.specs.declared.Records.{Records}
use Rattle.records.specs.declared.Rule.{Rule}
use Rattle.records.specs.Server.{no_record}
use Rattle.statuses.specs.declared.Name.{Name}
use Rattle.statuses.specs.Status.{name_of}
use Rattle.ranks.specs.declared.Row.TheVariants.{ServerCommands}
use Rattle.ranks.specs.Rank.{rank_of, same_name}
use Rattle.record_moves.specs.Named.{Named}
use Rattle.record_moves.specs.Named.{is_paired, has_luid, is_named, Safe, table_of}
use Rattle.record_moves.proofs.HasLaws.{has_as, has_number_lem, has_paired}
use Rattle.server_reports.specs.Step1.{all_or_none}
use Rattle.server_offers.specs.Offer.{is_waiting, is_offered_as, offer, offers_of, offers, command, commands, is_dirty}
use Rattle.server_offers.proofs.OfferLaws.{IsDue, offer_at, offered_only, offered_once}
use Rattle.server_answers.specs.Answer.{answer, answer_fits, answered}
use Rattle.server_each.proofs.EachRecord.{record_at}
use Rattle.own_packages.proofs.Rows.{Ordered, with_each, three_lists}
use Rattle.own_packages.proofs.Offers.{due_once, commands_ordered, commands_same}
use Rattle.own_packages.proofs.Own.{statuses4, commands4, press_at5, answers5, server6, merged_of, server4, unmarked}
use Rattle.pairs.proofs.Invariant.{card_at, tells_of, Invariant}
use Rattle.pairs.proofs.Heard.{no_report_lem}
use Rattle.server_pairs.proofs.Quiet.{QuietFor}
use Rattle.server_pairs.proofs.Later.{Told}
use Rattle.server_pairs.proofs.Pkg3.{safe_merged}
use Rattle.server_pairs.proofs.AfterPkg3.{server4_undirty}
use Rattle.server_pairs.proofs.Answers as own
use Rattle.press_pairs.proofs.AfterCommands.{Answered, Reporting, reports_from, Above, answers_above, Live, Absent, Deleting, deletes_absent}
use Rattle.press_pairs.proofs.Commands.{AskedBy, Asked}
use Rattle.press_pairs.proofs.Ends.{Bared}
use Rattle.press_pairs.proofs.Pkg4.{asked_own, unmarked_own, inv_5}
use Rattle.press_pairs.proofs.Says.{Says, Before, Said, all_said}
use Rattle.press_pairs.proofs.Answering.{About, Waits, Took, OfTwo, all_fit, all_keep, all_took, answered_quiet}

-- ---- a command of the server's that is no Add names a LUID; two stand in their order
named_luid : (s : Records) (o : Entry) → Asked s o → (name_of o.fields.kind ≡ Name.Add → ⊥) → o.fields.luid.0 ≡ 0 → ⊥
named_luid s o k no_add z = go (name_of o.fields.kind) no_add k.of
  where
    has : (y : Record) → has_luid o.fields.luid y ≡ true → ⊥
    has y e =
        let q : y.pairing.luid.0 ≡ o.fields.luid.0 = has_number_lem o.fields.luid y e in
        false≢true (ap not (sym (eq-eqb y.pairing.luid.0 0 (q ∙ z))) ∙ has_paired o.fields.luid y e)

    go : (n : Name) → (n ≡ Name.Add → ⊥) → AskedBy n s o → ⊥
    go Name.Delete w a = has a.record' a.is.1
    go Name.Replace w a = has a.record' a.is.1
    go Name.Add w a = w refl

before_of : (s : Records) (o q : Entry) → Asked s o → Asked s q → Ordered ServerCommands o q → Before o q
before_of s o q a b k = go (name_of o.fields.kind) (name_of q.fields.kind) refl refl
  where
    placed : (m n : Name) → name_of o.fields.kind ≡ m → name_of q.fields.kind ≡ n → (eqb (rank_of m) (rank_of n) ≡ false) → ltb (rank_of m) (rank_of n) ≡ true
    placed m n e f ne =
        sym (ap₂ (λ (u v : Name). cond (eqb (rank_of u) (rank_of v)) (same_name ServerCommands o q) (ltb (rank_of u) (rank_of v))) e f ∙ ap (λ (t : Bool). cond t (same_name ServerCommands o q) (ltb (rank_of m) (rank_of n))) ne) ∙ k.placed

    apart : (name_of o.fields.kind ≡ Name.Add → ⊥) → q.fields.luid.0 ≡ o.fields.luid.0 → ⊥
    apart no_add e =
        let z : eqb o.fields.luid.0 0 ≡ false = ne_eqb o.fields.luid.0 0 (named_luid s o a no_add) in
        false≢true (sym k.apart ∙ ap₂ ◌&&◌ (ap not z) (eq-eqb o.fields.luid.0 q.fields.luid.0 (sym e)))

    other : (m : Name) → name_of o.fields.kind ≡ m → (m ≡ Name.Add → ⊥) → Before o q
    other m e ne = inr ((λ f. ne (sym e ∙ f)), apart (λ f. ne (sym e ∙ f)))

    go : (m n : Name) → name_of o.fields.kind ≡ m → name_of q.fields.kind ≡ n → Before o q
    go m Name.Add e f = inl f
    go Name.Delete Name.Delete e f = other Name.Delete e (λ w. never (cc))
    go Name.Delete Name.Replace e f = other Name.Delete e (λ w. never (cc))
    go Name.Replace Name.Delete e f = other Name.Replace e (λ w. never (cc))
    go Name.Replace Name.Replace e f = other Name.Replace e (λ w. never (cc))
    go Name.Add Name.Delete e f = absurd (false≢true (placed Name.Add Name.Delete e f refl))
    go Name.Add Name.Replace e f = absurd (false≢true (placed Name.Add Name.Replace e f refl))

-- ---- the offers of a table are of different records
module _ (s : Records) (h : Safe s) where
  abbrev at : ℕ → Record
  at j = get_or s.places j no_record

  abbrev pub DueAs : Name → Entry → Type 0
  DueAs m o = (j : ℕ) × IsDue m s j × (o ≡ offer_at m s j)

  abbrev Apart : Entry → Entry → Type 0
  Apart d e = d.fields.guid.0 ≡ e.fields.guid.0 → ⊥

  two_names : (m n : Name) → rank_of m < rank_of n → (d e : Entry) → DueAs m d → DueAs n e → Apart d e
  two_names m n low d e t u q =
      let same : t.0 ≡ u.0 = h.formed.guids.apart t.0 u.0 t.1.used u.1.used (sym (ap (λ (o : Entry). o.fields.guid.0) t.2) ∙ (q ∙ ap (λ (o : Entry). o.fields.guid.0) u.2)) in
      let p : is_offered_as m (at u.0) ≡ true = subst (λ (j : ℕ). is_offered_as m (at j) ≡ true) same t.1.passes in
      false≢true (sym (due_once m n low (at u.0)) ∙ ap₂ ◌&&◌ p u.1.passes)

  one_name : (m : Name) → Pairs Apart (offers_of m s)
  one_name m = with_each (λ o. Unit {0}) (λ d e. d.fields.guid.0 < e.fields.guid.0) Apart (λ d e t u low q. omega (arith, low, q)) (offers_of m s) (every (DueAs m) (λ o. Unit {0}) (λ o t. tt) (offers_of m s) (offered_only m s)) (offered_once m s h.formed)

  offers_apart : Pairs Apart (offers s)
  unfolding offers
  offers_apart =
      three_lists Apart (DueAs Name.Delete) (DueAs Name.Replace) (DueAs Name.Add)
      (two_names Name.Delete Name.Replace (omega arith)) (two_names Name.Delete Name.Add (omega arith)) (two_names Name.Replace Name.Add (omega arith))
      (offers_of Name.Delete s) (offers_of Name.Replace s) (offers_of Name.Add s)
      (offered_only Name.Delete s) (offered_only Name.Replace s) (offered_only Name.Add s)
      (one_name Name.Delete) (one_name Name.Replace) (one_name Name.Add)

  abbrev pub Due : Entry → Type 0
  Due o = (m : Name) × DueAs m o

  pub offers_due : Every Due (offers s)
  unfolding offers
  offers_due = every_append Due (offers_of Name.Replace s ++ offers_of Name.Add s) (offers_of Name.Delete s) (of Name.Delete) (every_append Due (offers_of Name.Add s) (offers_of Name.Replace s) (of Name.Replace) (of Name.Add))
    where
      of : (m : Name) → Every Due (offers_of m s)
      of m = every (DueAs m) Due (λ o t. (m, t)) (offers_of m s) (offered_only m s)

-- ---- an entry that reports what an answer said names the record: by its LUID, by its GUID
tells_luid : (x : Card) (y : Record) → x.report.on ≡ true → x.report.guid.0 ≡ 0 → is_paired y ≡ true → y.pairing.luid.0 ≡ x.report.luid.0 → tells_of x y ≡ true
unfolding tells_of
tells_luid x y o g p l =
    ap₂ ◌&&◌ o (ap (λ (v : Bool). is_named (cond v (Named.ByLuid x.report.luid) (Named.ByGuid x.report.guid)) y) (eq-eqb x.report.guid.0 0 g)
    ∙ ap₂ ◌&&◌ p (eq-eqb y.pairing.luid.0 x.report.luid.0 l))

tells_guid : (x : Card) (y : Record) → x.report.on ≡ true → 1 ≤ y.guid.0 → x.report.guid.0 ≡ y.guid.0 → tells_of x y ≡ true
unfolding tells_of
tells_guid x y o low g =
    ap₂ ◌&&◌ o (ap (λ (v : Bool). is_named (cond v (Named.ByLuid x.report.luid) (Named.ByGuid x.report.guid)) y) (ne_eqb x.report.guid.0 0 (λ z. omega (arith, low, g, z)))
    ∙ eq-eqb y.guid.0 x.report.guid.0 (sym g))

-- ---- Pkg 5
module _ (rule : Rule) (m : Mode) (c : Cards) (s : Records) (h : Invariant c s) where
  abbrev t : Records
  t = server4 rule m c s

  abbrev c4 : Cards
  c4 = unmarked rule m c s

  abbrev c5 : Cards
  c5 = press_at5 rule m c s

  abbrev ref : ℕ
  ref = 4 + length (statuses4 rule m c s)

  abbrev cs : List Entry
  cs = commands4 rule m c s

  bare4 : Bared c4 t
  bare4 = unmarked_own rule m c s h

  asked : Every (Asked t) cs
  asked = asked_own rule m c s h

  pub texts : Every (λ o. IsWording o.wording) cs
  texts = every (Asked t) (λ o. IsWording o.wording) (λ o k. k.fine) cs asked

  pub befores : Pairs Before cs
  befores = with_each (Asked t) (Ordered ServerCommands) Before (before_of t) cs asked (commands_ordered (merged_of rule m c s) (safe_merged rule m c s h))

  said : Every (Said c5) (with_answers cs (answers5 rule m c s))
  said = all_said cs texts befores ref c4 bare4.inv.formed

  above : Every (Above c4.fp) (with_answers cs (answers5 rule m c s))
  above = answers_above c4.fp cs texts ref c4 bare4.inv.formed (omega arith)

  absent : Every (Deleting (Absent c5)) cs
  absent = deletes_absent cs texts c4 bare4.inv.formed (every (Asked t) (Deleting (Live c4)) (λ o k q. live o (subst (λ (n : Name). AskedBy n t o) q k.of)) cs asked)
    where
      live : (o : Entry) → AskedBy Name.Delete t o → Live c4 o.fields.luid.0
      live o k =
          let y = k.record' in
          let q : y.pairing.luid.0 ≡ o.fields.luid.0 = has_number_lem o.fields.luid y k.is.1 in
          record {
            live = λ i x e l. alive i x e l (press.is_live x.mark) refl;
            given = let low = (bare4.inv.records k.place y k.here).low in omega (arith, low, q);
          }
        where
          alive : (i : ℕ) (x : Card) → card_at c4 i ≡ holds x → x.luid.0 ≡ o.fields.luid.0 → (v : Bool) → press.is_live x.mark ≡ v → press.is_live x.mark ≡ true
          alive i x e l true u = u
          alive i x e l false u = absurd (bare4.lost i x e u k.place k.record' k.here (has_as o.fields.luid k.record' x.luid l k.is.1))

  -- ---- each offer with its answer
  safe : Safe t
  safe = bare4.inv.safe

  pub same_commands : commands t ≡ cs
  same_commands = commands_same (merged_of rule m c s) (safe_merged rule m c s h).formed.guids.long

  abbrev ps : List (Entry × Entry)
  ps = with_answers (offers t) (answers5 rule m c s)

  pub of_offers : (P : Entry × Entry → Type 0) → Every P (with_answers cs (answers5 rule m c s)) → Every (λ p. P (command p.0, p.1)) ps
  unfolding commands
  of_offers P k = with_map_back command P (offers t) (answers5 rule m c s) (subst (λ (l : List Entry). Every P (with_answers l (answers5 rule m c s))) (sym same_commands) k)

  pub to_commands : (P : Entry × Entry → Type 0) → Every (λ p. P (command p.0, p.1)) ps → Every P (with_answers cs (answers5 rule m c s))
  unfolding commands
  to_commands P k = subst (λ (l : List Entry). Every P (with_answers l (answers5 rule m c s))) same_commands (with_map command P (offers t) (answers5 rule m c s) k)

  -- a record that waits is offered
  waiting : (j : ℕ) (y : Record) → record_at t j ≡ holds y → is_waiting y.pairing.mark ≡ true → y.pairing.mark ≡ Mark.Offered
  waiting j y e q = go y.pairing.mark (server4_undirty rule m c s h j y e) q
    where
      go : (k : Mark) → is_dirty k ≡ false → is_waiting k ≡ true → k ≡ Mark.Offered
      go Mark.Clean u v = absurd (false≢true v)
      go Mark.Dirty u v = absurd (false≢true (sym u))
      go Mark.Offered u v = refl
      go Mark.Deleted u v = absurd (false≢true v)

  record Known (p : Entry × Entry) : Type 0 where
    due : Due t safe p.0
    asked' : Asked t (command p.0)
    absent' : Deleting (Absent c5) (command p.0)
    said' : Said c5 (command p.0, p.1)
    above' : Above c4.fp (command p.0, p.1)

  known : Every Known ps
  unfolding commands
  known =
      let commands_are : (P : Entry → Type 0) → Every P cs → Every (λ p. P (command p.0)) ps = λ P k. with_first (λ o. P (command o)) (offers t) (answers5 rule m c s) (every_map_back command P (offers t) (subst (Every P) (sym same_commands) k)) in
      every2 (λ p. Due t safe p.0 × Asked t (command p.0)) (λ p. Deleting (Absent c5) (command p.0) × Said c5 (command p.0, p.1) × Above c4.fp (command p.0, p.1)) Known
      (λ p u v. record { due = u.0; asked' = u.1; absent' = v.0; said' = v.1; above' = v.2 }) ps
      (every2 (λ p. Due t safe p.0) (λ p. Asked t (command p.0)) (λ p. Due t safe p.0 × Asked t (command p.0)) (λ p u v. (u, v)) ps (with_first (Due t safe) (offers t) (answers5 rule m c s) (offers_due t safe)) (commands_are (Asked t) asked))
      (every2 (λ p. Deleting (Absent c5) (command p.0)) (λ p. Said c5 (command p.0, p.1) × Above c4.fp (command p.0, p.1)) (λ p. Deleting (Absent c5) (command p.0) × Said c5 (command p.0, p.1) × Above c4.fp (command p.0, p.1))
      (λ p u v. (u, v.0, v.1)) ps (commands_are (Deleting (Absent c5)) absent)
      (every2 (λ p. Said c5 (command p.0, p.1)) (λ p. Above c4.fp (command p.0, p.1)) (λ p. Said c5 (command p.0, p.1) × Above c4.fp (command p.0, p.1)) (λ p u v. (u, v)) ps (of_offers (Said c5) said) (of_offers (Above c4.fp) above)))

  -- its record stands there, and the answer is what an entry reports of it
  waits : (p : Entry × Entry) → Known p → Waits c5 t p
  waits p k =
      let n = k.due.0 in
      let j = k.due.1.0 in
      let d : IsDue n t j = k.due.1.1 in
      let e : p.0 ≡ offer_at n t j = k.due.1.2 in
      record { place = j; record' = get_or t.places j no_record; here = hit_holds no_record (is_offered_as n) (table_of t) j d; about = about n j d e }
    where
      about : (n : Name) (j : ℕ) → IsDue n t j → p.0 ≡ offer_at n t j → About c5 p (get_or t.places j no_record)
      about n j d e = record { name = n; offer' = e; answers = answers n d e; paired = paired n e; given = safe.formed.guids.least j d.used }
        where
          y : Record
          y = get_or t.places j no_record

          here : (n : Name) → IsDue n t j → record_at t j ≡ holds y
          here n d = hit_holds no_record (is_offered_as n) (table_of t) j d

          paired : (n : Name) → p.0 ≡ offer n y → n ≡ Name.Delete → is_paired y ≡ true
          paired Name.Delete e q =
              let a : AskedBy Name.Delete t (command (offer Name.Delete y)) = (subst (λ (o : Entry). Asked t (command o)) e k.asked').of in
              let z = a.record' in
              let l : z.pairing.luid.0 ≡ y.pairing.luid.0 = has_number_lem y.pairing.luid z a.is.1 in
              subst (λ (n : ℕ). not (eqb n 0) ≡ true) l (has_paired y.pairing.luid z a.is.1)
          paired Name.Replace e q = never (cc)
          paired Name.Add e q = never (cc)

          low : (n : Name) → IsDue n t j → y.pairing.known ≤ c4.fp
          low n d = (bare4.inv.records j y (here n d)).known

          -- 200: what an entry says after it, with a fingerprint above those that were given before
          reported : (g : ℕ) (x : Says c5 g p.1.fields.luid.0 p.1.fields.fp) → tells_of x.card y ≡ true → y.pairing.known ≤ c4.fp → c4.fp < p.1.fields.fp → own.Reported c5 y p.1
          reported g x tells low high =
              let n = x.fp in
              record { place = x.place; card = x.card; here = x.here; tells = tells; luid = sym x.told; fp = sym x.fp; new = omega (arith, low, high, n) }

          replaced_report : IsDue Name.Replace t j → p.0 ≡ offer Name.Replace y → p.1.fields.code ≡ 200 → own.Reported c5 y p.1
          replaced_report d e q =
              let r = subst (λ (o : Entry). Said c5 (command o, p.1)) e k.said' q in
              let x = r.0 in
              reported 0 x (tells_luid x.card y x.on x.guid (and_second (is_waiting y.pairing.mark) (is_paired y) d.passes) (sym r.1 ∙ sym x.told)) (low Name.Replace d)
              (subst (λ (o : Entry). Above c4.fp (command o, p.1)) e k.above' q)

          added_report : IsDue Name.Add t j → p.0 ≡ offer Name.Add y → p.1.fields.code ≡ 200 → own.Reported c5 y p.1
          added_report d e q =
              let x : Says c5 y.guid.0 p.1.fields.luid.0 p.1.fields.fp = subst (λ (o : Entry). Said c5 (command o, p.1)) e k.said' q in
              reported y.guid.0 x (tells_guid x.card y x.on (safe.formed.guids.least j d.used) x.guid) (low Name.Add d)
              (subst (λ (o : Entry). Above c4.fp (command o, p.1)) e k.above' q)

          given : (v : Bool) → eqb p.1.fields.code 200 ≡ v → (p.1.fields.code ≡ 200 → own.Reported c5 y p.1) → own.Given v c5 y p.1
          given true q f = f (eqb-true p.1.fields.code 200 q)
          given false q f = tt

          answers : (n : Name) → IsDue n t j → p.0 ≡ offer n y → own.Answers n c5 y p.1
          answers Name.Delete d e = λ i x w l.
              let a : Absent c5 y.pairing.luid.0 = subst (λ (o : Entry). Deleting (Absent c5) (command o)) e k.absent' refl in
              a.absent i x w (sym (has_number_lem x.luid y l))
          answers Name.Replace d e = (waiting j y (here Name.Replace d) (and_first (is_waiting y.pairing.mark) (is_paired y) d.passes), given (eqb p.1.fields.code 200) refl (replaced_report d e))
          answers Name.Add d e = (waiting j y (here Name.Add d) (and_first (is_waiting y.pairing.mark) (not (is_paired y)) d.passes), given (eqb p.1.fields.code 200) refl (added_report d e))

  pub all_wait : Every (Waits c5 t) ps
  all_wait = every Known (Waits c5 t) waits ps known

  pub apart : Pairs OfTwo ps
  apart = with_pairs (λ d e. d.fields.guid.0 ≡ e.fields.guid.0 → ⊥) (offers t) (answers5 rule m c s) (offers_apart t safe)

  pass : all_pass answer_fits answer ps t ≡ true
  pass = all_fit c5 ps apart t (inv_5 rule m c s h) all_wait

  -- ---- it is not refused 8
  pub answers_fit : (answered (offers t) (answers5 rule m c s) t).check ≡ Pass
  unfolding all_or_none
  answers_fit = ap checked pass

  pub server6_is : server6 rule m c s ≡ in_order answer ps t
  unfolding all_or_none
  server6_is = ap (λ (v : Bool). cond v (in_order answer ps t) t) pass

  -- ---- the invariant, and nothing new to hear
  pub told_6 : Told c5 (server6 rule m c s)
  told_6 = subst (Told c5) (sym server6_is) (record { inv = i6; quiet = λ i x e. quiet i x e x.report.on refl })
    where
      i6 : Invariant c5 (in_order answer ps t)
      i6 = all_keep c5 ps apart t (inv_5 rule m c s h) all_wait

      reporting : Reporting (QuietFor (in_order answer ps t)) c5
      reporting =
          reports_from (QuietFor (in_order answer ps t)) cs texts ref c4 bare4.inv.formed (λ i x e o. absurd (false≢true (sym (bare4.bare i x e) ∙ o)))
          (to_commands (λ p. (x : Card) → Answered x p → QuietFor (in_order answer ps t) x)
          (every (Took c5 (in_order answer ps t)) (λ p. (x : Card) → Answered x (command p.0, p.1) → QuietFor (in_order answer ps t) x)
          (λ p k x a. answered_quiet c5 (in_order answer ps t) i6.safe p k x a) ps (all_took c5 ps apart t (inv_5 rule m c s h) all_wait)))

      quiet : (i : ℕ) (x : Card) → card_at c5 i ≡ holds x → (v : Bool) → x.report.on ≡ v → QuietFor (in_order answer ps t) x
      quiet i x e true o = reporting i x e o
      quiet i x e false o = λ j y w. no_report_lem x o y
