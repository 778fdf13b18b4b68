-- After a session without 420: the tables are near from Pkg 4 on, and at the end both sides are in step. Assumes nothing.
use Prim.Native.Nat.{ℕ, ◌+◌}
use mathlib.Core.Path.{◌≡◌, refl, sym, ap, ap₂, ◌∙◌, subst}
use mathlib.Core.Bool.{Bool, true, false, cond, not, ◌&&◌, false≢true}
use mathlib.Core.List.{List, [], ◌∷◌, ◌++◌}
use lib.Dec.{eqb}
use lib.ListN.{get_or, length, length-map}
use borrow.Author.Tests.{eq-eqb}
use Rattle.places.proofs.Choice.{never}
use Rattle.places.specs.Act.{Slot, free, holds, in_order, with_answers}
use Rattle.places.proofs.Turns.{replies_length}
use Rattle.places.proofs.Every.{Every, every, every2, every_left, every_right, Pairs, every_in}
use Rattle.places.proofs.Held.{hit_holds, holds_hit, holds_is, holds_one, not_free, not_held}
use Rattle.places.proofs.OrderLaws.{answers_known}
use Rattle.places.proofs.WithAnswers.{with_back, with_first}
use Rattle.text.specs.Wording.{IsWording}
use Rattle.lists.specs.declared.Entry.{Entry}
use Rattle.terms.specs.declared.Mode.{Mode}
use Rattle.cards.specs.declared.Mark as card
use Rattle.cards.specs.declared.Card.{Card}
use Rattle.cards.specs.declared.Cards.{Cards}
use Rattle.cards.specs.Press as press
use Rattle.records.specs.declared.Mark as rec
use Rattle.records.specs.declared.Record.{Record}
use Rattle.records.specs.declared.Records.{Records}
use Rattle.records.specs.declared.Rule.{Rule}
use Rattle.records.specs.Server as server
use Rattle.records.specs.Server.{no_record}
use Rattle.statuses.specs.declared.Name.{Name}
use Rattle.record_moves.specs.Named.{is_paired, has_luid, is_named, table_of}
use Rattle.record_moves.proofs.HasLaws.{has_number_lem, luid_is}
use Rattle.server_reports.specs.Step1.{named_by}
use Rattle.server_offers.specs.Offer.{is_waiting, is_offered_as, offer, offers_of, offers, command, commands, is_dirty}
use Rattle.server_offers.proofs.OfferLaws.{IsDue, offer_at, offered_each}
use Rattle.server_answers.specs.Answer.{recorded, dirty_again, answered_by, answer}
use Rattle.server_each.proofs.EachRecord.{record_at}
use Rattle.press_tells.specs.Tell as tell
use Rattle.press_replies.specs.Reply.{answering}
use Rattle.press_takes.specs.Take.{after_command}
use Rattle.press_takes.proofs.FormedTakes.{taking_formed}
use Rattle.server_sends.proofs.StatusLaws.{statuses_length}
use Rattle.own_packages.proofs.Own.{statuses4, commands4, press_at5, answers5, server6, press_at7, heard_all, server4, unmarked}
use Rattle.pairs.proofs.Invariant.{card_at, report_in, tells_of, heard, Agrees, Invariant}
use Rattle.pairs.proofs.Heard.{unheard, no_report_lem}
use Rattle.pairs.proofs.Once.{guid_place, same_record_lem}
use Rattle.server_pairs.proofs.Later.{Told}
use Rattle.server_pairs.proofs.Answers as own
use Rattle.server_pairs.proofs.AfterPkg3.{server4_undirty}
use Rattle.press_pairs.proofs.Bare.{bare_told}
use Rattle.press_pairs.proofs.Pkg4.{inv_5, unmarked_own}
use Rattle.press_pairs.proofs.AfterCommands.{Answered, Reporting, reports_from, taking_all}
use Rattle.press_pairs.proofs.Answering.{Waits, Placed, OfTwo, untouched, all_placed, named_place, offer_guid, said_of}
use Rattle.press_pairs.proofs.Pkg5 as five
use Rattle.press_pairs.proofs.Granted.{Granted, then_200}
use Rattle.press_pairs.proofs.NoneMissing.{all_answered}
use Rattle.whole_sessions.proofs.PackageLaws.{Roomy, Even}
use Rattle.broken_sessions.proofs.Near.{Ends, done, reported, gone, Near, then_clean}
use Rattle.broken_sessions.proofs.NearEnd.{bare_near}
use Rattle.broken_sessions.proofs.Cleaned.{codes_roomy, marks_clean}

abbrev AllClean : Cards → Type 0
AllClean c = (i : ℕ) (x : Card) → card_at c i ≡ holds x → x.mark ≡ card.Mark.Clean

-- what is taken from the server is clean
takings_clean : (os : List Entry) → Every (λ o. IsWording o.wording) os → (c : Cards) → press.WellFormed c → AllClean c → AllClean (in_order after_command os c)
unfolding in_order
takings_clean [] t c w k = k
takings_clean (o ∷ os) t c w k = takings_clean os t.1 (after_command o c) (taking_formed o t.0 c w) (taking_all o c w (λ x. x.mark ≡ card.Mark.Clean) k (λ m i e q. refl) (λ m i e. refl))

module _ (rule : Rule) (m : Mode) (c : Cards) (s : Records) (h : Invariant c s) (r : Roomy rule m c s) where
  abbrev t : Records
  t = server4 rule m c s

  abbrev c4 : Cards
  c4 = unmarked rule m c s

  abbrev c5 : Cards
  c5 = press_at5 rule m c s

  abbrev cs : List Entry
  cs = commands4 rule m c s

  abbrev ps : List (Entry × Entry)
  ps = with_answers (offers t) (answers5 rule m c s)

  abbrev s6 : Records
  s6 = in_order answer ps t

  inv4 : Invariant c4 t
  inv4 = (unmarked_own rule m c s h).inv

  clean4 : AllClean c4
  clean4 = marks_clean m c h.formed (statuses4 rule m c s) (statuses_length rule m (4 + length (tell.reports c)) (tell.commands m c) (heard_all c s)) r.at_server

  clean5 : AllClean c5
  clean5 = takings_clean cs (five.texts rule m c s h) c4 inv4.formed clean4

  -- ---- each Replace and Add is answered 200
  granted : Every (λ p. Granted (command p.0, p.1)) ps
  granted = five.of_offers rule m c s h Granted (all_answered rule m c s h)

  codes : Every (λ p. eqb p.1.fields.code 420 ≡ false) ps
  codes = answers_known (λ a. eqb a.fields.code 420 ≡ false) (offers t) (answers5 rule m c s) (codes_roomy (answers5 rule m c s) r.at_press)

  -- ---- what becomes of a record that is offered
  i5 : Invariant c5 t
  i5 = inv_5 rule m c s h

  waits : Every (Waits c5 t) ps
  waits = five.all_wait rule m c s h

  apart : Pairs OfTwo ps
  apart = five.apart rule m c s h

  abbrev EndsFor : Entry → Type 0
  EndsFor o = (j : ℕ) (y : Record) → record_at t j ≡ holds y → y.guid.0 ≡ o.fields.guid.0 → Ends c5 y (record_at s6 j)

  one_ends : (p : Entry × Entry) → Waits c5 t p → Placed c5 t s6 p → Granted (command p.0, p.1) → eqb p.1.fields.code 420 ≡ false → EndsFor p.0
  one_ends p k placed g code j y w q =
      let same : j ≡ k.place = guid_place t i5.safe j y w k.place k.record' k.here (q ∙ sym (offer_guid c5 p k.record' k.about)) in
      subst (λ (i : ℕ). Ends c5 y (record_at s6 i)) (sym same) (subst (λ (u : Record). Ends c5 u (record_at s6 k.place)) (sym (same_record_lem t i5.safe j y w k.place k.record' k.here same)) (go k.about.name k.about.offer' k.about.answers k.about.paired (placed k)))
    where
      z : Record
      z = k.record'

      deleted : (a : rec.Mark) → z.pairing.mark ≡ a → (((i : ℕ) (x : Card) → card_at c5 i ≡ holds x → has_luid x.luid z ≡ true → ⊥)) → is_paired z ≡ true → z.pairing.mark ≡ rec.Mark.Deleted
      deleted rec.Mark.Deleted e none p = e
      deleted rec.Mark.Clean e none p = let o = i5.owned k.place z k.here p (λ d. never (cc)) in absurd (none o.place o.card o.here o.is)
      deleted rec.Mark.Dirty e none p = let o = i5.owned k.place z k.here p (λ d. never (cc)) in absurd (none o.place o.card o.here o.is)
      deleted rec.Mark.Offered e none p = let o = i5.owned k.place z k.here p (λ d. never (cc)) in absurd (none o.place o.card o.here o.is)

      given : (v : Bool) → v ≡ true → own.Given v c5 z p.1 → own.Reported c5 z p.1
      given true e x = x
      given false e x = absurd (false≢true e)

      taken : p.1.fields.code ≡ 200 → (z.pairing.mark ≡ rec.Mark.Offered) × own.Given (eqb p.1.fields.code 200) c5 z p.1 → record_at s6 k.place ≡ holds (cond (eqb p.1.fields.code 200) (recorded p.1 z) (dirty_again z)) → Ends c5 z (record_at s6 k.place)
      taken e a l =
          let yes200 : eqb p.1.fields.code 200 ≡ true = eq-eqb p.1.fields.code 200 e in
          let x = given (eqb p.1.fields.code 200) yes200 a.1 in
          reported a.0 x.place x.card x.here x.tells x.new
          (l ∙ (ap (λ (v : Bool). holds (cond v (recorded p.1 z) (dirty_again z))) yes200 ∙ ap holds (own.recorded_heard c5 t i5 k.place z k.here p.1 x a.0)))

      go : (n : Name) → p.0 ≡ offer n z → own.Answers n c5 z p.1 → (n ≡ Name.Delete → is_paired z ≡ true) → record_at s6 k.place ≡ answered_by n p.1 z → Ends c5 z (record_at s6 k.place)
      go Name.Delete e a b l = gone (deleted z.pairing.mark refl a (b refl)) (b refl) a l
      go Name.Replace e a b l = taken (then_200 p.1 (subst (λ (o : Entry). Granted (command o, p.1)) e g) code) a l
      go Name.Add e a b l = taken (then_200 p.1 (subst (λ (o : Entry). Granted (command o, p.1)) e g) code) a l

  many : length (answers5 rule m c s) ≡ length (offers t)
  unfolding commands
  many =
      replies_length answering after_command (4 + length (statuses4 rule m c s)) cs c4
      ∙ (ap length (sym (five.same_commands rule m c s h)) ∙ length-map (offers t) command)

  offers_end : Every EndsFor (offers t)
  offers_end =
      with_back EndsFor (offers t) (answers5 rule m c s) many
      (every2 (λ p. Waits c5 t p × Placed c5 t s6 p) (λ p. Granted (command p.0, p.1) × (eqb p.1.fields.code 420 ≡ false)) (λ p. EndsFor p.0) (λ p a b. one_ends p a.0 a.1 b.0 b.1) ps
      (every2 (Waits c5 t) (Placed c5 t s6) (λ p. Waits c5 t p × Placed c5 t s6 p) (λ p a b. (a, b)) ps waits (all_placed c5 ps apart t i5 waits))
      (every2 (λ p. Granted (command p.0, p.1)) (λ p. eqb p.1.fields.code 420 ≡ false) (λ p. Granted (command p.0, p.1) × (eqb p.1.fields.code 420 ≡ false)) (λ p a b. (a, b)) ps granted codes))

  -- ---- every record
  due_ends : (n : Name) (j : ℕ) (y : Record) → record_at t j ≡ holds y → is_offered_as n y ≡ true → Ends c5 y (record_at s6 j)
  unfolding offers
  due_ends n j y w q =
      let due : IsDue n t j = holds_hit no_record (is_offered_as n) (table_of t) j y w q in
      every_in EndsFor (offer_at n t j) (offers_of n t) (offered_each n t j due) (of n) j y w (sym (ap (λ (v : Record). v.guid.0) (holds_is no_record (table_of t) j y w)))
    where
      of : (n : Name) → Every EndsFor (offers_of n t)
      of Name.Delete = every_left EndsFor (offers_of Name.Replace t ++ offers_of Name.Add t) (offers_of Name.Delete t) offers_end
      of Name.Replace = every_left EndsFor (offers_of Name.Add t) (offers_of Name.Replace t) (every_right EndsFor (offers_of Name.Replace t ++ offers_of Name.Add t) (offers_of Name.Delete t) offers_end)
      of Name.Add = every_right EndsFor (offers_of Name.Add t) (offers_of Name.Replace t) (every_right EndsFor (offers_of Name.Replace t ++ offers_of Name.Add t) (offers_of Name.Delete t) offers_end)

  -- a clean record is of no offer
  not_due : (n : Name) (y : Record) → y.pairing.mark ≡ rec.Mark.Clean → is_offered_as n y ≡ true → ⊥
  not_due Name.Delete y k q = false≢true (sym (ap (λ (x : rec.Mark). not (server.is_live x)) k) ∙ q)
  not_due Name.Replace y k q = false≢true (sym (ap (λ (x : rec.Mark). is_waiting x && is_paired y) k) ∙ q)
  not_due Name.Add y k q = false≢true (sym (ap (λ (x : rec.Mark). is_waiting x && not (is_paired y)) k) ∙ q)

  still_there : (j : ℕ) (y : Record) → record_at t j ≡ holds y → y.pairing.mark ≡ rec.Mark.Clean → record_at s6 j ≡ holds y
  still_there j y w k =
      untouched c5 ps apart t i5 waits j (holds y)
      (with_first (λ o. y.guid.0 ≡ o.fields.guid.0 → ⊥) (offers t) (answers5 rule m c s)
      (every (five.Due t i5.safe) (λ o. y.guid.0 ≡ o.fields.guid.0 → ⊥)
      (λ o d q.
      let i = d.1.0 in
      let u = get_or t.places i no_record in
      let v = hit_holds no_record (is_offered_as d.0) (table_of t) i d.1.1 in
      let same : j ≡ i = guid_place t i5.safe j y w i u v (q ∙ ap (λ (a : Entry). a.fields.guid.0) d.1.2) in
      not_due d.0 y k (subst (λ (a : Record). is_offered_as d.0 a ≡ true) (sym (same_record_lem t i5.safe j y w i u v same)) d.1.1.passes))
      (offers t) (five.offers_due t i5.safe))) w

  -- and no report names it
  abbrev Silent : Card → Type 0
  Silent x = (j : ℕ) (y : Record) → record_at t j ≡ holds y → y.pairing.mark ≡ rec.Mark.Clean → is_named (named_by (report_in x)) y ≡ true → ⊥

  silent : Reporting Silent c5
  silent =
      reports_from Silent cs (five.texts rule m c s h) (4 + length (statuses4 rule m c s)) c4 inv4.formed (λ i x e o. absurd (false≢true (sym ((unmarked_own rule m c s h).bare i x e) ∙ o)))
      (five.to_commands rule m c s h (λ p. (x : Card) → Answered x p → Silent x)
      (every (Waits c5 t) (λ p. (x : Card) → Answered x (command p.0, p.1) → Silent x)
      (λ p k x a j y w q n.
      let same : j ≡ k.place = named_place c5 t i5.safe p k.record' k.about x a k.place k.record' k.here refl (λ e. (said_of c5 t i5.safe p k.record' k.about x a Name.Replace e).1) j y w n in
      is_offered p k x a (subst (λ (u : Record). u.pairing.mark ≡ rec.Mark.Clean) (same_record_lem t i5.safe j y w k.place k.record' k.here same) q)) ps waits))
    where
      is_offered : (p : Entry × Entry) (k : Waits c5 t p) (x : Card) → Answered x (command p.0, p.1) → k.record'.pairing.mark ≡ rec.Mark.Clean → ⊥
      is_offered p k x a q = go k.about.name k.about.offer' k.about.answers
        where
          no : k.record'.pairing.mark ≡ rec.Mark.Offered → ⊥
          no e = never (cc)

          go : (n : Name) → p.0 ≡ offer n k.record' → own.Answers n c5 k.record' p.1 → ⊥
          go Name.Delete e w = said_of c5 t i5.safe p k.record' k.about x a Name.Delete e
          go Name.Replace e w = no w.0
          go Name.Add e w = no w.0

  unheard_clean : (j : ℕ) (y : Record) → record_at t j ≡ holds y → y.pairing.mark ≡ rec.Mark.Clean → (i : ℕ) (x : Card) → card_at c5 i ≡ holds x → heard x y ≡ y
  unfolding tells_of
  unheard_clean j y w k i x e = go x.report.on refl
    where
      go : (v : Bool) → x.report.on ≡ v → heard x y ≡ y
      go false o = no_report_lem x o y
      go true o = by (is_named (named_by (report_in x)) y) refl
        where
          by : (v : Bool) → is_named (named_by (report_in x)) y ≡ v → heard x y ≡ y
          by false n = unheard x y (ap₂ ◌&&◌ o n)
          by true n = absurd (silent i x e o j y w k n)

  all_end : (j : ℕ) (y : Record) → record_at t j ≡ holds y → Ends c5 y (record_at s6 j)
  all_end j y w = go y.pairing.mark refl (is_paired y) refl
    where
      go : (a : rec.Mark) → y.pairing.mark ≡ a → (b : Bool) → is_paired y ≡ b → Ends c5 y (record_at s6 j)
      go rec.Mark.Clean k b q = done k (unheard_clean j y w k) (still_there j y w k)
      go rec.Mark.Dirty k b q = absurd (false≢true (sym (server4_undirty rule m c s h j y w) ∙ ap is_dirty k))
      go rec.Mark.Deleted k b q = due_ends Name.Delete j y w (ap (λ (x : rec.Mark). not (server.is_live x)) k)
      go rec.Mark.Offered k true q = due_ends Name.Replace j y w (ap₂ (λ (x : rec.Mark) (v : Bool). is_waiting x && v) k q)
      go rec.Mark.Offered k false q = due_ends Name.Add j y w (ap₂ (λ (x : rec.Mark) (v : Bool). is_waiting x && not v) k q)

  still_free : (j : ℕ) → record_at t j ≡ free → record_at s6 j ≡ free
  still_free j w = untouched c5 ps apart t i5 waits j free (every (Waits c5 t) (λ p. Unit {0}) (λ p k. tt) ps waits) w

  near5 : Near c5 t (press_at7 rule m c s) s6
  near5 = record { clean = clean5; cards = λ i. refl; empty = still_free; records = all_end }

  -- ---- all is clean at the end
  clean6 : (j : ℕ) (y : Record) → record_at s6 j ≡ holds y → y.pairing.mark ≡ rec.Mark.Clean
  clean6 j y w = go (record_at t j) refl
    where
      go : (z : Slot Record) → record_at t j ≡ z → y.pairing.mark ≡ rec.Mark.Clean
      go free q = not_free y (sym w ∙ still_free j q)
      go (holds u) q = by (all_end j u q)
        where
          by : Ends c5 u (record_at s6 j) → y.pairing.mark ≡ rec.Mark.Clean
          by (done k f e) = subst (λ (v : Record). v.pairing.mark ≡ rec.Mark.Clean) (holds_one u y (sym e ∙ w)) k
          by (reported k i x a tells new e) = subst (λ (v : Record). v.pairing.mark ≡ rec.Mark.Clean) (holds_one (heard x u) y (sym e ∙ w)) (then_clean c5 t i5 i x a j u q tells new k)
          by (gone k p none e) = not_held y (sym e ∙ w)

  told6 : Told c5 s6
  told6 = subst (Told c5) (five.server6_is rule m c s h) (five.told_6 rule m c s h)

  near6 : Near c5 s6 (press_at7 rule m c s) s6
  near6 = record { clean = clean5; cards = λ i. refl; empty = λ j w. w; records = λ j y w. done (clean6 j y w) (λ i x e. told6.quiet i x e j y w) w }

  near7 : Near (press_at7 rule m c s) s6 (press_at7 rule m c s) s6
  near7 = bare_near c5 i5.formed s6 (press_at7 rule m c s) s6 near6 (λ j y w. done (clean6 j y w) w)

  -- ---- both sides in step
  told7 : Told (press_at7 rule m c s) s6
  told7 = bare_told c5 s6 told6

  even6 : Even (press_at7 rule m c s) s6
  even6 =
      record {
        live_card_lem = λ i x e. ap press.is_live (near7.clean i x e);
        live_record_lem = λ j y w. ap server.is_live (clean6 j y w);
        has_record = λ i x e.
            let live = ap press.is_live (near7.clean i x e) in
            let k = told7.inv.recorded i x e live (ap tell.is_added (near7.clean i x e)) in
            let q = agree i x e k.place k.record' k.here k.is in
            record { place = k.place; record' = k.record'; here = k.here; luid = luid_is k.record'.pairing.luid x.luid q.0; wording = q.1 };
        has_card = λ j y w.
            let o = told7.inv.owned j y w (paired j y w (is_paired y) refl) (let k = clean6 j y w in λ d. never (cc)) in
            let q = agree o.place o.card o.here j y w (subst (λ (v : Record). has_luid o.card.luid v ≡ true) (sym (told7.quiet o.place o.card o.here j y w)) o.is) in
            record { place = o.place; card = o.card; here = o.here; luid = sym (luid_is y.pairing.luid o.card.luid q.0); wording = sym q.1 };
      }
    where
      paired : (j : ℕ) (y : Record) → record_at s6 j ≡ holds y → (v : Bool) → is_paired y ≡ v → is_paired y ≡ true
      paired j y w true q = q
      paired j y w false q = absurd ((told7.inv.records j y w).unclean q (clean6 j y w))

      agree : (i : ℕ) (x : Card) → card_at (press_at7 rule m c s) i ≡ holds x → (j : ℕ) (y : Record) → record_at s6 j ≡ holds y → has_luid x.luid (heard x y) ≡ true → (y.pairing.luid.0 ≡ x.luid.0) × (y.wording ≡ x.wording)
      agree i x e j y w is =
          let q = told7.quiet i x e j y w in
          let has : has_luid x.luid y ≡ true = subst (λ (v : Record). has_luid x.luid v ≡ true) q is in
          let mark = near7.clean i x e in
          let a : Agrees x y = subst (λ (v : Record). Agrees x v) q ((told7.inv.pairs i x e j y w).agrees (ap press.is_live mark) is) in
          (has_number_lem x.luid y has, a.wording (a.clean mark) (clean6 j y w))

  -- ---- the laws
  pub nears_5 : Near c5 t (press_at7 rule m c s) (server6 rule m c s)
  nears_5 = subst (λ (v : Records). Near c5 t (press_at7 rule m c s) v) (sym (five.server6_is rule m c s h)) near5

  pub nears_6 : Near c5 (server6 rule m c s) (press_at7 rule m c s) (server6 rule m c s)
  nears_6 = subst (λ (v : Records). Near c5 v (press_at7 rule m c s) v) (sym (five.server6_is rule m c s h)) near6

  pub nears_7 : Near (press_at7 rule m c s) (server6 rule m c s) (press_at7 rule m c s) (server6 rule m c s)
  nears_7 = subst (λ (v : Records). Near (press_at7 rule m c s) v (press_at7 rule m c s) v) (sym (five.server6_is rule m c s h)) near7

  pub in_step : Even (press_at7 rule m c s) (server6 rule m c s)
  in_step = subst (Even (press_at7 rule m c s)) (sym (five.server6_is rule m c s h)) even6
