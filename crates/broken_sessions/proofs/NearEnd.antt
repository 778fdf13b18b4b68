-- The second half of a session from near tables: the press keeps its cards, bare; the server frees what was deleted. Assumes nothing.
use Rattle.std.proofs.Common.{Option, Some, None}
use Prim.Native.Nat.{ℕ, ◌+◌}
use mathlib.Core.Path.{◌≡◌, refl, sym, ap, ap₂, ◌∙◌, subst}
use mathlib.Core.Bool.{Bool, true, false, cond, not, ◌&&◌, false≢true}
use mathlib.Core.List.{List, [], ◌∷◌, ◌++◌}
use lib.Dec.{eqb}
use lib.ListN.{get_or, length, length-map}
use borrow.Author.Tests.{eqb-true, eqb-false, eq-eqb}
use Rattle.places.specs.Set.{all_places}
use Rattle.places.proofs.Choice.{never}
use Rattle.places.specs.Act.{Slot, free, holds, act, in_order, with_answers}
use Rattle.places.proofs.Turns.{replies_length}
use Rattle.places.proofs.Views.{on}
use Rattle.places.proofs.Every.{Every, every, every2, every_map, every_left, Pairs, every_in}
use Rattle.places.proofs.Held.{hit_holds, holds_hit, holds_is, not_free, on_each, used_holds}
use Rattle.places.proofs.SameLaws.{act_same, each_same, order_same}
use Rattle.places.proofs.WithAnswers.{with_back}
use Rattle.lists.specs.declared.Entry.{Entry}
use Rattle.terms.specs.declared.Mode.{Mode}
use Rattle.terms.specs.declared.Mode.TheVariants.{Normal, Recovery}
use Rattle.cards.specs.declared.Mark as card
use Rattle.cards.specs.declared.Card.{Card}
use Rattle.cards.specs.declared.Cards.{Cards}
use Rattle.cards.specs.Press as press
use Rattle.cards.specs.Press.{no_card, find_card}
use Rattle.cards.proofs.FindLaws.{card_at_lem}
use Rattle.records.specs.declared.Mark as rec
use Rattle.records.specs.declared.Record.{Record}
use Rattle.records.specs.declared.Records.{Records}
use Rattle.records.specs.declared.Rule.{Rule}
use Rattle.records.specs.Server as server
use Rattle.records.specs.Server.{no_record}
use Rattle.statuses.specs.declared.Name.{Name}
use Rattle.statuses.specs.Status.{name_of}
use Rattle.record_moves.specs.Named.{is_paired, has_luid, is_named, Safe, table_of}
use Rattle.card_moves.specs.Moves as moves
use Rattle.card_moves.specs.Moves.{any_entry, bare, with_bare, without_reports, without_delete_marks, is_delete_mark}
use Rattle.card_moves.proofs.FormedLaws.{bare_formed}
use Rattle.server_offers.specs.Offer.{is_waiting, is_offered_as, offer, offers_of, offers, command, commands}
use Rattle.server_offers.proofs.OfferLaws.{IsDue, offer_at, offered_each}
use Rattle.server_answers.specs.Answer.{answer, offered_in, answered_by}
use Rattle.server_each.proofs.EachRecord.{record_at}
use Rattle.press_tells.specs.Tell as tell
use Rattle.press_ends.specs.End.{keeps_mark, cleaned, ended, end_mark, ends, marks_end}
use Rattle.press_replies.specs.Reply.{answering}
use Rattle.press_takes.specs.Take.{delete_at, after_command_by, after_command}
use Rattle.own_packages.proofs.Own.{statuses4, commands4, press_at5, answers5, server6, press_at7, server4}
use Rattle.pairs.proofs.Invariant.{card_at, heard, Invariant}
use Rattle.pairs.proofs.Heard.{no_report_lem}
use Rattle.pairs.proofs.Once.{guid_place}
use Rattle.server_pairs.proofs.Quiet.{Quiet}
use Rattle.server_pairs.proofs.Answers as own
use Rattle.press_pairs.proofs.Bared.{bare_view, bare_of}
use Rattle.press_pairs.proofs.Pkg4.{inv_5}
use Rattle.press_pairs.proofs.Answering.{Waits, OfTwo, keeps, after, waits_still, named, offer_guid}
use Rattle.press_pairs.proofs.Pkg5.{Due, offers_due, told_6, all_wait, apart, server6_is, same_commands}
use Rattle.whole_sessions.proofs.PackageLaws.{Same}
use Rattle.broken_sessions.proofs.Near.{Ends, done, gone, Near, Calm, calm}
use Rattle.broken_sessions.proofs.FromNear.{s2, told2, n2, calm2, merged_is, server4_is}

-- ---- reports that are gone stay gone
bare_twice : (c : Cards) → press.WellFormed c → (i : ℕ) → card_at (without_reports (without_reports c)) i ≡ card_at (without_reports c) i
bare_twice c w i =
    bare_view (without_reports c) (bare_formed c w).luids.long i ∙ (ap (on any_entry with_bare) (bare_view c w.luids.long i) ∙ (go (card_at c i) ∙ sym (bare_view c w.luids.long i)))
  where
    go : (z : Slot Card) → on any_entry with_bare (on any_entry with_bare z) ≡ on any_entry with_bare z
    go free = refl
    go (holds x) = refl

pub bare_near : (c : Cards) → press.WellFormed c → (t : Records) (e : Cards) (f : Records) → Near c t e f → ((j : ℕ) (y : Record) → record_at t j ≡ holds y → Calm c y (record_at f j)) → Near (without_reports c) t e f
bare_near c w t e f n k =
    record {
      clean = bare_of c long (λ i z. z.mark ≡ card.Mark.Clean) (λ i x q. n.clean i x q);
      cards = λ i. bare_twice c w i ∙ n.cards i;
      empty = n.empty;
      records = λ j y q. go y (k j y q);
    }
  where
    long : length c.places ≡ all_places
    long = w.luids.long

    go : {z : Slot Record} (y : Record) → Calm c y z → Ends (without_reports c) y z
    go y (done m r) = done m (bare_of c long (λ i x. heard x y ≡ y) (λ i x q. no_report_lem (bare x) refl y)) r
    go y (gone m p none r) = gone m p (bare_of c long (λ i x. has_luid x.luid y ≡ true → ⊥) (λ i x q. none i x q)) r

-- ---- clean cards stay as they are, whatever is answered
module _ (c : Cards) (w : press.WellFormed c) (clean : (i : ℕ) (x : Card) → card_at c i ≡ holds x → x.mark ≡ card.Mark.Clean) where
  same_clean : (x : Card) → x.mark ≡ card.Mark.Clean → ended x ≡ holds x
  same_clean x k =
      ap (λ (m : card.Mark). cond (press.is_live m) (holds (cleaned x)) free) k
      ∙ ap (λ (m : card.Mark). holds (record { mark = m; luid = x.luid; fp = x.fp; report = x.report; wording = x.wording })) (sym k)

  end_still : (p : Entry × Entry) → end_mark p c ≡ c
  unfolding end_mark
  end_still p = go (keeps_mark p.1.fields.code)
    where
      acted : moves.with_table c (act no_card (moves.is_entry p.0.fields.luid) ended (moves.table_of c)) ≡ c
      acted = ap (moves.with_table c) (act_same no_card (moves.is_entry p.0.fields.luid) ended (moves.table_of c) (λ j hit. same_clean (get_or c.places j no_card) (clean j (get_or c.places j no_card) (hit_holds no_card (moves.is_entry p.0.fields.luid) (moves.table_of c) j hit))))

      go : (b : Bool) → cond b c (moves.with_table c (act no_card (moves.is_entry p.0.fields.luid) ended (moves.table_of c))) ≡ c
      go true = refl
      go false = acted

  ends_still : (ps : List (Entry × Entry)) → in_order end_mark ps c ≡ c
  unfolding in_order
  ends_still [] = refl
  ends_still (p ∷ ps) = ap (in_order end_mark ps) (end_still p) ∙ ends_still ps

  dead_still : without_delete_marks c ≡ c
  unfolding without_delete_marks
  dead_still =
      ap (moves.with_table c)
      (each_same no_card is_delete_mark moves.freed (moves.table_of c)
      (λ j hit. let x = get_or c.places j no_card in absurd (false≢true (sym (ap (λ (m : card.Mark). not (press.is_live m)) (clean j x (hit_holds no_card is_delete_mark (moves.table_of c) j hit))) ∙ hit.passes))) w.luids.long)

  -- a Delete of a card that is not there
  taking_still : (o : Entry) → name_of o.fields.kind ≡ Name.Delete → ((i : ℕ) (x : Card) → card_at c i ≡ holds x → x.luid.0 ≡ o.fields.luid.0 → ⊥) → after_command o c ≡ c
  unfolding after_command
  taking_still o m none = ap (λ (n : Name). after_command_by n o c) m ∙ go (find_card c o.fields.luid) refl
    where
      go : (r : Option ℕ) → find_card c o.fields.luid ≡ r → delete_at c r ≡ c
      go None q = refl
      go (Some i) q = let k = card_at_lem c w o.fields.luid i q in absurd (none i (get_or c.places i no_card) (used_holds no_card (moves.table_of c) i w.luids.long k.inside k.taken) k.number)

marks_still : (m : Mode) (cs xs : List Entry) (c : Cards) → press.WellFormed c → ((i : ℕ) (x : Card) → card_at c i ≡ holds x → x.mark ≡ card.Mark.Clean) → marks_end m cs xs c ≡ without_reports c
unfolding marks_end ends
marks_still m cs xs c w k = go m
  where
    clean : (i : ℕ) (x : Card) → card_at (without_reports c) i ≡ holds x → x.mark ≡ card.Mark.Clean
    clean = bare_of c w.luids.long (λ i z. z.mark ≡ card.Mark.Clean) (λ i x q. k i x q)

    still : in_order end_mark (with_answers cs xs) (without_reports c) ≡ without_reports c
    still = ends_still (without_reports c) (bare_formed c w) clean (with_answers cs xs)

    go : (m : Mode) → marks_end m cs xs c ≡ without_reports c
    go Normal = still
    go Recovery = ap without_delete_marks still ∙ dead_still (without_reports c) (bare_formed c w) clean

-- ---- the server's side, where the press has no reports: each answer is to a Delete, and frees its record
module _ (c : Cards) (silent : (i : ℕ) (x : Card) → card_at c i ≡ holds x → x.report.on ≡ false) (e : Cards) (f : Records) where
  quiet : (t : Records) → Quiet c t
  quiet t i x q j y w = no_report_lem x (silent i x q) y

  abbrev NoGuid : Records → ℕ → Type 0
  NoGuid t g = (j : ℕ) (u : Record) → record_at t j ≡ holds u → u.guid.0 ≡ g → ⊥

  module _ (t : Records) (h : Invariant c t) (n : Near c t e f) (p : Entry × Entry) (k : Waits c t p) where
    abbrev y : Record
    y = k.record'

    is_delete_lem : (k.about.name ≡ Name.Delete) × (record_at f k.place ≡ free)
    is_delete_lem = go (calm c t h (quiet t) k.place y k.here (record_at f k.place) (n.records k.place y k.here)) k.about.name k.about.answers k.about.paired
      where
        go : {z : Slot Record} → Calm c y z → (m : Name) → own.Answers m c y p.1 → (m ≡ Name.Delete → is_paired y ≡ true) → (m ≡ Name.Delete) × (z ≡ free)
        go (done q r) Name.Delete a b = let o = h.owned k.place y k.here (b refl) (λ d. never (cc)) in absurd (a o.place o.card o.here o.is)
        go (done q r) Name.Replace a b = let u = a.0 in never (cc)
        go (done q r) Name.Add a b = let u = a.0 in never (cc)
        go (gone q w none r) Name.Delete a b = (refl, r)
        go (gone q w none r) Name.Replace a b = let u = a.0 in never (cc)
        go (gone q w none r) Name.Add a b = let u = a.0 in never (cc)

    view_of : (j : ℕ) → record_at (answer p t) j ≡ on (is_named (offered_in p.0)) (λ u. free) (record_at t j)
    view_of j = after c t h p k j ∙ ap (λ (m : Name). on (is_named (offered_in p.0)) (answered_by m p.1) (record_at t j)) (named c p y k.about ∙ is_delete_lem.0)

    -- a record that is left was there, and has another GUID
    left : (j : ℕ) (v : Record) → record_at (answer p t) j ≡ holds v → (record_at t j ≡ holds v) × (v.guid.0 ≡ p.0.fields.guid.0 → ⊥)
    left =
        on_each no_record (is_named (offered_in p.0)) (λ u. free) (table_of t) (table_of (answer p t)) view_of (λ j v. (record_at t j ≡ holds v) × (v.guid.0 ≡ p.0.fields.guid.0 → ⊥))
        (λ j u w x. tt) (λ j u w x. (w, eqb-false u.guid.0 p.0.fields.guid.0 x))

    -- a place that is free was free, or had what was deleted
    freed : (j : ℕ) → record_at (answer p t) j ≡ free → record_at f j ≡ free
    freed j q = go (record_at t j) refl (sym (view_of j) ∙ q)
      where
        go : (z : Slot Record) → record_at t j ≡ z → on (is_named (offered_in p.0)) (λ u. free) z ≡ free → record_at f j ≡ free
        go free w r = n.empty j w
        go (holds u) w r = by (eqb u.guid.0 p.0.fields.guid.0) refl r
          where
            by : (b : Bool) → eqb u.guid.0 p.0.fields.guid.0 ≡ b → cond b free (holds u) ≡ free → record_at f j ≡ free
            by false x r = not_free u r
            by true x r =
                let g : u.guid.0 ≡ y.guid.0 = eqb-true u.guid.0 p.0.fields.guid.0 x ∙ sym (offer_guid c p y k.about) in
                let same : j ≡ k.place = guid_place t h.safe j u w k.place y k.here g in
                ap (record_at f) same ∙ is_delete_lem.1

    one_answer : Near c (answer p t) e f
    one_answer = record { clean = n.clean; cards = n.cards; empty = freed; records = λ j v q. n.records j v (left j v q).0 }

  abbrev Gone : Records → Entry × Entry → Type 0
  Gone t p = NoGuid t p.0.fields.guid.0

  gone_still : (ps : List (Entry × Entry)) → Pairs OfTwo ps → (t : Records) → Invariant c t → Every (Waits c t) ps → Near c t e f → (g : ℕ) → NoGuid t g → NoGuid (in_order answer ps t) g
  unfolding in_order
  gone_still [] a t h k n g d = d
  gone_still (p ∷ ps) a t h k n g d =
      gone_still ps a.1 (answer p t) (keeps c t h p k.0) (every2 (OfTwo p) (Waits c t) (Waits c (answer p t)) (λ r o v. waits_still c t h p k.0 r o v) ps a.0 k.1) (one_answer t h n p k.0) g
      (λ j u q. d j u (left t h n p k.0 j u q).0)

  pub answers_near : (ps : List (Entry × Entry)) → Pairs OfTwo ps → (t : Records) → Invariant c t → Every (Waits c t) ps → Near c t e f → Near c (in_order answer ps t) e f × Every (Gone (in_order answer ps t)) ps
  unfolding in_order
  answers_near [] a t h k n = (n, tt)
  answers_near (p ∷ ps) a t h k n =
      let h' = keeps c t h p k.0 in
      let k' = every2 (OfTwo p) (Waits c t) (Waits c (answer p t)) (λ r o v. waits_still c t h p k.0 r o v) ps a.0 k.1 in
      let n' = one_answer t h n p k.0 in
      let rest = answers_near ps a.1 (answer p t) h' k' n' in
      (rest.0, (gone_still ps a.1 (answer p t) h' k' n' p.0.fields.guid.0 (λ j u q. (left t h n p k.0 j u q).1), rest.1))

  -- what is left was there
  pub were : (ps : List (Entry × Entry)) → Pairs OfTwo ps → (t : Records) → Invariant c t → Every (Waits c t) ps → Near c t e f → (j : ℕ) (v : Record) → record_at (in_order answer ps t) j ≡ holds v → record_at t j ≡ holds v
  unfolding in_order
  were [] a t h k n j v q = q
  were (p ∷ ps) a t h k n j v q =
      (left t h n p k.0 j v
      (were ps a.1 (answer p t) (keeps c t h p k.0) (every2 (OfTwo p) (Waits c t) (Waits c (answer p t)) (λ r o v. waits_still c t h p k.0 r o v) ps a.0 k.1) (one_answer t h n p k.0) j v q)).0

-- ---- the press in a session from near tables
module _ (rule : Rule) (m : Mode) (c : Cards) (s : Records) (e : Cards) (f : Records) (h : Invariant c s) (n : Near c s e f) where
  abbrev c0 : Cards
  c0 = without_reports c

  w0 : press.WellFormed c0
  w0 = bare_formed c h.formed

  clean0 : (i : ℕ) (x : Card) → card_at c0 i ≡ holds x → x.mark ≡ card.Mark.Clean
  clean0 = bare_of c h.formed.luids.long (λ i z. z.mark ≡ card.Mark.Clean) (λ i x q. n.clean i x q)

  abbrev t : Records
  t = s2 rule m c s e f h n

  safe2 : Safe t
  safe2 = (told2 rule m c s e f h n).inv.safe

  -- all that the server offers is a Delete of a card that is not there
  delete_of_lem : (nm : Name) (j : ℕ) → IsDue nm t j → after_command (command (offer_at nm t j)) c0 ≡ c0
  delete_of_lem nm j d = go (calm2 rule m c s e f h n j y (hit_holds no_record (is_offered_as nm) (table_of t) j d)) nm d.passes
    where
      y : Record
      y = get_or t.places j no_record

      go : {z : Slot Record} → Calm c y z → (nm : Name) → is_offered_as nm y ≡ true → after_command (command (offer nm y)) c0 ≡ c0
      go (done k r) Name.Delete q = absurd (false≢true (sym (ap (λ (x : rec.Mark). not (server.is_live x)) k) ∙ q))
      go (done k r) Name.Replace q = absurd (false≢true (sym (ap (λ (x : rec.Mark). is_waiting x && is_paired y) k) ∙ q))
      go (done k r) Name.Add q = absurd (false≢true (sym (ap (λ (x : rec.Mark). is_waiting x && not (is_paired y)) k) ∙ q))
      go (gone k p none r) Name.Replace q = absurd (false≢true (sym (ap (λ (x : rec.Mark). is_waiting x && is_paired y) k) ∙ q))
      go (gone k p none r) Name.Add q = absurd (false≢true (sym (ap (λ (x : rec.Mark). is_waiting x && not (is_paired y)) k) ∙ q))
      go (gone k p none r) Name.Delete q =
          taking_still c0 w0 clean0 (command (offer Name.Delete y)) refl
          (bare_of c h.formed.luids.long (λ i x. x.luid.0 ≡ y.pairing.luid.0 → ⊥)
          (λ i x u l. none i x u (ap₂ ◌&&◌ p (eq-eqb y.pairing.luid.0 x.luid.0 (sym l)))))

  takes_still : Every (λ o. after_command o c0 ≡ c0) (commands t)
  unfolding commands
  takes_still = every_map command (λ o. after_command o c0 ≡ c0) (offers t) (every (Due t safe2) (λ o. after_command (command o) c0 ≡ c0) (λ o k. subst (λ (v : Entry). after_command (command v) c0 ≡ c0) (sym k.1.2) (delete_of_lem k.0 k.1.0 k.1.1)) (offers t) (offers_due t safe2))

  pub press_is : press_at5 rule m c s ≡ c0
  press_is =
      ap₂ (in_order after_command) (ap commands (merged_is rule m c s e f h n)) (marks_still m (tell.commands m c) (statuses4 rule m c s) c h.formed n.clean)
      ∙ order_same after_command (commands t) c0 takes_still

  near0 : Near c0 t e f
  near0 = bare_near c h.formed t e f (n2 rule m c s e f h n) (calm2 rule m c s e f h n)

  pub near_5 : Near (press_at5 rule m c s) (server4 rule m c s) e f
  near_5 = subst (λ (v : Cards). Near v (server4 rule m c s) e f) (sym press_is) (subst (λ (v : Records). Near c0 v e f) (sym (server4_is rule m c s e f h n)) near0)

  -- ---- the server after Pkg 5
  abbrev c5 : Cards
  c5 = press_at5 rule m c s

  abbrev s4 : Records
  s4 = server4 rule m c s

  silent : (i : ℕ) (x : Card) → card_at c5 i ≡ holds x → x.report.on ≡ false
  silent = subst (λ (v : Cards). (i : ℕ) (x : Card) → card_at v i ≡ holds x → x.report.on ≡ false) (sym press_is) (bare_of c h.formed.luids.long (λ i z. z.report.on ≡ false) (λ i x q. refl))

  abbrev ps : List (Entry × Entry)
  ps = with_answers (offers s4) (answers5 rule m c s)

  all : Near c5 (in_order answer ps s4) e f × Every (λ p. (j : ℕ) (u : Record) → record_at (in_order answer ps s4) j ≡ holds u → u.guid.0 ≡ p.0.fields.guid.0 → ⊥) ps
  all = answers_near c5 silent e f ps (apart rule m c s h) s4 (inv_5 rule m c s h) (all_wait rule m c s h) near_5

  pub near_6 : Near c5 (server6 rule m c s) e f
  near_6 = subst (λ (v : Records). Near c5 v e f) (sym (server6_is rule m c s h)) all.0

  abbrev s6 : Records
  s6 = server6 rule m c s

  calm6 : (j : ℕ) (y : Record) → record_at s6 j ≡ holds y → Calm c5 y (record_at f j)
  calm6 j y w = calm c5 s6 (told_6 rule m c s h).inv (told_6 rule m c s h).quiet j y w (record_at f j) (near_6.records j y w)

  pub near_7 : Near (press_at7 rule m c s) s6 e f
  near_7 = bare_near c5 (inv_5 rule m c s h).formed s6 e f near_6 calm6

  -- ---- no deleted record is left
  many : length (answers5 rule m c s) ≡ length (offers s4)
  unfolding commands
  many =
      replies_length answering after_command (4 + length (statuses4 rule m c s)) (commands4 rule m c s) (marks_end m (tell.commands m c) (statuses4 rule m c s) c)
      ∙ (ap length (sym (same_commands rule m c s h)) ∙ length-map (offers s4) command)

  none_left : (j : ℕ) (y : Record) → record_at s6 j ≡ holds y → y.pairing.mark ≡ rec.Mark.Deleted → ⊥
  unfolding offers
  none_left j y w d =
      let r = in_order answer ps s4 in
      let w6 : record_at r j ≡ holds y = ap (λ (v : Records). record_at v j) (sym (server6_is rule m c s h)) ∙ w in
      let w4 : record_at s4 j ≡ holds y = were c5 silent e f ps (apart rule m c s h) s4 (inv_5 rule m c s h) (all_wait rule m c s h) near_5 j y w6 in
      let due : IsDue Name.Delete s4 j = holds_hit no_record (is_offered_as Name.Delete) (table_of s4) j y w4 (ap (λ (x : rec.Mark). not (server.is_live x)) d) in
      let each : Every (λ o. (j : ℕ) (u : Record) → record_at r j ≡ holds u → u.guid.0 ≡ o.fields.guid.0 → ⊥) (offers_of Name.Delete s4) =
      every_left (λ o. (j : ℕ) (u : Record) → record_at r j ≡ holds u → u.guid.0 ≡ o.fields.guid.0 → ⊥) (offers_of Name.Replace s4 ++ offers_of Name.Add s4) (offers_of Name.Delete s4)
      (with_back (λ o. (j : ℕ) (u : Record) → record_at r j ≡ holds u → u.guid.0 ≡ o.fields.guid.0 → ⊥) (offers s4) (answers5 rule m c s) many all.1) in
      every_in (λ o. (j : ℕ) (u : Record) → record_at r j ≡ holds u → u.guid.0 ≡ o.fields.guid.0 → ⊥) (offer_at Name.Delete s4 j) (offers_of Name.Delete s4) (offered_each Name.Delete s4 j due) each j y w6
      (sym (ap (λ (v : Record). v.guid.0) (holds_is no_record (table_of s4) j y w4)))

  pub ends_same : Same (press_at7 rule m c s) s6 e f
  ends_same = record { cards = near_6.cards; records = λ j. go j (record_at s6 j) refl }
    where
      go : (j : ℕ) (z : Slot Record) → record_at s6 j ≡ z → record_at s6 j ≡ record_at f j
      go j free w = w ∙ sym (near_6.empty j w)
      go j (holds y) w = by (calm6 j y w)
        where
          by : Calm c5 y (record_at f j) → record_at s6 j ≡ record_at f j
          by (done k r) = w ∙ sym r
          by (gone k p none r) = absurd (none_left j y w k)
