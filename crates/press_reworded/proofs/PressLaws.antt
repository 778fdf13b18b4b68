-- The press at each package with other wordings: it takes or refuses the package as before, and answers the same. Assumes nothing.
use Prim.Native.Nat.{ℕ, ◌+◌}
use mathlib.Core.Path.{◌≡◌, refl, ap, ap₂, ◌∙◌}
use mathlib.Core.Bool.{Bool, not, ◌&&◌}
use mathlib.Core.List.{List, []}
use lib.Dec.{eqb}
use lib.ListN.{length, length-map}
use Rattle.lists.specs.declared.Entry.{Entry}
use Rattle.places.specs.Act.{replies}
use Rattle.terms.specs.declared.Check.{Check}
use Rattle.terms.specs.declared.Mode.{Mode}
use Rattle.terms.specs.Check.{checked, or_refuse}
use Rattle.cards.specs.declared.Awaits.{Awaits}
use Rattle.cards.specs.declared.Cards.{Cards}
use Rattle.cards.specs.declared.Press.{Press}
use Rattle.cards.specs.Press.{is_open}
use Rattle.message.specs.declared.Content.{Content}
use Rattle.ranks.specs.declared.Row.TheVariants.{ServerCommands}
use Rattle.statuses.specs.declared.Side.{Side}
use Rattle.statuses.specs.Status.{all_fit}
use Rattle.listing.specs.declared.Listing.{Listing}
use Rattle.listing.specs.Listing.{listing}
use Rattle.packages.specs.Package.{head1, head3, head4, head5, head6, listed, packed, answers_in, commands_in, refs_fit, counts_fit}
use Rattle.press_tells.specs.Tell.{reports, commands}
use Rattle.press_ends.specs.End.{marks_end}
use Rattle.press_replies.specs.Reply.{after_command, answering}
use Rattle.press_takes.specs.Take.{Taken}
use Rattle.press_takes.specs.Take.{taken_all}
use Rattle.press_judges.specs.Lawful.{sync_ref, in_row, lawful4}
use Rattle.press_rules.specs.Pkg1.{Start}
use Rattle.press_rules.specs.Pkg1.{Started}
use Rattle.press_rules.specs.Took.{Took}
use Rattle.press_rules.specs.Took.{refused, taken, press_with}
use Rattle.press_rules.specs.Pkg1.{not_started, started, press_starts}
use Rattle.press_rules.specs.Pkg2.{lawful2, mode_in, sends_pkg3, press_takes2}
use Rattle.press_rules.specs.Pkg4.{taken_from, sends_pkg5, press_takes4}
use Rattle.press_rules.specs.Pkg6.{closed, press_takes6}
use Rattle.press_awaits.specs.Awaited.{awaited, press_does}
use Rattle.press_awaits.specs.OnContent.{started_as, press_begins, press_replies, press_ruled, press_judges}
use Rattle.calls.specs.Says.{done, sending, refusing}
use Rattle.reworded.specs.Reworded.{Rewording, reword_cards, reword_press, reword_entry, reword_entries, reword_content, reword_called_press}
use Rattle.places.proofs.MapLaws.{cond_map, order_map, replies_map}
use Rattle.terms.proofs.CheckLaws.{refuse_map}
use Rattle.reworded.proofs.EntryLaws.{same_ranked, same_once, same_fit, reword_listing, listing_reworded, packed_reworded, no_package_lem, answers_reworded, commands_reworded}
use Rattle.press_reworded.proofs.CardLaws.{without_reports_reworded}
use Rattle.press_reworded.proofs.CommandLaws as told

module _ (r : Rewording) where
  abbrev pub reword_took : Took → Took
  reword_took t = record { check = t.check; press = reword_press r t.press; answer = reword_content r t.answer }

  refused_reworded : (p : Press) → refused (reword_press r p) ≡ reword_took (refused p)
  refused_reworded p = ap (λ (x : Content). record { check = Check.Fail; press = reword_press r p; answer = x }) (no_package_lem r)

  -- refused, or taken
  either : (p : Press) (k : Check) (t : Took) {k' : Check} {t' : Took} → k' ≡ k → t' ≡ reword_took t → or_refuse k' (refused (reword_press r p)) t' ≡ reword_took (or_refuse k (refused p) t)
  either p k t e q = refuse_map reword_took k (refused p) t e (refused_reworded p) q

  -- ---- Pkg 1
  abbrev pub reword_started : Started → Started
  reword_started t = record { start = t.start; press = reword_press r t.press; answer = reword_content r t.answer }

  not_started_reworded : (n : ℕ) (p : Press) → not_started n (reword_press r p) ≡ reword_started (not_started n p)
  not_started_reworded n p = ap (λ (x : Content). record { start = Start.Refused n; press = reword_press r p; answer = x }) (no_package_lem r)

  started_reworded : (p : Press) → started (reword_press r p) ≡ reword_started (started p)
  started_reworded p = ap (λ (x : Content). record { start = Start.Open; press = press_with (reword_cards r p.cards) p.anchor (p.session + 1) Awaits.Two; answer = x }) (packed_reworded r (head1 (p.session + 1) p.anchor) [] [])

  pub starts_reworded : (p : Press) → press_starts (reword_press r p) ≡ reword_started (press_starts p)
  unfolding press_starts
  starts_reworded p =
      let left = checked (not (eqb p.session 4294967295)) in
      refuse_map reword_started (checked (not (is_open p.awaits))) (not_started 1 p) (or_refuse left (not_started 2 p) (started p)) refl (not_started_reworded 1 p)
      (refuse_map reword_started left (not_started 2 p) (started p) refl (not_started_reworded 2 p) (started_reworded p))

  pub press_begins_reworded : (p : Press) → press_begins (reword_press r p) ≡ reword_called_press r (press_begins p)
  press_begins_reworded p = ap (λ (t : Started). started_as (reword_press r p) t.start t) (starts_reworded p) ∙ go (press_starts p).start (press_starts p)
    where
      go : (s : Start) (t : Started) → started_as (reword_press r p) s (reword_started t) ≡ reword_called_press r (started_as p s t)
      go (Start.Refused n) t = refl
      go Start.Open t = refl

  -- ---- Pkg 2
  pub takes_2_reworded : (p : Press) (x : Content) → press_takes2 (reword_press r p) (reword_content r x) ≡ reword_took (press_takes2 p x)
  unfolding press_takes2
  takes_2_reworded p x =
      let m = mode_in x.head in
      let c = p.cards in
      either p (checked (lawful2 p x.head)) (sends_pkg3 p m) refl
      (ap (taken (press_with (reword_cards r c) p.anchor p.session (Awaits.Four m)))
      (ap₂ (packed (head3 p.session)) (told.reports_reworded r c) (told.commands_reworded r m c) ∙ packed_reworded r (head3 p.session) (reports c) (commands m c)))

  -- ---- Pkg 4
  same_ref : (c : Cards) → sync_ref (reword_cards r c) ≡ sync_ref c
  same_ref c = ap (λ (n : ℕ). 3 + n) (ap length (told.reports_reworded r c) ∙ length-map (reports c) (reword_entry r))

  same_row : (cs : List Entry) → in_row (reword_entries r cs) ≡ in_row cs
  same_row cs = ap₂ (λ (a b : Bool). a && b) (same_ranked r ServerCommands cs) (same_once r cs)

  pub same_lawful : (m : Mode) (p : Press) (x : Content) → lawful4 m (reword_press r p) (reword_content r x) ≡ lawful4 m p x
  unfolding lawful4
  same_lawful m p x =
      let c = p.cards in
      let n = sync_ref c in
      ap
      (λ (k : ℕ). refs_fit (head4 p.session k) x.head
      && (counts_fit x.answered x.commanded x.answersend && (all_fit Side.Press (1 + k) (commands m (reword_cards r c)) (answers_in (reword_content r x)) && in_row (commands_in (reword_content r x)))))
      (same_ref c)
      ∙ ap₂ (λ (a b : Bool). refs_fit (head4 p.session n) x.head && (counts_fit x.answered x.commanded x.answersend && (a && b)))
      (ap₂ (all_fit Side.Press (1 + n)) (told.commands_reworded r m c) (answers_reworded r x) ∙ same_fit r Side.Press (1 + n) (commands m c) (answers_in x))
      (ap in_row (commands_reworded r x) ∙ same_row (commands_in x))

  abbrev pub reword_taken : Taken → Taken
  reword_taken t = record { cards = reword_cards r t.cards; statuses = reword_listing r t.statuses }

  pub taken_all_reworded : (ref : ℕ) (os : List Entry) (c : Cards) → taken_all ref (reword_entries r os) (reword_cards r c) ≡ reword_taken (taken_all ref os c)
  unfolding taken_all
  taken_all_reworded ref os c =
      ap₂ (λ (t : Cards) (l : Listing). record { cards = t; statuses = l })
      (order_map (reword_entry r) (reword_cards r) after_command after_command (told.after_command_reworded r) os c)
      (ap listing (replies_map (reword_entry r) (reword_cards r) after_command after_command (told.after_command_reworded r) (reword_entry r) answering answering (told.answering_reworded r) ref os c)
      ∙ listing_reworded r (replies answering after_command ref os c))

  taken_from_reworded : (m : Mode) (c : Cards) (x : Content) → taken_from m (reword_cards r c) (reword_content r x) ≡ reword_taken (taken_from m c x)
  taken_from_reworded m c x =
      ap₂ (taken_all (4 + x.answered)) (commands_reworded r x)
      (ap₂ (λ (cs xs : List Entry). marks_end m cs xs (reword_cards r c)) (told.commands_reworded r m c) (answers_reworded r x) ∙ told.marks_end_reworded r m (commands m c) (answers_in x) c)
      ∙ taken_all_reworded (4 + x.answered) (commands_in x) (marks_end m (commands m c) (answers_in x) c)

  sends_5_reworded : (p : Press) (x : Content) (t : Taken) → sends_pkg5 (reword_press r p) (reword_content r x) (reword_taken t) ≡ reword_took (sends_pkg5 p x t)
  sends_5_reworded p x t =
      ap (λ (l : Listing). taken (press_with (reword_cards r t.cards) p.anchor p.session Awaits.Six) (listed (head5 p.session (3 + x.answered)) (reword_listing r t.statuses) l))
      (listing_reworded r [])

  pub takes_4_reworded : (m : Mode) (p : Press) (x : Content) → press_takes4 m (reword_press r p) (reword_content r x) ≡ reword_took (press_takes4 m p x)
  unfolding press_takes4
  takes_4_reworded m p x =
      either p (checked (lawful4 m p x)) (sends_pkg5 p x (taken_from m p.cards x)) (ap checked (same_lawful m p x))
      (ap (sends_pkg5 (reword_press r p) (reword_content r x)) (taken_from_reworded m p.cards x) ∙ sends_5_reworded p x (taken_from m p.cards x))

  -- ---- Pkg 6
  pub takes_6_reworded : (p : Press) (x : Content) → press_takes6 (reword_press r p) (reword_content r x) ≡ reword_took (press_takes6 p x)
  unfolding press_takes6
  takes_6_reworded p x =
      either p (checked (refs_fit (head6 p.session) x.head)) (closed p) refl
      (ap₂ (λ (c : Cards) (y : Content). taken (press_with c p.session p.session Awaits.Nothing) y) (without_reports_reworded r p.cards) (no_package_lem r))

  -- ---- whatever is awaited
  does_reworded : (a : Awaits) (p : Press) (x : Content) → press_does a (reword_press r p) (reword_content r x) ≡ reword_took (press_does a p x)
  does_reworded Awaits.Nothing p x = refused_reworded p
  does_reworded Awaits.Two p x = takes_2_reworded p x
  does_reworded (Awaits.Four m) p x = takes_4_reworded m p x
  does_reworded Awaits.Six p x = takes_6_reworded p x

  replies_reworded : (pkg : ℕ) (t : Took) → press_replies pkg (reword_took t) ≡ reword_called_press r (press_replies pkg t)
  replies_reworded pkg t = cond_map (reword_called_press r) (eqb pkg 6) (record { side = t.press; says = done }) (sending t.press t.answer)

  pub press_judges_reworded : (p : Press) (x : Content) → press_judges (reword_press r p) (reword_content r x) ≡ reword_called_press r (press_judges p x)
  press_judges_reworded p x =
      let t = press_does p.awaits p x in
      refuse_map (reword_called_press r) (checked (awaited p.awaits p.session x.head)) (refusing 5 p) (press_ruled p x.head.pkg t) refl refl
      (ap (press_ruled (reword_press r p) x.head.pkg) (does_reworded p.awaits p x)
      ∙ refuse_map (reword_called_press r) t.check (refusing 8 p) (press_replies x.head.pkg t) refl refl (replies_reworded x.head.pkg t))
