-- Demand 3 on content is demand 3 on bytes: a course on bytes goes as the course on content does (course, CarriedLaws). And its first sentence, on both. Assumes nothing.
use Prim.Native.Nat.{ℕ, ◌+◌, ◌<◌, ◌≤◌}
use mathlib.Core.Path.{◌≡◌, refl, sym, ap, ◌∙◌, subst}
use mathlib.Core.Bool.{false, ◌||◌}
use mathlib.Core.List.{List, map}
use lib.ListN.{length, drop, length-map}
use Rattle.places.proofs.Choice.{never, or_neither}
use Rattle.places.proofs.MapLaws.{drop_map}
use Rattle.places.proofs.Every.{Every, every, every2, every_map_back, every_drop}
use Rattle.message.specs.declared.Content.{Content}
use Rattle.message.specs.Message.{limit}
use Rattle.sendable.specs.Sendable.{SendablePackage}
use Rattle.sendable.proofs.ReadLaws.{sent_kept}
use Rattle.sendable.proofs.SentLaws.{sent_reads_back}
use Rattle.calls.specs.After.{bytes_for}
use Rattle.course.specs.Course.{World, Wire, clear, to_server, to_press, fresh_world, Turn, Went, Step, hand_made, Doing, tries, full, goes}
use Rattle.course.specs.OnContent.{on_content}
use Rattle.course.specs.OnBytes.{on_bytes}
use Rattle.course.proofs.CarriedLaws.{step_well, wire_in_bytes, world_in_bytes, turn_in_bytes, WellWorld, Carried, StepWell, DoneWell, tries_carried, goes_carried, goes_well, fresh_well}
use Rattle.demand3.specs.Demand3.{by_people, Ours, SessionsOnly, PressClosed, ServerClosed, NoSession, both_closed, message_lost, OnePair, SameCards, InStep, room_refused, room_refused_as, room_refused_in, Reached, NoRoomRefusal, at_once, after_breaks, Pairing, RunsThrough, Demand3OnContent, Demand3OnBytes, KeptCards}
use Rattle.demand3.proofs.PairLaws.{one_pair}

-- ---- what was written, as bytes
same_room : (x : Content) → SendablePackage x → room_refused_in (bytes_for x) ≡ room_refused x
same_room x f = ap room_refused_as (sent_reads_back x f) ∙ ap room_refused (sent_kept x f)

no_room_back : (a b : List Content) → Every SendablePackage b → Every (λ m. room_refused_in m ≡ false) (drop (length (map bytes_for a)) (map bytes_for b)) → Every (λ x. room_refused x ≡ false) (drop (length a) b)
no_room_back a b f e =
    let n : length (map bytes_for a) ≡ length a = length-map a bytes_for in
    let k : Every (λ m. room_refused_in m ≡ false) (map bytes_for (drop (length a) b)) = subst (Every (λ m. room_refused_in m ≡ false)) (ap (λ (i : ℕ). drop i (map bytes_for b)) n ∙ drop_map bytes_for (length a) b) e in
    every2 SendablePackage (λ x. room_refused_in (bytes_for x) ≡ false) (λ x. room_refused x ≡ false) (λ x g h. sym (same_room x g) ∙ h) (drop (length a) b)
    (every_drop SendablePackage (length a) b f) (every_map_back bytes_for (λ m. room_refused_in m ≡ false) (drop (length a) b) k)

clear_back : (x : Wire Content) → wire_in_bytes x ≡ clear → x ≡ clear
clear_back clear e = refl
clear_back (to_server x) e = never (cc)
clear_back (to_press x) e = never (cc)

no_session_back : (w : World Content) → NoSession (world_in_bytes w) → NoSession w
no_session_back w (both_closed p s) = both_closed p s
no_session_back w (message_lost p e) = message_lost p (clear_back w.wire e)

-- ---- what people and the crew do
abbrev StepOurs : Step → Type 0
StepOurs x = hand_made x ≡ false

abbrev StepOfSession : Step → Type 0
StepOfSession x = (hand_made x || by_people x) ≡ false

ours_of : (d : Doing) → SessionsOnly d → Ours d
ours_of d e = every StepOfSession StepOurs (λ x h. (or_neither (hand_made x) (by_people x) h).0) d e

module _ (out : List ℕ) (room : limit ≤ length out) where
  done_well : (d : Doing) → Ours d → DoneWell out room d
  done_well d e = every StepOurs (StepWell out room) (step_well out room) d e

  all_well : (ds : List Doing) → Every Ours ds → Every (DoneWell out room) ds
  all_well ds e = every Ours (DoneWell out room) done_well ds e

  full_well : DoneWell out room full
  full_well = (tt, (tt, (tt, (tt, (tt, (tt, (tt, tt)))))))

  -- a world reached on content is well
  pub reached_well : (w : World Content) → Reached on_content room_refused w → WellWorld w
  reached_well w r = subst WellWorld r.there (goes_well out room r.course (all_well r.course r.ours) (fresh_world r.station) (fresh_well r.station r.numbered))

  -- a world reached on bytes is one reached on content, in bytes
  pub record Back (w : World (List ℕ)) : Type 0 where
    pub world : World Content
    pub reached : Reached on_content room_refused world
    pub well : WellWorld world
    pub same : world_in_bytes world ≡ w

  pub back : (w : World (List ℕ)) → Reached (on_bytes out) room_refused_in w → Back w
  back w r =
      let v = (goes on_content r.course (fresh_world r.station)).world in
      let k : Reached on_content room_refused v = record { station = r.station; numbered = r.numbered; course = r.course; ours = r.ours; there = refl } in
      record {
        world = v;
        reached = k;
        well = reached_well v k;
        same = sym (ap (λ (x : Went (List ℕ)). x.world) (goes_carried out room r.course (all_well r.course r.ours) (fresh_world r.station) (fresh_well r.station r.numbered))) ∙ r.there;
      }

  -- ---- each part, of a world on content in bytes
  module _ (w : World Content) (h : WellWorld w) where
    once_carried : Carried (at_once (on_bytes out) room_refused_in (world_in_bytes w)) (at_once on_content room_refused w)
    once_carried = tries_carried out room full full_well w h

    breaks_carried : (ds : List Doing) → Every SessionsOnly ds → Carried (after_breaks (on_bytes out) room_refused_in ds (world_in_bytes w)) (after_breaks on_content room_refused ds w)
    breaks_carried ds e =
        let f = all_well ds (every SessionsOnly Ours ours_of ds e) in
        let v = (goes on_content ds w).world in
        subst (λ (x : Went (List ℕ)). Carried (tries (on_bytes out) full x.world) (tries on_content full v)) (sym (goes_carried out room ds f w h))
        (tries_carried out room full full_well v (goes_well out room ds f w h))

  abbrev RunThrough : World (List ℕ) → Turn (List ℕ) → Type 0
  RunThrough w t = (t.refusal ≡ 0) × (length t.world.written ≡ 6 + length w.written) × PressClosed t.world × ServerClosed t.world

  runs : RunsThrough on_content room_refused → (w : World Content) → Reached on_content room_refused w → WellWorld w → PressClosed w → w.press.session < 4294967295
      → RunThrough (world_in_bytes w) (at_once (on_bytes out) room_refused_in (world_in_bytes w))
  runs d w r h c l =
      let k = d w r c l in
      let v = (at_once on_content room_refused w).world in
      let n : length (map bytes_for v.written) ≡ 6 + length (map bytes_for w.written) = length-map v.written bytes_for ∙ (k.1 ∙ ap (λ (i : ℕ). 6 + i) (sym (length-map w.written bytes_for))) in
      subst (RunThrough (world_in_bytes w)) (sym (once_carried w h).same) (k.0, n, k.2, k.3)

  -- what follows from a course that runs through with no room refusal, on content and on bytes
  abbrev Follows : (World (List ℕ) → World (List ℕ) → Type 0) → Turn (List ℕ) → Turn (List ℕ) → World (List ℕ) → Type 0
  Follows Q once again w = once.refusal ≡ 0 → again.refusal ≡ 0 → NoRoomRefusal (on_bytes out) room_refused_in w once.world → Q once.world again.world

  abbrev Claim : (World (List ℕ) → World (List ℕ) → Type 0) → World (List ℕ) → Type 0
  Claim Q w = NoSession w → (ds : List Doing) → Every SessionsOnly ds → Follows Q (at_once (on_bytes out) room_refused_in w) (after_breaks (on_bytes out) room_refused_in ds w) w

  carries : (Q : World (List ℕ) → World (List ℕ) → Type 0) (w : World Content) → WellWorld w → (ds : List Doing) → Every SessionsOnly ds
      → ((at_once on_content room_refused w).refusal ≡ 0 → (after_breaks on_content room_refused ds w).refusal ≡ 0
      → NoRoomRefusal on_content room_refused w (at_once on_content room_refused w).world
      → Q (world_in_bytes (at_once on_content room_refused w).world) (world_in_bytes (after_breaks on_content room_refused ds w).world))
      → Follows Q (at_once (on_bytes out) room_refused_in (world_in_bytes w)) (after_breaks (on_bytes out) room_refused_in ds (world_in_bytes w)) (world_in_bytes w)
  carries Q w h ds e k =
      let a = once_carried w h in
      let b = breaks_carried w h ds e in
      let once = at_once on_content room_refused w in
      let again = after_breaks on_content room_refused ds w in
      let there : Follows Q (turn_in_bytes once) (turn_in_bytes again) (world_in_bytes w) = λ p q x.
      k p q (no_room_back w.written once.world.written a.well.written x) in
      subst (λ (t : Turn (List ℕ)). Follows Q t (after_breaks (on_bytes out) room_refused_in ds (world_in_bytes w)) (world_in_bytes w)) (sym a.same)
      (subst (λ (t : Turn (List ℕ)). Follows Q (turn_in_bytes once) t (world_in_bytes w)) (sym b.same) there)

  abbrev KeepsAt : World (List ℕ) → Turn (List ℕ) → Type 0
  KeepsAt w t = t.refusal ≡ 0 → NoRoomRefusal (on_bytes out) room_refused_in w t.world → KeptCards w t.world

  same_cards_lem : (v w : World Content) → SameCards v w → SameCards (world_in_bytes v) (world_in_bytes w)
  same_cards_lem v w k = record { at_press = k.at_press; at_server = k.at_server }

  in_step_as : (w : World Content) → InStep w → InStep (world_in_bytes w)
  in_step_as w k =
      record {
        pairs = record { one_press_card = k.pairs.one_press_card; one_server_card = k.pairs.one_server_card; one_place = k.pairs.one_place; one_record = k.pairs.one_record };
        from_press_lem = k.from_press_lem;
        from_server_lem = k.from_server_lem;
        no_delete_mark = k.no_delete_mark;
        no_deleted = k.no_deleted;
      }

  -- what stood at one side alone, in bytes and back
  kept_as_lem : (w v : World Content) → KeptCards w v → KeptCards (world_in_bytes w) (world_in_bytes v)
  kept_as_lem w v k =
      record {
        from_press_lem = λ l t o. k.from_press_lem l t (record { card = o.card; stands = o.stands; wording = o.wording; added = o.added; unpaired = o.unpaired });
        from_server_lem = λ g t o. k.from_server_lem g t (record { stands = o.stands; unreported = o.unreported });
      }

  keeps_in_bytes : (w : World Content) → WellWorld w
      → ((at_once on_content room_refused w).refusal ≡ 0 → NoRoomRefusal on_content room_refused w (at_once on_content room_refused w).world → KeptCards w (at_once on_content room_refused w).world)
      → KeepsAt (world_in_bytes w) (at_once (on_bytes out) room_refused_in (world_in_bytes w))
  keeps_in_bytes w h k =
      let a = once_carried w h in
      let once = at_once on_content room_refused w in
      subst (KeepsAt (world_in_bytes w)) (sym a.same) (λ p x. kept_as_lem w once.world (k p (no_room_back w.written once.world.written a.well.written x)))

  -- ---- "No server card is ever paired with two press cards, nor the reverse"
  pub pairing_on_bytes : Pairing (on_bytes out) room_refused_in
  pairing_on_bytes w r = let b = back w r in subst (λ (v : World (List ℕ)). OnePair v) b.same (one_pair (world_in_bytes b.world) b.well.press.formed b.well.server.records.safe)

  -- ---- the whole demand
  pub on_bytes_lem : Demand3OnContent → Demand3OnBytes out
  on_bytes_lem d =
      record {
        pairing = pairing_on_bytes;
        runs_through = λ w r. runs_at w (back w r);
        converges = λ w r. converges_at w (back w r);
        in_step = λ w r. in_step_at w (back w r);
        keeps = λ w r. keeps_at w (back w r);
      }
    where
      runs_at : (w : World (List ℕ)) → Back w → PressClosed w → w.press.session < 4294967295 → RunThrough w (at_once (on_bytes out) room_refused_in w)
      runs_at w b = subst (λ (v : World (List ℕ)). PressClosed v → v.press.session < 4294967295 → RunThrough v (at_once (on_bytes out) room_refused_in v)) b.same (runs d.runs_through b.world b.reached b.well)

      converges_at : (w : World (List ℕ)) → Back w → Claim (λ once again. SameCards again once) w
      converges_at w b =
          subst (Claim (λ once again. SameCards again once)) b.same
          (λ c ds e. carries (λ once again. SameCards again once) b.world b.well ds e
          (λ p q x. same_cards_lem (after_breaks on_content room_refused ds b.world).world (at_once on_content room_refused b.world).world
          (d.converges b.world b.reached (no_session_back b.world c) ds e p q x)))

      in_step_at : (w : World (List ℕ)) → Back w → Claim (λ once again. InStep once × InStep again) w
      in_step_at w b =
          subst (Claim (λ once again. InStep once × InStep again)) b.same
          (λ c ds e. carries (λ once again. InStep once × InStep again) b.world b.well ds e
          (λ p q x. let k = d.in_step b.world b.reached (no_session_back b.world c) ds e p q x in
          (in_step_as (at_once on_content room_refused b.world).world k.0, in_step_as (after_breaks on_content room_refused ds b.world).world k.1)))

      keeps_at : (w : World (List ℕ)) → Back w → NoSession w → KeepsAt w (at_once (on_bytes out) room_refused_in w)
      keeps_at w b =
          subst (λ (v : World (List ℕ)). NoSession v → KeepsAt v (at_once (on_bytes out) room_refused_in v)) b.same
          (λ c. keeps_in_bytes b.world b.well (λ p x. d.keeps b.world b.reached (no_session_back b.world c) p x))
