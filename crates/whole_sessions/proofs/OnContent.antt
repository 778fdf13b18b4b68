-- Demand 3 on content, from the laws of the packages.
use Prim.Native.Nat.{◌+◌}
use mathlib.Core.Path.{◌≡◌, refl, sym, ap, ◌∙◌, subst}
use mathlib.Core.Bool.{false}
use mathlib.Core.List.{List}
use native.Mathlib.Omega.{arith}
use lib.Dec.{eqb}
use lib.ListN.{length, length-append}
use borrow.Author.Tests.{ne_eqb}
use Rattle.places.proofs.Every.{Every}
use Rattle.message.specs.declared.Content.{Content}
use Rattle.cards.specs.declared.Cards.{Cards}
use Rattle.records.specs.declared.Records.{Records}
use Rattle.records.specs.declared.Rule.{Rule}
use Rattle.course.specs.Course.{World, Turn, turn, Doing, goes}
use Rattle.course.specs.OnContent.{on_content}
use Rattle.demand3.specs.Demand3.{SessionsOnly, PressClosed, ServerClosed, NoSession, KeptCards, room_refused, Reached, NoRoomRefusal, at_once, after_breaks, RunsThrough, Keeps, Demand3OnContent}
use Rattle.demand3.proofs.PairLaws.{one_pair}
use Rattle.own_packages.proofs.Own.{pkg1, pkg2, pkg3, pkg4, pkg5, pkg6, press_at7, server6}
use Rattle.pairs.proofs.Invariant.{Invariant}
use Rattle.whole_sessions.proofs.PackageLaws.{Roomy, Same, Even, PackageLaws}
use Rattle.whole_sessions.proofs.Good.{mode_of}
use Rattle.whole_sessions.proofs.Hands.{course_good}
use Rattle.whole_sessions.proofs.Reached.{inv_kept, reached_good}
use Rattle.whole_sessions.proofs.Through.{six, can_start, w7, runs, written7, roomy}
use Rattle.whole_sessions.proofs.Along.{state_of, along_kept, along_ends, AlongOf, begins_along}
use Rattle.whole_sessions.proofs.InStep.{same_world, same_even, in_step, kept_cards}

module _ (Near : Cards → Records → Cards → Records → Type 0) (st : (rule : Rule) → PackageLaws rule Near) where
  -- ---- no session is ever refused
  runs_through : RunsThrough on_content room_refused
  runs_through w r closed l =
      let g = reached_good Near st w r in
      let left : eqb w.press.session 4294967295 ≡ false = ne_eqb w.press.session 4294967295 (λ e. omega (arith, l, e)) in
      let n = w.press.session + 1 in
      let m = mode_of w.press w.server in
      let c = w.press.cards in
      let s = w.server.records in
      let all = six (pkg1 n w.press.anchor) (pkg2 n w.server.link.anchor m) (pkg3 n m c) (pkg4 w.server.rule n m c s) (pkg5 w.server.rule n m c s) (pkg6 n) in
      let long : length (w7 Near st w g.now g.numbers closed left).written ≡ 6 + length w.written =
      ap length (written7 Near st w g.now g.numbers closed left) ∙ (let k = length-append w.written all in omega (arith, k)) in
      subst (λ (t : Turn Content). (t.refusal ≡ 0) × (length t.world.written ≡ 6 + length w.written) × PressClosed t.world × ServerClosed t.world) (sym (runs Near st w g.now g.numbers closed left)) (refl, long, refl, refl)

  -- ---- a course of broken sessions and then one that runs through, beside one session at once
  pub record Ended (again once : World Content) : Type 0 where
    pub inv_again : Invariant again.press.cards again.server.records
    pub inv_once : Invariant once.press.cards once.server.records
    pub same : Same again.press.cards again.server.records once.press.cards once.server.records
    pub even : Even once.press.cards once.server.records

  ended : (w : World Content) → Reached on_content room_refused w → NoSession w → (ds : List Doing) → Every SessionsOnly ds
      → (at_once on_content room_refused w).refusal ≡ 0 → (after_breaks on_content room_refused ds w).refusal ≡ 0 → NoRoomRefusal on_content room_refused w (at_once on_content room_refused w).world
      → Ended (after_breaks on_content room_refused ds w).world (at_once on_content room_refused w).world
  ended w reached none ds e p q x =
      let g = reached_good Near st w reached in
      let f = can_start 6 w p in
      let once = runs Near st w g.now g.numbers f.0 f.1 in
      let r : Roomy w.server.rule (mode_of w.press w.server) w.press.cards w.server.records = roomy Near st w g.now g.numbers f.0 f.1 (subst (λ (t : Turn Content). NoRoomRefusal on_content room_refused w t.world) once x) in
      let once' = w7 Near st w g.now g.numbers f.0 f.1 in
      let v = (goes on_content ds w).world in
      let k = course_good Near st (AlongOf Near st w g r) (along_kept Near st w.server.rule (state_of w) g.now r) ds e w (begins_along Near st w g r none) in
      let h = can_start 6 v q in
      let again = runs Near st v k.now.inv k.numbers h.0 h.1 in
      let kept = inv_kept Near st in
      subst (λ (t : Turn Content). Ended t.world (at_once on_content room_refused w).world) (sym again)
      (subst (λ (t : Turn Content). Ended (turn (w7 Near st v k.now.inv k.numbers h.0 h.1) 0).world t.world) (sym once)
      (record {
        inv_again = kept.at_7 v.server.rule tt 0 v.press.anchor v.server.link.anchor v.press.cards v.server.records k.now.inv;
        inv_once = kept.at_7 w.server.rule tt 0 w.press.anchor w.server.link.anchor w.press.cards w.server.records g.now;
        same = subst (λ (z : Rule). Same (press_at7 z (mode_of v.press v.server) v.press.cards v.server.records) (server6 z (mode_of v.press v.server) v.press.cards v.server.records) once'.press.cards once'.server.records) (sym k.rule)
            (along_ends Near st w.server.rule (state_of w) g.now r v.press.anchor v.server.link.anchor v.press.cards v.server.records k.now);
        even = (st w.server.rule).even (mode_of w.press w.server) w.press.cards w.server.records g.now r;
      }))

  -- ---- one session at once
  keeps : Keeps on_content room_refused
  keeps w reached none p x =
      let g = reached_good Near st w reached in
      let f = can_start 6 w p in
      let once = runs Near st w g.now g.numbers f.0 f.1 in
      let r : Roomy w.server.rule (mode_of w.press w.server) w.press.cards w.server.records = roomy Near st w g.now g.numbers f.0 f.1 (subst (λ (t : Turn Content). NoRoomRefusal on_content room_refused w t.world) once x) in
      let v = w7 Near st w g.now g.numbers f.0 f.1 in
      let m = mode_of w.press w.server in
      let inv : Invariant v.press.cards v.server.records = (inv_kept Near st).at_7 w.server.rule tt 0 w.press.anchor w.server.link.anchor w.press.cards w.server.records g.now in
      let even : Even v.press.cards v.server.records = (st w.server.rule).even m w.press.cards w.server.records g.now r in
      subst (λ (t : Turn Content). KeptCards w t.world) (sym once)
      (kept_cards w v g.now inv even ((st w.server.rule).kept m w.press.cards w.server.records g.now r) (in_step v inv even (one_pair v inv.formed inv.safe)))

  pub demand : Demand3OnContent
  demand =
      record {
        pairing = λ w r. let h = (reached_good Near st w r).now in one_pair w h.formed h.safe;
        runs_through = runs_through;
        converges = λ w r n ds e p q x. let k = ended w r n ds e p q x in same_world (after_breaks on_content room_refused ds w).world (at_once on_content room_refused w).world k.inv_again k.inv_once k.same;
        in_step = λ w r n ds e p q x.
            let k = ended w r n ds e p q x in
            let once = (at_once on_content room_refused w).world in
            let again = (after_breaks on_content room_refused ds w).world in (
              in_step once k.inv_once k.even (one_pair once k.inv_once.formed k.inv_once.safe),
              in_step again k.inv_again (same_even again.press.cards again.server.records once.press.cards once.server.records k.same k.even) (one_pair again k.inv_again.formed k.inv_again.safe),
            );
        keeps = keeps;
      }
