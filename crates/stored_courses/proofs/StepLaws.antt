-- Each small step of a course, on what the stores hold: whole, or with the power cut in it. Assumes nothing.
use Prim.Native.Nat.{ℕ, zero, suc}
use mathlib.Core.Path.{◌≡◌, refl, sym, ap, subst, ◌∙◌}
use mathlib.Core.List.{List, []}
use lib.ListN.{length, take}
use Rattle.places.proofs.Choice.{passed}
use Rattle.calls.specs.Says.{Says, sends, done, refuses, Called}
use Rattle.calls.specs.After.{bytes_for}
use Rattle.cards.specs.declared.Press.{Press}
use Rattle.cards.specs.Press.{press_gives_up}
use Rattle.records.specs.declared.Server.{Server}
use Rattle.records.specs.Server.{server_gives_up}
use Rattle.press_edits.specs.Edited as press_edited
use Rattle.press_edits.specs.Edit.{press_add, press_edit, press_delete}
use Rattle.server_edits.specs.Edited as server_edited
use Rattle.server_edits.specs.Edit.{server_add, server_edit, server_delete}
use Rattle.press_calls.specs.Call.{press_start, press_takes}
use Rattle.server_calls.specs.Call.{server_takes}
use Rattle.image.specs.OnImage.{Result, did, refused, replied, untold, result_in}
use Rattle.press_image.specs.Image.{press_keeping}
use Rattle.press_image.specs.Standing as press
use Rattle.press_image.specs.Kept as atPress
use Rattle.press_sends.specs.InRange.{PressInRange}
use Rattle.server_image.specs.Image.{server_keeping}
use Rattle.server_image.specs.Standing as server
use Rattle.server_image.specs.Kept as atServer
use Rattle.server_sends.specs.InRange.{ServerInRange}
use Rattle.course.specs.Course.{Wire, clear, to_server, to_press, World, Turn, turn, with_press, with_server, off_wire, Step, press_adds, press_edits, press_deletes, server_adds, server_edits, server_deletes, set_rule, start, step, lose, press_give_up, server_give_up, handed, press_called, server_called, press_says, server_says, hands_over, press_refusal, server_refusal, said_refusal, does}
use Rattle.course.specs.OnBytes.{heard, on_bytes}
use Rattle.course.proofs.LengthLaws.{on_bytes_by_length}
use Rattle.power.specs.Power.{store_first, the_press, the_server, caller_of, moments, cut_in}
use Rattle.power.specs.WithCuts.{cut_after}
use Rattle.stored_courses.specs.OnStores.{Stands, Line, line, silent, press_part, server_part, quiet, line_at}
use Rattle.stored_courses.specs.Run.{Plant, line_of, Holds, Asked, of_press, of_server, press_closes, server_closes, by_the_way, wire_alone, asks, DoesAsked, Does, CutIn, Happens}
use Rattle.stored_courses.proofs.StoreLaws.{number_of, side_after, side_at, gave_up}
use Rattle.stored_courses.proofs.HonestLaws.{start_honest, press_honest, server_honest, AsTold, told_heard, PressTold, add_told, edit_told_lem, delete_told, ServerTold, record_add_told, record_edit_told, record_delete_told}
use Rattle.stored_courses.proofs.TurnLaws.{said_line, still_line, Seat, turn_of, IsCall, MayBeCut, goes_holds, cut_holds}

-- ---- the two seats
abbrev put_press : World (List ℕ) → Press → Line → World (List ℕ)
put_press w p l = record { press = p; server = w.server; wire = l.wire; written = l.written }

abbrev put_server : World (List ℕ) → Server → Line → World (List ℕ)
put_server w s l = record { press = w.press; server = s; wire = l.wire; written = l.written }

press_passed : (k : ℕ) (w : World (List ℕ)) (s t : Press) (v l : Line) → moments (put_press w s v) (take k store_first) (put_press w t l) ≡ put_press w (side_at zero k s t) (line_at zero k v l)
press_passed zero w s t v l = refl
press_passed (suc zero) w s t v l = refl
press_passed (suc (suc zero)) w s t v l = refl
press_passed (suc (suc (suc k))) w s t v l = refl

server_passed : (k : ℕ) (w : World (List ℕ)) (s t : Server) (v l : Line) → moments (put_server w s v) (take k store_first) (put_server w t l) ≡ put_server w (side_at zero k s t) (line_at zero k v l)
server_passed zero w s t v l = refl
server_passed (suc zero) w s t v l = refl
server_passed (suc (suc zero)) w s t v l = refl
server_passed (suc (suc (suc k))) w s t v l = refl

abbrev press_seat : Seat Press
press_seat =
    record {
      part = press_part;
      slots = λ p. p.press;
      other = λ p. p.server;
      side = λ w. w.press;
      put = put_press;
      caller = the_press;
      stands = λ p w h. h.press;
      holds = λ p q w s l h x o e. record { press = x; server = subst (λ (y : List ℕ). Stands server_keeping y w.server) (sym o) h.server; line = e };
      again = λ s. refl;
      booted = λ w s l. refl;
      passed = press_passed;
    }

abbrev server_seat : Seat Server
server_seat =
    record {
      part = server_part;
      slots = λ p. p.server;
      other = λ p. p.press;
      side = λ w. w.server;
      put = put_server;
      caller = the_server;
      stands = λ p w h. h.server;
      holds = λ p q w s l h x o e. record { press = subst (λ (y : List ℕ). Stands press_keeping y w.press) (sym o) h.press; server = x; line = e };
      again = λ s. refl;
      booted = λ w s l. refl;
      passed = server_passed;
    }

-- ---- turns of a course, as calls
module _ {S : Type 0} (t : Seat S) (w : World (List ℕ)) where
  quiet_turn : (r : Result S) (n : ℕ) (s : S) → AsTold (t.side w) r n s
      → turn (t.put w s (line_of w)) n ≡ turn (t.put w (side_after (t.side w) r) (line_at (number_of r) 2 (line_of w) (line_of w))) (number_of r)
  quiet_turn r n s e = λ i. turn (t.put w (e.1 i) (sym (still_line (number_of r) 2 (line_of w)) i)) (e.0 i)

  untold_turn : (r : Result S) (n : ℕ) (s : S) → AsTold (t.side w) r n s
      → turn (t.put w s (line_of w)) n ≡ turn (t.put w (side_after (t.side w) (untold r)) (line_at (number_of (untold r)) 2 (line_of w) (line_of w))) (number_of (untold r))
  untold_turn (did j q) n s e = quiet_turn (did 0 q) n s e
  untold_turn (refused j) n s e = quiet_turn (refused j) n s e

module _ (w : World (List ℕ)) where
  press_said_lem : (c : Called Press (List ℕ)) → press_called w c ≡ turn (put_press w c.side (line_at (said_refusal c.says) 2 (said_line press_part c.says (line_of w)) (line_of w))) (said_refusal c.says)
  press_said_lem c = go c.says
    where
      go : (m : Says (List ℕ)) → press_says (with_press w c.side) m ≡ turn (put_press w c.side (line_at (said_refusal m) 2 (said_line press_part m (line_of w)) (line_of w))) (said_refusal m)
      go (sends m) = refl
      go done = refl
      go (refuses n) = λ i. turn (put_press w c.side (sym (still_line n 2 (line_of w)) i)) n

  server_said_lem : (c : Called Server (List ℕ)) → server_called w c ≡ turn (put_server w c.side (line_at (said_refusal c.says) 2 (said_line server_part c.says (line_of w)) (line_of w))) (said_refusal c.says)
  server_said_lem c = go c.says
    where
      go : (m : Says (List ℕ)) → server_says (with_server w c.side) m ≡ turn (put_server w c.side (line_at (said_refusal m) 2 (said_line server_part m (line_of w)) (line_of w))) (said_refusal m)
      go (sends m) = refl
      go done = refl
      go (refuses n) = λ i. turn (put_server w c.side (sym (still_line n 2 (line_of w)) i)) n

-- ---- each small step is what it asks for
module _ (out : List ℕ) (w : World (List ℕ)) where
  abbrev Is : Step → Asked → Type 0
  Is x (of_press c) = IsCall press_seat c (length out) x w × MayBeCut press_seat c x w
  Is x (of_server c) = IsCall server_seat c (length out) x w × MayBeCut server_seat c x w
  Is x press_closes = does (on_bytes out) x w ≡ turn (with_press w (press_gives_up w.press)) 0
  Is x server_closes = does (on_bytes out) x w ≡ turn (with_server w (server_gives_up w.server)) 0
  Is x (by_the_way f) = (lent : List ℕ) → length lent ≡ length out → IsCall server_seat (quiet (result_in (f lent))) (length out) x w
  Is x wire_alone = does (on_bytes out) x w ≡ turn (off_wire w) 0

  press_told : (e : press_edited.Edited) → PressTold w.press e → turn (with_press w e.press) (press_refusal e.outcome) ≡ turn_of press_seat (quiet (λ p. atPress.edited e)) [] w
  press_told e h = quiet_turn press_seat w (atPress.edited e) (press_refusal e.outcome) e.press h

  press_untold : (e : press_edited.Edited) → PressTold w.press e → turn (with_press w e.press) (press_refusal e.outcome) ≡ turn_of press_seat (quiet (λ p. untold (atPress.edited e))) [] w
  press_untold e h = untold_turn press_seat w (atPress.edited e) (press_refusal e.outcome) e.press h

  server_told : (e : server_edited.Edited) → ServerTold w.server e → turn (with_server w e.server) (server_refusal e.outcome) ≡ turn_of server_seat (quiet (λ s. atServer.edited e)) [] w
  server_told e h = quiet_turn server_seat w (atServer.edited e) (server_refusal e.outcome) e.server h

  server_untold : (e : server_edited.Edited) → ServerTold w.server e → turn (with_server w e.server) (server_refusal e.outcome) ≡ turn_of server_seat (quiet (λ s. untold (atServer.edited e))) [] w
  server_untold e h = untold_turn server_seat w (atServer.edited e) (server_refusal e.outcome) e.server h

  module _ (pressed : PressInRange w.press) (served : ServerInRange w.server) where
    -- of an edit nothing more has to be known than its turn
    edited : {S : Type 0} (t : Seat S) (f : S → Result S) (x : Step) → ((o : List ℕ) → does (on_bytes o) x w ≡ turn_of t (quiet f) o w) → MayBeCut t (quiet f) x w → IsCall t (quiet f) (length out) x w × MayBeCut t (quiet f) x w
    edited t f x e m = (record { honest = λ o. tt; turned = λ o l. e o }, m)

    is : (x : Step) (y : Wire (List ℕ)) → w.wire ≡ y → Is x (asks x y)
    is (press_adds t) y e = edited press_seat _ (press_adds t) (λ o. press_told (press_add w.press t) (add_told w.press t)) (record { working = refl; called = refl })
    is (press_edits l t) y e = edited press_seat _ (press_edits l t) (λ o. press_untold (press_edit w.press l t) (edit_told_lem w.press l t)) (record { working = refl; called = refl })
    is (press_deletes l) y e = edited press_seat _ (press_deletes l) (λ o. press_untold (press_delete w.press l) (delete_told w.press l)) (record { working = refl; called = refl })
    is (server_adds t) y e = edited server_seat _ (server_adds t) (λ o. server_told (server_add w.server t) (record_add_told w.server t)) (record { working = refl; called = refl })
    is (server_edits g t) y e = edited server_seat _ (server_edits g t) (λ o. server_untold (server_edit w.server g t) (record_edit_told w.server g t)) (record { working = refl; called = refl })
    is (server_deletes g) y e = edited server_seat _ (server_deletes g) (λ o. server_untold (server_delete w.server g) (record_delete_told w.server g)) (record { working = refl; called = refl })
    is (set_rule rule) y e = edited server_seat _ (set_rule rule) (λ o. refl) (record { working = refl; called = refl })
    is start y e = (record { honest = λ o. start_honest w.press pressed o; turned = λ o l. press_said_lem w (heard (press_start w.press o)) }, record { working = refl; called = refl })
    is step (to_press m) e = (
      record { honest = λ o. press_honest w.press pressed o m; turned = λ o l. ap (hands_over (on_bytes o) w) e ∙ press_said_lem w (heard (press_takes w.press m o)) },
      record { working = refl; called = ap (caller_of step) e },
    )
    is step (to_server m) e = (
      record { honest = λ o. server_honest w.server served o m; turned = λ o l. ap (hands_over (on_bytes o) w) e ∙ server_said_lem w (heard (server_takes w.server m o)) },
      record { working = refl; called = ap (caller_of step) e },
    )
    is step clear e = ap (hands_over (on_bytes out) w) e ∙ (λ i. turn (record { press = w.press; server = w.server; wire = e i; written = w.written }) 0)
    is lose y e = refl
    is press_give_up y e = refl
    is server_give_up y e = refl
    is (handed c) y e = λ lent long.
        let a = server_takes w.server (bytes_for c) lent in
        record {
          honest = λ o. tt;
          turned = λ o l.
              (λ i. does (on_bytes_by_length o lent (l ∙ sym long) i) (handed c) w)
              ∙ quiet_turn server_seat w (replied a.reply a.side) (said_refusal (heard a).says) a.side (told_heard w.server a (server_honest w.server served lent (bytes_for c)));
        }

  module _ (p q : Plant) (h : Holds p w) where
    abbrev pub StepHolds : Step → ℕ → Type 0
    StepHolds x n = (n ≡ (does (on_bytes out) x w).refusal) × Holds q (does (on_bytes out) x w).world

    as_turn : (x : Step) (n : ℕ) (v : World (List ℕ)) → does (on_bytes out) x w ≡ turn v 0 → n ≡ 0 → Holds q v → StepHolds x n
    as_turn x n v e z k = subst (λ (t : Turn (List ℕ)). (n ≡ t.refusal) × Holds q t.world) (sym e) (z, k)

    asked_holds : (x : Step) (n : ℕ) (a : Asked) → Is x a → DoesAsked (length out) a p n q → StepHolds x n
    asked_holds x n (of_press c) i d = goes_holds press_seat c out x p q w i.0 h d.1 n d.0
    asked_holds x n (of_server c) i d = goes_holds server_seat c out x p q w i.0 h d.1 n d.0
    asked_holds x n press_closes i d =
        as_turn x n (with_press w (press_gives_up w.press)) i d.3
        (press_seat.holds p q w (press_gives_up w.press) (line_of w) h (gave_up press_part press_seat.again p.press q.press w.press h.press d.0) d.1 (d.2 ∙ h.line))
    asked_holds x n server_closes i d =
        as_turn x n (with_server w (server_gives_up w.server)) i d.3
        (server_seat.holds p q w (server_gives_up w.server) (line_of w) h (gave_up server_part server_seat.again p.server q.server w.server h.server d.0) d.1 (d.2 ∙ h.line))
    asked_holds x n (by_the_way f) i d = goes_holds server_seat (quiet (result_in (f d.out))) out x p q w (i d.out d.room) h d.other n d.goes
    asked_holds x n wire_alone i d =
        as_turn x n (off_wire w) i d.3
        (press_seat.holds p q w w.press (silent (line_of w)) h (subst (λ (s : List ℕ). Stands press_keeping s w.press) (sym d.0) h.press) d.1 (d.2 ∙ ap silent h.line))

    cut_asked : (x : Step) (k : ℕ) (a : Asked) → Is x a → CutIn (length out) k a p q → Holds q (cut_in (on_bytes out) store_first k x w)
    cut_asked x k (of_press c) i d = cut_holds press_seat c out x p q w i.0 h d.1 i.1 k d.0
    cut_asked x k (of_server c) i d = cut_holds server_seat c out x p q w i.0 h d.1 i.1 k d.0
    cut_asked x k press_closes i d = absurd d
    cut_asked x k server_closes i d = absurd d
    cut_asked x k (by_the_way f) i d = absurd d
    cut_asked x k wire_alone i d = absurd d

    known : (x : Step) → Is x (asks x w.wire)
    known x = is (press.standing_in_range h.press.image w.press h.press.stands) (server.standing_in_range h.server.image w.server h.server.stands) x w.wire refl

    pub step_holds : (x : Step) (n : ℕ) → Does (length out) x p n q → StepHolds x n
    step_holds x n d = asked_holds x n (asks x w.wire) (known x) (subst (λ (l : Line). DoesAsked (length out) (asks x l.wire) p n q) h.line d)

    pub cut_step_holds : (x : Step) (k : ℕ) → Happens (length out) (cut_after k x) p q → Holds q (cut_in (on_bytes out) store_first k x w)
    cut_step_holds x k d = cut_asked x k (asks x w.wire) (known x) (subst (λ (l : Line). CutIn (length out) k (asks x l.wire) p q) h.line d)
