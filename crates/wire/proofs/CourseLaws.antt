-- Commands of several small steps: a start and steps one by one, and a session that is broken off. Assumes nothing.
use Prim.Native.Nat.{ℕ, zero, suc, ◌+◌, ◌-◌, ◌≤◌, min}
use Rattle.std.specs.Prelude.{Ok}
use mathlib.Core.Path.{◌≡◌, refl, sym, ap, ◌∙◌, subst}
use mathlib.Core.Bool.{Bool, true, false, cond, false≢true}
use mathlib.Core.List.{List, [], ◌∷◌, ◌++◌}
use native.Mathlib.Omega.{arith}
use lib.Dec.{eqb}
use lib.ListN.{length, take, length-take}
use lib.Seq.{sets, length-sets}
use borrow.Author.Tests.{ne_eqb}
use Rattle.places.proofs.Choice.{chosen, passed}
use Rattle.cards.specs.declared.Press.{Press}
use Rattle.cards.specs.Press.{press_gives_up}
use Rattle.records.specs.declared.Server.{Server}
use Rattle.records.specs.Server.{server_gives_up}
use Rattle.calls.specs.After.{After}
use Rattle.press_calls.specs.Call.{press_start, press_takes}
use Rattle.server_calls.specs.Call.{server_takes}
use Rattle.course.specs.Course as course
use Rattle.course.specs.OnBytes.{heard, on_bytes}
use Rattle.course.proofs.LengthLaws.{Fits, ByLength, front_put, heard_says, start_by, press_by, server_by_lem, on_bytes_by_length}
use Rattle.course.proofs.TriesLaws.{tries_alone, tries_append}
use Rattle.answers.specs.Said.{Said}
use Rattle.answers.specs.declared.Answer.{Answer}
use Rattle.answers.specs.Said.{said_as, is_message, is_refused}
use Rattle.desk.specs.declared.Wire.{Wire}
use Rattle.desk.specs.declared.Desk.{Desk}
use Rattle.desk.specs.Desk.{Told}
use Rattle.desk.specs.Desk.{saying, world_of, desk_after, Becomes}
use Rattle.desk.specs.Lent.{at_most}
use Rattle.desk.proofs.DeskLaws.{held_more, held_none}
use Rattle.desk.proofs.LentLaws.{at_most_room}
use Rattle.wire.specs.Wire.{Moved, moved, lent_for, tried, laid, left_by, on_the_wire, unless_refused, answer, stepped, agreed, leaves}
use Rattle.wire.proofs.TurnLaws.{read}

-- ---- messages laid over the front
laid_more : (ms : List (List ℕ)) (m b : List ℕ) → laid (ms ++ (m ∷ [])) b ≡ sets (laid ms b) 0 m
laid_more [] m b = refl
laid_more (a ∷ ms) m b = laid_more ms m (sets b 0 a)

length_laid : (ms : List (List ℕ)) (b : List ℕ) → length (laid ms b) ≡ length b
length_laid [] b = refl
length_laid (m ∷ ms) b = length_laid ms (sets b 0 m) ∙ length-sets b 0 m

same_part : (k : ℕ) (a b : List ℕ) → length a ≡ length b → length (take k a) ≡ length (take k b)
same_part k a b e = length-take k a ∙ (ap (min k) e ∙ sym (length-take k b))

-- ---- what is said is no longer than n
abbrev pub Small : ℕ → course.Says (List ℕ) → Type 0
Small n (course.sends m) = length m ≤ n
Small n course.done = Unit {0}
Small n (course.refuses k) = k ≡ 0 → ⊥

small_of : {S : Type 0} (p : S) (n k : ℕ) (s : S) (x : course.Says (List ℕ)) → n ≤ k → Fits p n s x → Small k x
small_of p n k s (course.sends m) h f = omega (arith, h, f)
small_of p n k s course.done h f = tt
small_of p n k s (course.refuses i) h f = f.0

pub heard_small : {S : Type 0} (p : S) (call : List ℕ → After S) → ByLength p call → (out : List ℕ) (k : ℕ) → length out ≤ k → Small k (heard (call out)).says
heard_small {S} p call b out k h =
    subst (λ (c : course.Called S (List ℕ)). Small k c.says) (sym (heard_says p call b out)) (small_of p (length out) k (b.says (length out)).side (b.says (length out)).says h (b.fits (length out)))

-- ---- the steps that are left: up to the first that brings no message
pub step_from : Moved → Moved
step_from m = leaves (stepped m.told.desk.wire) (course.alone course.step) m.told.desk m.wire m.out

pub go_on : ℕ → Moved → Moved
go_on zero m = m
go_on (suc k) m = cond (is_message m.told.said) (go_on k (step_from m)) m

module _ (m : Moved) where
  pub go_stop : (k : ℕ) → is_message m.told.said ≡ false → go_on k m ≡ m
  unfolding go_on
  go_stop zero e = refl
  go_stop (suc k) e = passed (is_message m.told.said) (go_on k (step_from m)) m e

  pub go_end : (left : ℕ) → left ≤ 0 → go_on left m ≡ m
  unfolding go_on
  go_end left h = let none : left ≡ 0 = omega arith in ap (λ (k : ℕ). go_on k m) none

  pub go_step : (left k : ℕ) (next : Moved) → left ≡ k + 1 → is_message m.told.said ≡ true
      → next ≡ leaves (stepped m.told.desk.wire) (course.alone course.step) m.told.desk m.wire m.out
      → go_on k next ≡ go_on left m
  unfolding go_on step_from
  go_step left k next h e s =
      let more : left ≡ suc k = omega (arith, h) in
      ap (go_on k) s
      ∙ sym (ap (λ (k : ℕ). go_on k m) more ∙ chosen (is_message m.told.said) (go_on k (step_from m)) m e)

-- ---- whether the code's answer is a message
pub standing_is : (a : Answer) {n : ℕ} → a ≡ Answer.Standing n → is_message (said_as (Ok a)) ≡ true
standing_is a e = rw e

pub other_is : (a : Answer) → ((n : ℕ) → a ≡ Answer.Standing n → ⊥) → is_message (said_as (Ok a)) ≡ false
other_is Answer.Yes h = refl
other_is (Answer.Number n) h = refl
other_is (Answer.Standing n) h = absurd (h n refl)
other_is Answer.Done h = refl
other_is Answer.Idle h = refl
other_is Answer.Unknown h = refl

-- and none is a refusal
pub answer_is : (a : Answer) → is_refused (said_as (Ok a)) ≡ false
answer_is Answer.Yes = refl
answer_is (Answer.Number n) = refl
answer_is (Answer.Standing n) = refl
answer_is Answer.Done = refl
answer_is Answer.Idle = refl
answer_is Answer.Unknown = refl

-- ---- a course from the desk d
module _ (d : Desk) (w o : List ℕ) where
  abbrev pub sides : course.Sides (List ℕ)
  sides = on_bytes (take (lent_for d w) o)

  pub part_most : length (take (lent_for d w) o) ≤ length w
  part_most = let e = length-take (lent_for d w) o in let h = at_most_room d.lent (length w) in omega (arith, e, h)

  -- the message on the wire is the last one written, and has room in the wire's buffer
  abbrev pub for_server : Press → Server → List (List ℕ) → List ℕ → course.World (List ℕ)
  for_server p s ms m = record { press = p; server = s; wire = course.to_server m; written = ms ++ (m ∷ []) }

  abbrev pub for_press : Press → Server → List (List ℕ) → List ℕ → course.World (List ℕ)
  for_press p s ms m = record { press = p; server = s; wire = course.to_press m; written = ms ++ (m ∷ []) }

  data OnIts : course.World (List ℕ) → Type 0 where
    its_server : (p : Press) (s : Server) (ms : List (List ℕ)) (m : List ℕ) → length m ≤ length w → OnIts (for_server p s ms m)
    its_press : (p : Press) (s : Server) (ms : List (List ℕ)) (m : List ℕ) → length m ≤ length w → OnIts (for_press p s ms m)

  module _ (p : Press) (s : Server) (ms : List (List ℕ)) (m : List ℕ) (f : length m ≤ length w) where
    -- all that was written, and where it lies
    abbrev ws : List (List ℕ)
    ws = ms ++ (m ∷ [])

    abbrev desk_with : Wire → Desk
    desk_with x = record { press = p; server = s; wire = x; lent = d.lent }

    pub front : take (length m) (laid ws w) ≡ m
    front = let e = length_laid ms w in ap (take (length m)) (laid_more ms m w) ∙ front_put m (laid ms w) (omega (arith, e, f))

    same_sides : (x : Wire) → on_bytes (take (lent_for (desk_with x) (laid ws w)) (laid ws o)) ≡ sides
    same_sides x =
        on_bytes_by_length (take (lent_for (desk_with x) (laid ws w)) (laid ws o)) (take (lent_for d w) o)
        (ap (λ (n : ℕ). length (take (at_most d.lent n) (laid ws o))) (length_laid ws w) ∙ same_part (lent_for d w) (laid ws o) o (length_laid ws o))

    -- a step from there: the desk has the last message, its buffer and the output hold it
    abbrev step_with : Wire → course.Wire (List ℕ) → course.Sides (List ℕ) → Moved
    step_with x y z =
        let t = course.does z course.step (record { press = p; server = s; wire = y; written = [] }) in
        left_by (answer t) (desk_with x) (laid ws w) (laid ws o) t.world

    again_server : step_from (read d w o (course.turn (for_server p s ms m) 0)) ≡ read d w o (course.does sides course.step (for_server p s ms m))
    unfolding step_from
    again_server =
        ap (λ (x : Wire). leaves (stepped x) (course.alone course.step) (desk_with x) (laid ws w) (laid ws o)) (held_more d.wire ms m (course.to_server m))
        ∙ (ap (λ (t : course.Turn (List ℕ)). left_by (answer t) (desk_with (Wire.ToServer (length m))) (laid ws w) (laid ws o) t.world) (tries_alone (on_bytes (take (lent_for (desk_with (Wire.ToServer (length m))) (laid ws w)) (laid ws o))) course.step (world_of (desk_with (Wire.ToServer (length m))) (laid ws w)))
        ∙ (ap (λ (l : List ℕ). step_with (Wire.ToServer (length m)) (course.to_server l) (on_bytes (take (lent_for (desk_with (Wire.ToServer (length m))) (laid ws w)) (laid ws o)))) front
        ∙ (ap (step_with (Wire.ToServer (length m)) (course.to_server m)) (same_sides (Wire.ToServer (length m)))
        ∙ go (sides.server_takes s m).side (sides.server_takes s m).says)))
      where
        go : (s' : Server) (x : course.Says (List ℕ))
            → (let t = course.server_says (record { press = p; server = s'; wire = course.to_server m; written = [] }) x in left_by (answer t) (desk_with (Wire.ToServer (length m))) (laid ws w) (laid ws o) t.world)
            ≡ read d w o (course.server_says (record { press = p; server = s'; wire = course.to_server m; written = ws }) x)
        go s' (course.sends n) = λ i. moved (saying (record { press = p; server = s'; wire = sym (held_more d.wire ws n (course.to_press n)) i; lent = d.lent }) (Said.Standing (length n))) (sym (laid_more ws n w) i) (sym (laid_more ws n o) i)
        go s' course.done = λ i. moved (saying (record { press = p; server = s'; wire = sym (held_more d.wire ms m course.clear) i; lent = d.lent }) Said.Done) (laid ws w) (laid ws o)
        go s' (course.refuses n) = λ i. moved (saying (record { press = p; server = s'; wire = sym (held_more d.wire ms m (course.to_server m)) i; lent = d.lent }) (unless_refused n (Said.Standing (length m)))) (laid ws w) (laid ws o)

    again_press : step_from (read d w o (course.turn (for_press p s ms m) 0)) ≡ read d w o (course.does sides course.step (for_press p s ms m))
    unfolding step_from
    again_press =
        ap (λ (x : Wire). leaves (stepped x) (course.alone course.step) (desk_with x) (laid ws w) (laid ws o)) (held_more d.wire ms m (course.to_press m))
        ∙ (ap (λ (t : course.Turn (List ℕ)). left_by (answer t) (desk_with (Wire.ToPress (length m))) (laid ws w) (laid ws o) t.world) (tries_alone (on_bytes (take (lent_for (desk_with (Wire.ToPress (length m))) (laid ws w)) (laid ws o))) course.step (world_of (desk_with (Wire.ToPress (length m))) (laid ws w)))
        ∙ (ap (λ (l : List ℕ). step_with (Wire.ToPress (length m)) (course.to_press l) (on_bytes (take (lent_for (desk_with (Wire.ToPress (length m))) (laid ws w)) (laid ws o)))) front
        ∙ (ap (step_with (Wire.ToPress (length m)) (course.to_press m)) (same_sides (Wire.ToPress (length m)))
        ∙ go (sides.press_takes p m).side (sides.press_takes p m).says)))
      where
        go : (p' : Press) (x : course.Says (List ℕ))
            → (let t = course.press_says (record { press = p'; server = s; wire = course.to_press m; written = [] }) x in left_by (answer t) (desk_with (Wire.ToPress (length m))) (laid ws w) (laid ws o) t.world)
            ≡ read d w o (course.press_says (record { press = p'; server = s; wire = course.to_press m; written = ws }) x)
        go p' (course.sends n) = λ i. moved (saying (record { press = p'; server = s; wire = sym (held_more d.wire ws n (course.to_server n)) i; lent = d.lent }) (Said.Standing (length n))) (sym (laid_more ws n w) i) (sym (laid_more ws n o) i)
        go p' course.done = λ i. moved (saying (record { press = p'; server = s; wire = sym (held_more d.wire ms m course.clear) i; lent = d.lent }) Said.Done) (laid ws w) (laid ws o)
        go p' (course.refuses n) = λ i. moved (saying (record { press = p'; server = s; wire = sym (held_more d.wire ms m (course.to_press m)) i; lent = d.lent }) (unless_refused n (Said.Standing (length m)))) (laid ws w) (laid ws o)

  -- on a clear wire nothing is handed over
  clear_stays : (k : ℕ) (p : Press) (s : Server) (ms : List (List ℕ))
      → course.tries sides (course.handings k) (record { press = p; server = s; wire = course.clear; written = ms }) ≡ course.turn (record { press = p; server = s; wire = course.clear; written = ms }) 0
  unfolding course.tries
  clear_stays zero p s ms = refl
  clear_stays (suc k) p s ms = clear_stays k p s ms

  -- ---- the steps that are left are those of the course
  abbrev Goes : ℕ → Type 0
  Goes k = (v : course.World (List ℕ)) → OnIts v → go_on k (read d w o (course.turn v 0)) ≡ read d w o (course.tries sides (course.handings k) v)

  refused_stops : (k : ℕ) (u : course.World (List ℕ)) (n : ℕ) → (n ≡ 0 → ⊥)
      → go_on k (read d w o (course.turn u n)) ≡ read d w o (course.and_then (course.turn u n) (course.tries sides (course.handings k)))
  refused_stops k u n h =
      let e = ne_eqb n 0 h in
      go_stop (read d w o (course.turn u n)) k (ap is_message (passed (eqb n 0) (on_the_wire u.wire) (Said.Refused n) e))
      ∙ ap (read d w o) (sym (passed (eqb n 0) (course.tries sides (course.handings k) u) (course.turn u n) e))

  module _ (k : ℕ) (later : Goes k) (u : course.World (List ℕ)) where
    press_next : (x : course.Says (List ℕ)) → Small (length w) x
        → go_on k (read d w o (course.press_says u x)) ≡ read d w o (course.and_then (course.press_says u x) (course.tries sides (course.handings k)))
    press_next (course.sends m) f = later (course.on_wire u (course.to_server m) m) (its_server u.press u.server u.written m f)
    press_next course.done f = go_stop (read d w o (course.turn (course.off_wire u) 0)) k refl ∙ ap (read d w o) (sym (clear_stays k u.press u.server u.written))
    press_next (course.refuses n) f = refused_stops k u n f

    server_next : (x : course.Says (List ℕ)) → Small (length w) x
        → go_on k (read d w o (course.server_says u x)) ≡ read d w o (course.and_then (course.server_says u x) (course.tries sides (course.handings k)))
    server_next (course.sends m) f = later (course.on_wire u (course.to_press m) m) (its_press u.press u.server u.written m f)
    server_next course.done f = go_stop (read d w o (course.turn (course.off_wire u) 0)) k refl ∙ ap (read d w o) (sym (clear_stays k u.press u.server u.written))
    server_next (course.refuses n) f = refused_stops k u n f

  go_on_lem : (k : ℕ) → Goes k
  unfolding go_on course.tries
  go_on_lem zero v i = refl
  go_on_lem (suc k) v (its_server p s ms m f) =
      ap (go_on k) (again_server p s ms m f)
      ∙ server_next k (go_on_lem k) (course.with_server (for_server p s ms m) (sides.server_takes s m).side) (sides.server_takes s m).says
      (heard_small s (server_takes s m) (server_by_lem s m) (take (lent_for d w) o) (length w) part_most)
  go_on_lem (suc k) v (its_press p s ms m f) =
      ap (go_on k) (again_press p s ms m f)
      ∙ press_next k (go_on_lem k) (course.with_press (for_press p s ms m) (sides.press_takes p m).side) (sides.press_takes p m).says
      (heard_small p (press_takes p m) (press_by p m) (take (lent_for d w) o) (length w) part_most)

  pub course_law : (n : ℕ) → go_on (n - 1) (leaves answer (course.alone course.start) d w o) ≡ leaves answer (course.halted n) d w o
  unfolding course.tries
  course_law n =
      let c = sides.start d.press in
      ap (λ (t : course.Turn (List ℕ)). go_on (n - 1) (read d w o t)) (tries_alone sides course.start (world_of d w))
      ∙ press_next (n - 1) (go_on_lem (n - 1)) (course.with_press (world_of d w) c.side) c.says
      (heard_small d.press (press_start d.press) (start_by d.press) (take (lent_for d w) o) (length w) part_most)

  -- ---- a session that is broken off
  module _ (k : ℕ) where
    abbrev before : course.Turn (List ℕ)
    before = tried (course.halted k) d w o

    abbrev read_ok : course.Turn (List ℕ) → Moved
    read_ok t = left_by (agreed t) d w o t.world

    broken : read_ok (course.and_then before (course.tries sides course.cut)) ≡ leaves agreed (course.lost_at k) d w o
    broken = ap read_ok (sym (tries_append sides (course.halted k) course.cut (world_of d w)))

    -- refused: nothing is cut
    not_cut : is_refused (answer before) ≡ true → leaves answer (course.halted k) d w o ≡ leaves agreed (course.lost_at k) d w o
    not_cut e = go (eqb before.refusal 0) refl ∙ broken
      where
        not_message : (x : course.Wire (List ℕ)) → is_refused (on_the_wire x) ≡ false
        not_message course.clear = refl
        not_message (course.to_press m) = refl
        not_message (course.to_server m) = refl

        go : (b : Bool) → eqb before.refusal 0 ≡ b → read d w o before ≡ read_ok (course.and_then before (course.tries sides course.cut))
        go true q = absurd (false≢true (sym (not_message before.world.wire) ∙ (ap is_refused (sym (chosen (eqb before.refusal 0) (on_the_wire before.world.wire) (Said.Refused before.refusal) q)) ∙ e)))
        go false q =
            ap (λ (x : Said). left_by x d w o before.world) (passed (eqb before.refusal 0) (on_the_wire before.world.wire) (Said.Refused before.refusal) q ∙ sym (passed (eqb before.refusal 0) Said.Yes (Said.Refused before.refusal) q))
            ∙ ap read_ok (sym (passed (eqb before.refusal 0) (course.tries sides course.cut before.world) before q))

    -- otherwise the message is lost, and both sides give up
    is_cut : (r : Desk) → is_refused (answer before) ≡ false → Becomes (desk_after d before.world) course.cut r
        → moved (saying r Said.Yes) (laid before.world.written w) (laid before.world.written o) ≡ leaves agreed (course.lost_at k) d w o
    unfolding course.tries
    is_cut r e h = go (eqb before.refusal 0) refl ∙ broken
      where
        v : course.World (List ℕ)
        v = before.world

        there : r ≡ desk_after d (course.tries sides course.cut v).world
        there = h sides w ∙ ap (λ (x : Wire). record { press = press_gives_up v.press; server = server_gives_up v.server; wire = x; lent = d.lent }) (sym (held_none d.wire v.written))

        go : (b : Bool) → eqb before.refusal 0 ≡ b → moved (saying r Said.Yes) (laid v.written w) (laid v.written o) ≡ read_ok (course.and_then before (course.tries sides course.cut))
        go true q =
            ap (λ (x : Desk). moved (saying x Said.Yes) (laid v.written w) (laid v.written o)) there
            ∙ ap read_ok (sym (chosen (eqb before.refusal 0) (course.tries sides course.cut v) before q))
        go false q = absurd (false≢true (sym e ∙ ap is_refused (passed (eqb before.refusal 0) (on_the_wire v.wire) (Said.Refused before.refusal) q)))

    -- the same of what a session has left
    module _ (m : Moved) (e : m ≡ leaves answer (course.halted k) d w o) where
      pub breaks_refused : is_refused m.told.said ≡ true → m ≡ leaves agreed (course.lost_at k) d w o
      breaks_refused f = e ∙ not_cut (ap (λ (x : Moved). is_refused x.told.said) (sym e) ∙ f)

      pub breaks_cut : (r : Desk) (t : Told) → is_refused m.told.said ≡ false → Becomes m.told.desk course.cut r → t ≡ saying r Said.Yes
          → moved t m.wire m.out ≡ leaves agreed (course.lost_at k) d w o
      breaks_cut r t f b h =
          ap (λ (x : Told). moved x m.wire m.out) h
          ∙ (ap (λ (x : Moved). moved (saying r Said.Yes) x.wire x.out) e
          ∙ is_cut r (ap (λ (x : Moved). is_refused x.told.said) (sym e) ∙ f) (subst (λ (x : Moved). Becomes x.told.desk course.cut r) e b))
