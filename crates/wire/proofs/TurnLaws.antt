-- A side that was called has made a turn of a course: what stands on the desk, on the wire and in the output is what the turn leaves. Assumes nothing.
use Prim.Native.Nat.{ℕ, ◌+◌, ◌≤◌}
use mathlib.Core.Path.{◌≡◌, refl, sym, ap, ap₂, ◌∙◌}
use mathlib.Core.Bool.{cond}
use mathlib.Core.List.{List, [], ◌∷◌, ◌++◌, append_assoc}
use native.Mathlib.Omega.{arith}
use lib.Dec.{eqb}
use lib.ListN.{length, take, drop, length-append, take-append-drop}
use lib.Seq.{sets, sets-eq, drop-append-le}
use borrow.Author.Tests.{ne_eqb}
use Rattle.places.proofs.Choice.{passed}
use Rattle.cards.specs.declared.Press.{Press}
use Rattle.records.specs.declared.Server.{Server}
use Rattle.calls.specs.After.{After}
use Rattle.press_calls.specs.Call.{press_start, press_takes}
use Rattle.server_calls.specs.Call.{server_takes}
use Rattle.course.specs.Course as course
use Rattle.course.specs.OnBytes.{heard, on_bytes}
use Rattle.course.proofs.LengthLaws.{said_into, Fits, ByLength, front_put, heard_says, start_by, press_by, server_by_lem}
use Rattle.course.proofs.TriesLaws.{tries_alone}
use Rattle.answers.specs.Said.{Said}
use Rattle.desk.specs.declared.Wire.{Wire}
use Rattle.desk.specs.declared.Desk.{Desk}
use Rattle.desk.specs.Desk.{Told}
use Rattle.desk.specs.Desk.{with_press, with_server, saying, message_on, world_of, held_after}
use Rattle.desk.proofs.DeskLaws.{held_same}
use Rattle.desk.specs.Lent.{longer, within}
use Rattle.wire.specs.Wire.{Moved, moved, lent_for, left_by, on_the_wire, answer, stepped, leaves, sent, from_press, from_server, to_press, to_server}

-- ---- a message at the front of a part, and of the whole
sets_longer : (m a b : List ℕ) → length m ≤ length a → sets a 0 m ++ b ≡ sets (a ++ b) 0 m
sets_longer m a b h =
    let more = length-append a b in
    ap (λ (l : List ℕ). l ++ b) (sets-eq m a 0 (omega (arith, h)))
    ∙ (append_assoc m (drop (0 + length m) a) b
    ∙ (ap (λ (l : List ℕ). m ++ l) (sym (drop-append-le (0 + length m) a b (omega (arith, h))))
    ∙ sym (sets-eq m (a ++ b) 0 (omega (arith, h, more)))))

part_longer : (k : ℕ) (m o : List ℕ) → length m ≤ length (take k o) → sets (take k o) 0 m ++ drop k o ≡ sets o 0 m
part_longer k m o h = sets_longer m (take k o) (drop k o) h ∙ ap (λ (l : List ℕ). sets l 0 m) (take-append-drop k o)

part_shorter : (k : ℕ) (o : List ℕ) → length (take k o) ≤ length o
part_shorter k o = let e = length-append (take k o) (drop k o) in let f = ap length (take-append-drop k o) in omega (arith, e, f)

take_none : (l : List ℕ) → take 0 l ≡ []
take_none [] = refl
take_none (x ∷ l) = refl

module _ (d : Desk) (w o : List ℕ) where
  abbrev pub read : course.Turn (List ℕ) → Moved
  read t = left_by (answer t) d w o t.world

  -- ---- a side was called with k bytes lent. `next` is the desk with that side, `says` the turn of a course that it makes
  module _ {S : Type 0} (next : S → Wire → Desk) (to : ℕ → Wire) (says : S → course.Says (List ℕ) → course.Turn (List ℕ)) where
    -- what a side says makes that turn
    record Makes : Type 0 where
      sends : (s : S) (m : List ℕ) → moved (saying (next s (to (length m))) (Said.Standing (length m))) (sets w 0 m) (sets o 0 m) ≡ read (says s (course.sends m))
      done : (s : S) → moved (saying (next s Wire.Empty) Said.Done) w o ≡ read (says s course.done)
      refuses : (s : S) (n : ℕ) → (n ≡ 0 → ⊥) → moved (saying (next s d.wire) (Said.Refused n)) w o ≡ read (says s (course.refuses n))

    abbrev from : After S → Moved
    from a = sent (next a.side) to d.wire w a.reply a.output

    module _ (makes : Makes) (k : ℕ) (p : S) (call : List ℕ → After S) (b : ByLength p call) where
      -- nothing is written
      same : (t : Told) → moved t (sets w 0 (take 0 (take k o ++ drop k o))) (take k o ++ drop k o) ≡ moved t w o
      same t = ap₂ (λ (l m : List ℕ). moved t (sets w 0 l) m) (take_none (take k o ++ drop k o)) (take-append-drop k o)

      made : (s : S) (x : course.Says (List ℕ)) → Fits p (length (take k o)) s x → from (longer (said_into (take k o) s x) (drop k o)) ≡ read (says s x)
      made s (course.sends m) f =
          let short = part_shorter k o in
          let t : Told = saying (next s (to (length m))) (Said.Standing (length m)) in
          ap (λ (l : List ℕ). moved t (sets w 0 (take (length m) l)) l) (part_longer k m o f)
          ∙ (ap (λ (l : List ℕ). moved t (sets w 0 l) (sets o 0 m)) (front_put m o (omega (arith, f, short))) ∙ makes.sends s m)
      made s course.done f = same (saying (next s Wire.Empty) Said.Done) ∙ makes.done s
      made s (course.refuses n) f = same (saying (next s d.wire) (Said.Refused n)) ∙ makes.refuses s n f.0

      turn : from (within call k o) ≡ read (says (heard (call (take k o))).side (heard (call (take k o))).says)
      turn =
          ap (λ (a : After S). from (longer a (drop k o))) (b.is (take k o))
          ∙ (made (b.says (length (take k o))).side (b.says (length (take k o))).says (b.fits (length (take k o)))
          ∙ sym (ap (λ (x : course.Called S (List ℕ)). read (says x.side x.says)) (heard_says p call b (take k o))))

  -- after a refusal the wire has what it had
  kept : (next : Wire → Desk) (x : Said) (n : ℕ) → (n ≡ 0 → ⊥) → moved (saying (next d.wire) (Said.Refused n)) w o ≡ moved (saying (next (held_after d.wire [] (message_on d.wire w))) (cond (eqb n 0) x (Said.Refused n))) w o
  kept next x n h = sym (ap₂ (λ (y : Wire) (z : Said). moved (saying (next y) z) w o) (held_same d.wire w) (passed (eqb n 0) x (Said.Refused n) (ne_eqb n 0 h)))

  abbrev press_turn : Press → course.Says (List ℕ) → course.Turn (List ℕ)
  press_turn p x = course.press_says (course.with_press (world_of d w) p) x

  abbrev server_turn : Server → course.Says (List ℕ) → course.Turn (List ℕ)
  server_turn s x = course.server_says (course.with_server (world_of d w) s) x

  pub press_turn_lem : (k : ℕ) (call : List ℕ → After Press) → ByLength d.press call → from_press d w (within call k o) ≡ read (course.press_called (world_of d w) (heard (call (take k o))))
  press_turn_lem k call b =
      turn (with_press d) (λ n. Wire.ToServer n) press_turn
      (record { sends = λ s m. refl; done = λ s. refl; refuses = λ s n h. kept (with_press d s) (on_the_wire (message_on d.wire w)) n h }) k d.press call b

  pub server_turn_lem : (k : ℕ) (call : List ℕ → After Server) → ByLength d.server call → from_server d w (within call k o) ≡ read (course.server_called (world_of d w) (heard (call (take k o))))
  server_turn_lem k call b =
      turn (with_server d) (λ n. Wire.ToPress n) server_turn
      (record { sends = λ s m. refl; done = λ s. refl; refuses = λ s n h. kept (with_server d s) (on_the_wire (message_on d.wire w)) n h }) k d.server call b

  -- ---- a start
  pub start_law : from_press d w (within (press_start d.press) (lent_for d w) o) ≡ leaves answer (course.alone course.start) d w o
  start_law =
      press_turn_lem (lent_for d w) (press_start d.press) (start_by d.press)
      ∙ sym (ap read (tries_alone (on_bytes (take (lent_for d w) o)) course.start (world_of d w)))

-- ---- a step: the wire's message is handed over
abbrev pub step_by : Wire → Desk → List ℕ → List ℕ → Moved
step_by Wire.Empty d w o = moved (saying d Said.Idle) w o
step_by (Wire.ToPress n) d w o = to_press d n w o
step_by (Wire.ToServer n) d w o = to_server d n w o

pub step_law : (d : Desk) (w o : List ℕ) → step_by d.wire d w o ≡ leaves (stepped d.wire) (course.alone course.step) d w o
step_law d w o = go d.wire ∙ sym (ap (λ (t : course.Turn (List ℕ)). left_by (stepped d.wire t) d w o t.world) (tries_alone (on_bytes (take (lent_for d w) o)) course.step (world_of d w)))
  where
    holding : Wire → Desk
    holding x = record { press = d.press; server = d.server; wire = x; lent = d.lent }

    go : (x : Wire) → step_by x (holding x) w o ≡ (let t = course.does (on_bytes (take (lent_for d w) o)) course.step (world_of (holding x) w) in left_by (stepped x t) (holding x) w o t.world)
    go Wire.Empty = refl
    go (Wire.ToPress n) = press_turn_lem (holding (Wire.ToPress n)) w o (lent_for d w) (press_takes d.press (take n w)) (press_by d.press (take n w))
    go (Wire.ToServer n) = server_turn_lem (holding (Wire.ToServer n)) w o (lent_for d w) (server_takes d.server (take n w)) (server_by_lem d.server (take n w))
