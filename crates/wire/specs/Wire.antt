-- Messages on the wire (docs/BENCH.md: start, step, run, break). Each command is some small steps of a course (course, Course.antt).
use Rattle.std.specs.Prelude.{ℕ, cond, List, [], ◌∷◌, eqb, length, take}
use Rattle.std.proofs.lemmas.List.Edits.{sets}
use Rattle.cards.specs.declared.Press.{Press}
use Rattle.records.specs.declared.Server.{Server}
use Rattle.calls.specs.Reply.{Reply}
use Rattle.calls.specs.After.{After}
use Rattle.press_calls.specs.Call.{press_takes}
use Rattle.server_calls.specs.Call.{server_takes}
use Rattle.course.specs.Course as course
use Rattle.course.specs.OnBytes.{on_bytes}
use Rattle.answers.specs.Said.{Said}
use Rattle.desk.specs.declared.Wire.{Wire}
use Rattle.desk.specs.declared.Desk.{Desk}
use Rattle.desk.specs.Desk.{Told}
use Rattle.desk.specs.Desk.{with_press, with_server, saying, world_of, desk_after}
use Rattle.desk.specs.Lent.{within, at_most, said_of}

-- what a command leaves: its answer with the state, the bytes of the wire's buffer, and the output's
pub record Moved : Type 0 where
  pub told : Told
  pub wire : List ℕ
  pub out : List ℕ

abbrev pub moved : Told → List ℕ → List ℕ → Moved
moved t w o = record { told = t; wire = w; out = o }

-- ---- a command: these small steps, up to the first refusal, from the desk d with w in the wire's buffer. Each is a public call on bytes with
-- the first bytes of the output o lent (one law, course's LengthLaws: only their number counts), and no more than the wire has room for
abbrev pub lent_for : Desk → List ℕ → ℕ
lent_for d w = at_most d.lent (length w)

abbrev pub tried : course.Doing → Desk → List ℕ → List ℕ → course.Turn (List ℕ)
tried x d w o = course.tries (on_bytes (take (lent_for d w) o)) x (world_of d w)

-- the messages that were written lie at the front of the wire's buffer and of the output, each over those before it
abbrev pub laid : List (List ℕ) → List ℕ → List ℕ
laid [] b = b
laid (m ∷ ms) b = laid ms (sets b 0 m)

-- what stands after it, with this answer
abbrev pub left_by : Said → Desk → List ℕ → List ℕ → course.World (List ℕ) → Moved
left_by s d w o v = moved (saying (desk_after d v) s) (laid v.written w) (laid v.written o)

-- ---- the answers. `refused N` at a refusal; otherwise the message that is on the wire then, or `done`
abbrev pub on_the_wire : course.Wire (List ℕ) → Said
on_the_wire course.clear = Said.Done
on_the_wire (course.to_press m) = Said.Standing (length m)
on_the_wire (course.to_server m) = Said.Standing (length m)

abbrev pub unless_refused : ℕ → Said → Said
unless_refused n s = cond (eqb n 0) s (Said.Refused n)

abbrev pub answer : course.Turn (List ℕ) → Said
answer t = unless_refused t.refusal (on_the_wire t.world.wire)

-- a step on an empty wire: `idle`
abbrev pub stepped : Wire → course.Turn (List ℕ) → Said
stepped Wire.Empty t = Said.Idle
stepped (Wire.ToPress n) t = answer t
stepped (Wire.ToServer n) t = answer t

-- a break: `ok`
abbrev pub agreed : course.Turn (List ℕ) → Said
agreed t = unless_refused t.refusal Said.Yes

-- ---- what a command leaves that answers so and does this
abbrev pub leaves : (course.Turn (List ℕ) → Said) → course.Doing → Desk → List ℕ → List ℕ → Moved
leaves say x d w o = let t = tried x d w o in left_by (say t) d w o t.world

-- ---- parts of it: a side has answered, in the output. Its message is now on the wire, for the other side; after `done` the wire is empty;
-- a refusal leaves it as it was
abbrev pub written_by : Reply → ℕ
written_by (Reply.Written n) = n
written_by Reply.Done = 0
written_by (Reply.Refused n) = 0

abbrev pub on_wire : Reply → Wire → Wire → Wire
on_wire (Reply.Written n) message before = message
on_wire Reply.Done message before = Wire.Empty
on_wire (Reply.Refused n) message before = before

-- `next` is the desk with that side and what is on the wire, `to` the wire with so many bytes for the other side
abbrev pub sent : (Wire → Desk) → (ℕ → Wire) → Wire → List ℕ → Reply → List ℕ → Moved
sent next to before w r o = moved (saying (next (on_wire r (to (written_by r)) before)) (said_of r)) (sets w 0 (take (written_by r) o)) o

abbrev pub from_press : Desk → List ℕ → After Press → Moved
from_press d w a = sent (with_press d a.side) (λ n. Wire.ToServer n) d.wire w a.reply a.output

abbrev pub from_server : Desk → List ℕ → After Server → Moved
from_server d w a = sent (with_server d a.side) (λ n. Wire.ToPress n) d.wire w a.reply a.output

-- the wire's n bytes are handed to a side
abbrev pub to_press : Desk → ℕ → List ℕ → List ℕ → Moved
to_press d n w o = from_press d w (within (press_takes d.press (take n w)) (lent_for d w) o)

abbrev pub to_server : Desk → ℕ → List ℕ → List ℕ → Moved
to_server d n w o = from_server d w (within (server_takes d.server (take n w)) (lent_for d w) o)
