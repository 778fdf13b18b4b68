-- The bench's state (docs/BENCH.md): one press and one server, a wire that is empty or holds one message, and the length of the output lent to each call.
use Rattle.std.specs.Prelude.{ℕ, ◌≡◌, List, [], ◌∷◌, length, take}
use Rattle.token.specs.Limit.{limit}
use Rattle.cards.specs.declared.Press.{Press}
use Rattle.cards.specs.Made.{Made}
use Rattle.cards.specs.Press.{fresh_press, press_fresh}
use Rattle.records.specs.declared.Server.{Server}
use Rattle.records.specs.Server.{fresh_server}
use Rattle.course.specs.Course as course
use Rattle.answers.specs.Said.{Said}
use Rattle.desk.specs.declared.Wire.{Wire}
use Rattle.desk.specs.declared.Wire.TheVariants.{Empty, ToPress, ToServer}
use Rattle.desk.specs.declared.Desk.{Desk}

-- what a command answers, and the state after it
pub record Told : Type 0 where
  pub said : Said
  pub desk : Desk

-- both sides fresh, the press as the station n, the wire empty, 32768 bytes lent
abbrev pub fresh_desk : ℕ → Desk
fresh_desk n = record { press = fresh_press n; server = fresh_server; wire = Empty; lent = limit }

-- one side after a command, and what is on the wire then
abbrev pub with_press : Desk → Press → Wire → Desk
with_press d p w = record { press = p; server = d.server; wire = w; lent = d.lent }

abbrev pub with_server : Desk → Server → Wire → Desk
with_server d s w = record { press = d.press; server = s; wire = w; lent = d.lent }

abbrev pub lending : Desk → ℕ → Desk
lending d n = record { press = d.press; server = d.server; wire = d.wire; lent = n }

abbrev pub saying : Desk → Said → Told
saying d s = record { said = s; desk = d }

-- `fresh N`: `ok`, or the refusal of such a press (02, 5), and then everything is as it was
abbrev pub made_told : Desk → ℕ → Made → Told
made_told d n Made.Done = saying (fresh_desk n) Said.Yes
made_told d n (Made.Refused k) = saying d (Said.Refused k)

abbrev pub fresh_told : Desk → ℕ → Told
fresh_told d n = made_told d n (press_fresh n).outcome

-- ---- the desk as a world of a course (course, Course.antt), where a message is bytes: the one on the wire is the first bytes of its buffer b
abbrev pub message_on : Wire → List ℕ → course.Wire (List ℕ)
message_on Empty b = course.clear
message_on (ToPress n) b = course.to_press (take n b)
message_on (ToServer n) b = course.to_server (take n b)

-- no package is written yet
abbrev pub world_of : Desk → List ℕ → course.World (List ℕ)
world_of d b = record { press = d.press; server = d.server; wire = message_on d.wire b; written = [] }

-- ---- and the desk after some small steps of a course from there
abbrev pub held_now : course.Wire (List ℕ) → Wire
held_now course.clear = Empty
held_now (course.to_press m) = ToPress (length m)
held_now (course.to_server m) = ToServer (length m)

-- where no package was written, the wire holds what it held before, or nothing
abbrev pub held_after : Wire → List (List ℕ) → course.Wire (List ℕ) → Wire
held_after before [] course.clear = Empty
held_after before [] (course.to_press m) = before
held_after before [] (course.to_server m) = before
held_after before (x ∷ xs) now = held_now now

abbrev pub desk_after : Desk → course.World (List ℕ) → Desk
desk_after d w = record { press = w.press; server = w.server; wire = held_after d.wire w.written w.wire; lent = d.lent }

-- small steps that call no side make the desk d the desk r, with whatever sides and whatever bytes in the wire's buffer
abbrev pub Becomes : Desk → course.Doing → Desk → Type 0
Becomes d x r = (s : course.Sides (List ℕ)) (b : List ℕ) → r ≡ desk_after d (course.tries s x (world_of d b)).world
