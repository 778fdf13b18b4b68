-- Power cuts. A side is what its store holds. A call reads the store and works; then it ends with two moments, and their order is a value here.
-- After a cut the side boots with what its store holds, and gives up the session that it may have had.
use Rattle.std.specs.Prelude.{ℕ, Bool, true, false, cond, List, [], ◌∷◌, eqb, take}
use Rattle.cards.specs.Press.{press_gives_up}
use Rattle.records.specs.Server.{server_gives_up}
use Rattle.course.specs.Course.{Sides, Wire, clear, to_server, to_press, World, with_press, with_server, off_wire, Step, press_adds, press_edits, press_deletes, server_adds, server_edits, server_deletes, set_rule, start, step, lose, press_give_up, server_give_up, handed, does}
use Rattle.demand3.specs.Demand3.{by_people}

-- ---- the two moments with which a call ends
pub data Moment : Type 0 where
  -- the side after the call stands in its store
  stores : Moment
  -- its answer is sent to the other side; or the person at the panel is told that the edit is done, with the card's number
  tells : Moment

-- ---- our order, and the other one
abbrev pub Order : Type 0
Order = List Moment

abbrev pub store_first : Order
store_first = stores ∷ tells ∷ []

abbrev pub tell_first : Order
tell_first = tells ∷ stores ∷ []

-- whether somebody was told
abbrev pub told : Order → Bool
told [] = false
told (stores ∷ o) = told o
told (tells ∷ o) = true

-- ---- what a moment makes of the world w; v is the world that the whole call leaves. (A message counts as written from the first moment on, sent or not.)
abbrev pub moment : {M : Type 0} → World M → Moment → World M → World M
moment v stores w = record { press = v.press; server = v.server; wire = w.wire; written = v.written }
moment v tells w = record { press = w.press; server = w.server; wire = v.wire; written = v.written }

abbrev pub moments : {M : Type 0} → World M → Order → World M → World M
moments v [] w = w
moments v (x ∷ o) w = moments v o (moment v x w)

-- ---- the side whose call a small step of a course is: an edit by people, the rule set, a start, the message on the wire taken
-- (No other step is a call, and nobody boots. A side whose power goes between two calls gives up, which is a small step by itself.)
pub data Caller : Type 0 where
  the_press : Caller
  the_server : Caller
  nobody : Caller

abbrev pub caller_of : {M : Type 0} → Step → Wire M → Caller
caller_of (press_adds t) x = the_press
caller_of (press_edits l t) x = the_press
caller_of (press_deletes l) x = the_press
caller_of (server_adds t) x = the_server
caller_of (server_edits g t) x = the_server
caller_of (server_deletes g) x = the_server
caller_of (set_rule rule) x = the_server
caller_of start x = the_press
caller_of step (to_press m) = the_press
caller_of step (to_server m) = the_server
caller_of step clear = nobody
caller_of lose x = nobody
caller_of press_give_up x = nobody
caller_of server_give_up x = nobody
caller_of (handed c) x = nobody

-- that side boots, and gives up
abbrev pub boots : {M : Type 0} → Caller → World M → World M
boots the_press w = with_press w (press_gives_up w.press)
boots the_server w = with_server w (server_gives_up w.server)
boots nobody w = w

-- ---- the wire while a call works: an edit leaves it alone; in a session's call it is empty, and the message that was taken is gone whatever comes of it
abbrev pub at_work : {M : Type 0} → Step → World M → World M
at_work x w = cond (by_people x) w (off_wire w)

-- the world that the whole call leaves; a refused call stores nothing and tells nothing
abbrev pub leaves : {M : Type 0} → Sides M → Step → World M → World M
leaves s x w = cond (eqb (does s x w).refusal 0) (does s x w).world (at_work x w)

-- ---- the power of that side is cut in the call x, after the first k moments of the order: 0, 1 or 2
abbrev pub cut_in : {M : Type 0} → Sides M → Order → ℕ → Step → World M → World M
cut_in s o k x w = boots (caller_of x w.wire) (moments (leaves s x w) (take k o) (at_work x w))
