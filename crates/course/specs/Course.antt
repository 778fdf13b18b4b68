-- A course: edits by people and sessions, whole or broken off, in small steps, and what becomes of the press and the server (01, "Edits by people", "Bench table").
-- It goes the same way whether a message is a content or bytes: M is what a message is.
use Rattle.std.specs.Prelude.{ℕ, ◌-◌, Bool, true, false, cond, List, [], ◌∷◌, ◌++◌, eqb, replicate}
use Rattle.terms.specs.declared.Luid.{Luid}
use Rattle.terms.specs.declared.Guid.{Guid}
use Rattle.cards.specs.declared.Press.{Press}
use Rattle.cards.specs.Press.{fresh_press, press_gives_up}
use Rattle.records.specs.declared.Rule.{Rule}
use Rattle.records.specs.declared.Server.{Server}
use Rattle.records.specs.Server.{fresh_server, server_gives_up, server_goes_by}
use Rattle.message.specs.declared.Content.{Content}
pub use Rattle.calls.specs.Says.{Says, sends, done, refuses, Called}
use Rattle.press_edits.specs.Edited as atPress
use Rattle.press_edits.specs.Edit.{press_add, press_edit, press_delete}
use Rattle.server_edits.specs.Edited as atServer
use Rattle.server_edits.specs.Edit.{server_add, server_edit, server_delete}

-- how the press starts a session, how each side takes a message, and the message that somebody else makes of a content
pub record Sides (M : Type 0) : Type 0 where
  pub start : Press → Called Press M
  pub press_takes : Press → M → Called Press M
  pub server_takes : Server → M → Called Server M
  pub by_hand : Content → M

-- ---- press and server, the wire with the package that is on its way, and all packages written so far
pub data Wire (M : Type 0) : Type 0 where
  clear : Wire M
  to_server : M → Wire M
  to_press : M → Wire M

pub record World (M : Type 0) : Type 0 where
  pub press : Press
  pub server : Server
  pub wire : Wire M
  pub written : List M

-- two fresh sides, the press as this station
abbrev pub fresh_world : {M : Type 0} → ℕ → World M
fresh_world station = record { press = fresh_press station; server = fresh_server; wire = clear; written = [] }

abbrev pub with_press : {M : Type 0} → World M → Press → World M
with_press w p = record { press = p; server = w.server; wire = w.wire; written = w.written }

abbrev pub with_server : {M : Type 0} → World M → Server → World M
with_server w s = record { press = w.press; server = s; wire = w.wire; written = w.written }

-- ---- the world after a turn, and 0, or the number of the refusal
pub record Turn (M : Type 0) : Type 0 where
  pub world : World M
  pub refusal : ℕ

abbrev pub turn : {M : Type 0} → World M → ℕ → Turn M
turn w n = record { world = w; refusal = n }

-- one more turn, unless there was a refusal
abbrev pub and_then : {M : Type 0} → Turn M → (World M → Turn M) → Turn M
and_then t f = cond (eqb t.refusal 0) (f t.world) t

-- ---- a side is called: what it sends is on its way to the other one; after a refusal the wire stays as it was
abbrev pub on_wire : {M : Type 0} → World M → Wire M → M → World M
on_wire w x m = record { press = w.press; server = w.server; wire = x; written = w.written ++ (m ∷ []) }

abbrev pub off_wire : {M : Type 0} → World M → World M
off_wire w = record { press = w.press; server = w.server; wire = clear; written = w.written }

abbrev pub press_says : {M : Type 0} → World M → Says M → Turn M
press_says w (sends m) = turn (on_wire w (to_server m) m) 0
press_says w done = turn (off_wire w) 0
press_says w (refuses n) = turn w n

abbrev pub server_says : {M : Type 0} → World M → Says M → Turn M
server_says w (sends m) = turn (on_wire w (to_press m) m) 0
server_says w done = turn (off_wire w) 0
server_says w (refuses n) = turn w n

abbrev pub press_called : {M : Type 0} → World M → Called Press M → Turn M
press_called w c = press_says (with_press w c.side) c.says

abbrev pub server_called : {M : Type 0} → World M → Called Server M → Turn M
server_called w c = server_says (with_server w c.side) c.says

-- the press starts
abbrev pub starts : {M : Type 0} → Sides M → World M → Turn M
starts s w = press_called w (s.start w.press)

-- the message on the wire is handed to the side that it is for
abbrev pub hands_over : {M : Type 0} → Sides M → World M → Wire M → Turn M
hands_over s w clear = turn w 0
hands_over s w (to_server m) = server_called w (s.server_takes w.server m)
hands_over s w (to_press m) = press_called w (s.press_takes w.press m)

-- ---- a small step: what people or the crew do, one at a time
pub data Step : Type 0 where
  -- edits by people
  press_adds : List ℕ → Step
  press_edits : Luid → List ℕ → Step
  press_deletes : Luid → Step
  server_adds : List ℕ → Step
  server_edits : Guid → List ℕ → Step
  server_deletes : Guid → Step
  -- the server's people set the rule for two edits of one card, the server open or not (02, 7)
  set_rule : Rule → Step
  -- the press starts a session
  start : Step
  -- the package on the wire is handed to the side that it is for
  step : Step
  -- the package on the wire is lost, and nobody gives up
  lose : Step
  -- a side gives up its session, by itself: only its open state changes
  press_give_up : Step
  server_give_up : Step
  -- the server is handed a package that was made by hand; the wire stays as it was
  handed : Content → Step

-- whether it is a package that was made by hand
abbrev pub hand_made : Step → Bool
hand_made (handed x) = true
hand_made (press_adds t) = false
hand_made (press_edits l t) = false
hand_made (press_deletes l) = false
hand_made (server_adds t) = false
hand_made (server_edits g t) = false
hand_made (server_deletes g) = false
hand_made (set_rule rule) = false
hand_made start = false
hand_made step = false
hand_made lose = false
hand_made press_give_up = false
hand_made server_give_up = false

-- ---- how each of them goes: an edit is done (0) or refused, a rule is set; a package by hand is taken by the way
abbrev pub press_refusal : atPress.Outcome → ℕ
press_refusal (atPress.Outcome.Done l) = 0
press_refusal (atPress.Outcome.Refused n) = n

abbrev pub server_refusal : atServer.Outcome → ℕ
server_refusal (atServer.Outcome.Done g) = 0
server_refusal (atServer.Outcome.Refused n) = n

abbrev pub at_the_press : {M : Type 0} → World M → atPress.Edited → Turn M
at_the_press w e = turn (with_press w e.press) (press_refusal e.outcome)

abbrev pub at_the_server : {M : Type 0} → World M → atServer.Edited → Turn M
at_the_server w e = turn (with_server w e.server) (server_refusal e.outcome)

abbrev pub said_refusal : {M : Type 0} → Says M → ℕ
said_refusal (sends m) = 0
said_refusal done = 0
said_refusal (refuses n) = n

abbrev pub by_the_way : {M : Type 0} → World M → Called Server M → Turn M
by_the_way w c = turn (with_server w c.side) (said_refusal c.says)

abbrev pub does : {M : Type 0} → Sides M → Step → World M → Turn M
does s (press_adds t) w = at_the_press w (press_add w.press t)
does s (press_edits l t) w = at_the_press w (press_edit w.press l t)
does s (press_deletes l) w = at_the_press w (press_delete w.press l)
does s (server_adds t) w = at_the_server w (server_add w.server t)
does s (server_edits g t) w = at_the_server w (server_edit w.server g t)
does s (server_deletes g) w = at_the_server w (server_delete w.server g)
does s (set_rule rule) w = turn (with_server w (server_goes_by rule w.server)) 0
does s start w = starts s w
does s step w = hands_over s w w.wire
does s lose w = turn (off_wire w) 0
does s press_give_up w = turn (with_press w (press_gives_up w.press)) 0
does s server_give_up w = turn (with_server w (server_gives_up w.server)) 0
does s (handed x) w = by_the_way w (s.server_takes w.server (s.by_hand x))

-- ---- a doing: small steps, one after the other up to the first refusal
abbrev pub Doing : Type 0
Doing = List Step

unfoldable pub tries : {M : Type 0} → Sides M → Doing → World M → Turn M
tries s [] w = turn w 0
tries s (x ∷ xs) w = and_then (does s x w) (tries s xs)

-- one small step by itself, as an edit is
abbrev pub alone : Step → Doing
alone x = x ∷ []

-- so many messages are handed over
abbrev pub handings : ℕ → Doing
handings n = replicate n step

-- a session that runs through: after the last of its six packages the press is done
abbrev pub full : Doing
full = start ∷ handings 6

-- a session whose package k (1 to 6) is written and not handed over: both sides stay open
abbrev pub halted : ℕ → Doing
halted k = start ∷ handings (k - 1)

-- the wire loses its message, and both sides give up
abbrev pub cut : Doing
cut = lose ∷ press_give_up ∷ server_give_up ∷ []

-- a session whose package k is written and lost; then both sides give up
abbrev pub lost_at : ℕ → Doing
lost_at k = halted k ++ cut

-- ---- a course: doings one after the other, with what each was answered: 0, or the number of its refusal
pub record Went (M : Type 0) : Type 0 where
  pub world : World M
  pub answers : List ℕ

unfoldable pub goes : {M : Type 0} → Sides M → List Doing → World M → Went M
goes s [] w = record { world = w; answers = [] }
goes s (d ∷ ds) w =
    let t = tries s d w in
    let rest = goes s ds t.world in
    record { world = rest.world; answers = t.refusal ∷ rest.answers }
