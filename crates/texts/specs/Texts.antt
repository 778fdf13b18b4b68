-- Texts decide nothing (02, 10), for any two sides. The request's words stand in quotes beside what says them.
-- A course is one of crates/course (Course.antt); M is what a message is: a content, or, as the public calls have it, bytes.
use Rattle.std.specs.Prelude.{ℕ, ◌≤◌, ◌≡◌, refl, false, List, [], ◌∷◌, map, length}
use Rattle.places.specs.Every.{Every}
use Rattle.token.specs.Ans.{Ans, got, bad}
use Rattle.text.specs.Text.{GoodText}
use Rattle.text.specs.declared.Wording.{Wording}
use Rattle.text.specs.Wording.{last_station}
use Rattle.message.specs.declared.Content.{Content}
use Rattle.message.specs.Message.{limit, Message, read_message}
use Rattle.message.specs.Answer.{content_for}
use Rattle.reworded.specs.Reworded.{Rewording, reword_press, reword_server, reword_content}
use Rattle.course.specs.Course.{Sides, Wire, clear, to_server, to_press, World, fresh_world, Turn, turn, Step, press_adds, press_edits, press_deletes, server_adds, server_edits, server_deletes, set_rule, start, step, lose, press_give_up, server_give_up, handed, hand_made, Doing, tries}
use Rattle.course.specs.OnContent.{on_content}
use Rattle.course.specs.OnBytes.{on_bytes}

-- ---- "Take two courses of edits and of packages that the two sides write, broken sessions included": two lists of doings (Course.antt), each of some
-- small steps: an edit, a whole session, one that is broken off. Adds and edits by people give a text, and no other step does.
abbrev pub text_in : Step → List ℕ
text_in (press_adds t) = t
text_in (press_edits l t) = t
text_in (server_adds t) = t
text_in (server_edits g t) = t
text_in (press_deletes l) = []
text_in (server_deletes g) = []
text_in (set_rule rule) = []
text_in start = []
text_in step = []
text_in lose = []
text_in press_give_up = []
text_in server_give_up = []
text_in (handed x) = []

-- the step with f of its text
abbrev pub reword_step : (List ℕ → List ℕ) → Step → Step
reword_step f (press_adds t) = press_adds (f t)
reword_step f (press_edits l t) = press_edits l (f t)
reword_step f (server_adds t) = server_adds (f t)
reword_step f (server_edits g t) = server_edits g (f t)
reword_step f (press_deletes l) = press_deletes l
reword_step f (server_deletes g) = server_deletes g
reword_step f (set_rule rule) = set_rule rule
reword_step f start = start
reword_step f step = step
reword_step f lose = lose
reword_step f press_give_up = press_give_up
reword_step f server_give_up = server_give_up
reword_step f (handed x) = handed x

-- ---- "that differ only in the texts, all of them lawful": with every text empty they are one course, and every text keeps the text rule
abbrev pub textless_step : Step → Step
textless_step x = reword_step (λ t. []) x

-- (and no package is made by hand)
abbrev pub Lawful : Step → Type 0
Lawful x = (hand_made x ≡ false) × GoodText (text_in x)

pub record SameButTexts (ds es : List Doing) : Type 0 where
  pub same : map (map textless_step) ds ≡ map (map textless_step) es
  pub lawful : Every (Every Lawful) ds × Every (Every Lawful) es

-- ---- "at every point": what each doing leaves, and what it is answered, 0 or the number of its refusal. After a refusal the course goes on.
-- (One small step by itself is a doing, so a course may be looked at after each message, in the middle of a session.)
unfoldable pub points : {M : Type 0} → Sides M → List Doing → World M → List (Turn M)
points s [] w = []
points s (d ∷ ds) w = tries s d w ∷ points s ds (tries s d w).world

-- ---- "Both have the same numbers, pairs, marks, status codes and refusals": everything but the texts is the same. Both sides, the package on the wire and all
-- packages written so far are compared with their texts taken out and nothing else: fingerprints, stations, anchors, open states and places stay in.
abbrev pub no_byte : ℕ → ℕ
no_byte b = 0

abbrev pub without_text : Wording → Wording
without_text w = record { text = record { len = 0; bytes = map no_byte w.text.bytes }; station = w.station }

abbrev pub textless : Rewording
textless = record { reword = without_text; blank = refl; past_end = refl }

-- both sides with the wordings of r, and f of every message
module _ {M N : Type 0} (r : Rewording) (f : M → N) where
  abbrev pub reword_wire : Wire M → Wire N
  reword_wire clear = clear
  reword_wire (to_server m) = to_server (f m)
  reword_wire (to_press m) = to_press (f m)

  abbrev pub reword_world : World M → World N
  reword_world w = record { press = reword_press r w.press; server = reword_server r w.server; wire = reword_wire w.wire; written = map f w.written }

  abbrev pub reword_turn : Turn M → Turn N
  reword_turn t = turn (reword_world t.world) t.refusal

-- "message lengths may differ": bytes are compared as they are read, with the texts taken out; what does not read is compared byte by byte
pub data Compared : Type 0 where
  read : Content → Compared
  unread : List ℕ → Compared

abbrev pub textless_as : List ℕ → Ans Message → Compared
textless_as m (got x p) = read (reword_content textless (content_for x))
textless_as m (bad k p) = unread m

abbrev pub textless_bytes : List ℕ → Compared
textless_bytes m = textless_as m (read_message m)

-- ---- the request, for sides s: from two fresh sides, the press whatever station it is; `bare` takes the texts out of a message
abbrev pub TextsDecideNothing : {M N : Type 0} → Sides M → (M → N) → Type 0
TextsDecideNothing s bare =
    (station : ℕ) → station ≤ last_station
    → (ds es : List Doing) → SameButTexts ds es
    → map (reword_turn textless bare) (points s ds (fresh_world station)) ≡ map (reword_turn textless bare) (points s es (fresh_world station))

-- on content; and by the public calls, on bytes, "with .. a lent output of the full message limit at each call" (whatever bytes stand in it)
abbrev pub TextsOnContent : Type 0
TextsOnContent = TextsDecideNothing on_content (reword_content textless)

abbrev pub TextsOnBytes : Type 0
TextsOnBytes = (out : List ℕ) → limit ≤ length out → TextsDecideNothing (on_bytes out) textless_bytes
