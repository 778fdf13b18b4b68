-- Courses on stores, with power cuts: what each small step asks of a plant's stores, and that the stores go as the course on the sides.
use Rattle.std.specs.Prelude.{ℕ, zero, suc, ◌≤◌, ◌≡◌, List, [], ◌∷◌, length}
use Rattle.text.specs.Wording.{last_station}
use Rattle.places.specs.Every.{Every}
use Rattle.message.specs.Message.{limit}
use Rattle.calls.specs.After.{After, bytes_for}
use Rattle.cards.specs.declared.Press.{Press}
use Rattle.cards.specs.Press.{press_fresh}
use Rattle.records.specs.declared.Server.{Server}
use Rattle.records.specs.Server.{fresh_server, server_goes_by}
use Rattle.press_edits.specs.Edit.{press_add, press_edit, press_delete}
use Rattle.server_edits.specs.Edit.{server_add, server_edit, server_delete}
use Rattle.press_calls.specs.Call.{press_start, press_takes}
use Rattle.server_calls.specs.Call.{server_takes}
use Rattle.image.specs.Keeping.{Keeping}
use Rattle.image.specs.OnImage.{Result, did, untold, MadeIn, result_in}
use Rattle.press_image.specs.Image.{press_keeping}
use Rattle.press_image.specs.Kept as atPress
use Rattle.server_image.specs.Image.{server_keeping}
use Rattle.server_image.specs.Kept as atServer
use Rattle.lilmorask_store.specs.Torn.{late}
use Rattle.course.specs.Course.{Wire, clear, to_server, to_press, World, fresh_world, Step, press_adds, press_edits, press_deletes, server_adds, server_edits, server_deletes, set_rule, start, step, lose, press_give_up, server_give_up, handed, Doing, full}
use Rattle.course.specs.OnBytes.{on_bytes}
use Rattle.demand3.specs.Demand3.{Ours, SessionsOnly, NoSession, InStep, room_refused_in, NoRoomRefusal, at_once}
use Rattle.power.specs.Power.{store_first}
use Rattle.power.specs.WithCuts.{Event, goes_on, cut_after, begun, happen, ReachedWithCuts}
use Rattle.stored_courses.specs.OnStores.{Stands, Line, line, silent, press_part, server_part, Call, quiet, answers, Stored, Goes, GaveUp, CutShort}

-- ---- a plant: the slots of each side, and the line
pub record Plant : Type 0 where
  pub press : List ℕ
  pub server : List ℕ
  pub line : Line

-- its stores hold the sides of a world, and its line is that world's
abbrev pub line_of : World (List ℕ) → Line
line_of w = line w.wire w.written

pub record Holds (p : Plant) (w : World (List ℕ)) : Type 0 where
  pub press : Stands press_keeping p.press w.press
  pub server : Stands server_keeping p.server w.server
  pub line : p.line ≡ line_of w

-- ---- what a small step asks of a plant: a call of a side, in which its power may be cut; or something else
pub data Asked : Type 0 where
  of_press : Call Press → Asked
  of_server : Call Server → Asked
  press_closes : Asked
  server_closes : Asked
  -- the server takes a message that was made by hand, and its answer is sent to nobody
  by_the_way : (List ℕ → Server → After Server) → Asked
  -- the wire is empty, or loses its message
  wire_alone : Asked

-- each by the promise of the call for C that it is, in crates/lilmorask_press and crates/lilmorask_server (where a LUID, a GUID and a rule are numbers)
abbrev pub asks : Step → Wire (List ℕ) → Asked
asks (press_adds t) x = of_press (quiet (λ p. atPress.edited (press_add p t)))
asks (press_edits l t) x = of_press (quiet (λ p. untold (atPress.edited (press_edit p l t))))
asks (press_deletes l) x = of_press (quiet (λ p. untold (atPress.edited (press_delete p l))))
asks (server_adds t) x = of_server (quiet (λ s. atServer.edited (server_add s t)))
asks (server_edits g t) x = of_server (quiet (λ s. untold (atServer.edited (server_edit s g t))))
asks (server_deletes g) x = of_server (quiet (λ s. untold (atServer.edited (server_delete s g))))
asks (set_rule rule) x = of_server (quiet (λ s. did 0 (server_goes_by rule s)))
asks start x = of_press (answers (λ out p. press_start p out))
asks step (to_press m) = of_press (answers (λ out p. press_takes p m out))
asks step (to_server m) = of_server (answers (λ out s. server_takes s m out))
asks step clear = wire_alone
asks lose x = wire_alone
asks press_give_up x = press_closes
asks server_give_up x = server_closes
asks (handed c) x = by_the_way (λ out s. server_takes s (bytes_for c) out)

abbrev pub UnlessRefused : ℕ → Type 0 → Type 0 → Type 0
UnlessRefused zero rest ended = rest
UnlessRefused (suc n) rest ended = ended

-- ---- with an output of so many bytes lent to each call
module _ (size : ℕ) where
  pub record ByTheWay (f : List ℕ → Server → After Server) (p : Plant) (n : ℕ) (q : Plant) : Type 0 where
    pub out : List ℕ
    pub room : length out ≡ size
    pub goes : Goes server_part size (quiet (result_in (f out))) 2 n p.line p.server p.line q.server q.line
    pub other : q.press ≡ p.press

  -- the plant p becomes q by a small step, which gives back n
  abbrev pub DoesAsked : Asked → Plant → ℕ → Plant → Type 0
  DoesAsked (of_press c) p n q = Goes press_part size c 2 n p.line p.press p.line q.press q.line × (q.server ≡ p.server)
  DoesAsked (of_server c) p n q = Goes server_part size c 2 n p.line p.server p.line q.server q.line × (q.press ≡ p.press)
  DoesAsked press_closes p n q = GaveUp press_part p.press q.press × (q.server ≡ p.server) × (q.line ≡ p.line) × (n ≡ 0)
  DoesAsked server_closes p n q = GaveUp server_part p.server q.server × (q.press ≡ p.press) × (q.line ≡ p.line) × (n ≡ 0)
  DoesAsked (by_the_way f) p n q = ByTheWay f p n q
  DoesAsked wire_alone p n q = (q.press ≡ p.press) × (q.server ≡ p.server) × (q.line ≡ silent p.line) × (n ≡ 0)

  abbrev pub Does : Step → Plant → ℕ → Plant → Type 0
  Does x p n q = DoesAsked (asks x p.line.wire) p n q

  -- small steps, one after the other up to the first refusal, whose number is n; else that is 0
  pub record First (x : Step) (rest : Plant → ℕ → Plant → Type 0) (p : Plant) (n : ℕ) (q : Plant) : Type 0 where
    pub number : ℕ
    pub between : Plant
    pub does : Does x p number between
    pub then : UnlessRefused number (rest between n q) ((n ≡ number) × (q ≡ between))

  abbrev pub Tries : Doing → Plant → ℕ → Plant → Type 0
  Tries [] p n q = (n ≡ 0) × (q ≡ p)
  Tries (x ∷ xs) p n q = First x (Tries xs) p n q

  pub record Tried (d : Doing) (p q : Plant) : Type 0 where
    pub number : ℕ
    pub tries : Tries d p number q

  -- the power of a side is cut in its call, after the first k moments
  abbrev pub CutIn : ℕ → Asked → Plant → Plant → Type 0
  CutIn k (of_press c) p q = CutShort press_part size c k p.press p.line q.press q.line × (q.server ≡ p.server)
  CutIn k (of_server c) p q = CutShort server_part size c k p.server p.line q.server q.line × (q.press ≡ p.press)
  CutIn k press_closes p q = ⊥
  CutIn k server_closes p q = ⊥
  CutIn k (by_the_way f) p q = ⊥
  CutIn k wire_alone p q = ⊥

  -- ---- a course with power cuts
  abbrev pub Happens : Event → Plant → Plant → Type 0
  Happens (goes_on d) p q = Tried d p q
  Happens (cut_after k x) p q = CutIn k (asks x p.line.wire) p q

  pub record Next (e : Event) (rest : Plant → Plant → Type 0) (p q : Plant) : Type 0 where
    pub between : Plant
    pub happens : Happens e p between
    pub then : rest between q

  abbrev pub Run : List Event → Plant → Plant → Type 0
  Run [] p q = q ≡ p
  Run (e ∷ es) p q = Next e (Run es) p q

-- ---- the stores go as the course on the sides that crates/power names
abbrev pub Follows : Type 0
Follows = (out : List ℕ) (events : List Event) (p q : Plant) (w : World (List ℕ)) → Holds p w → Run (length out) events p q → Holds q (happen (on_bytes out) store_first events w)

-- ---- and from two fresh sides: lil_press_fresh and lil_server_fresh, sealed and stored
pub record FreshIn {S : Type 0} (k : Keeping S) (made : Result S) (slots : List ℕ) : Type 0 where
  pub lent : List ℕ
  pub image : List ℕ
  pub fresh : MadeIn k made lent 0 image
  pub before : List ℕ
  pub stored : Stored before image late slots

pub record FreshPlant (station : ℕ) (p : Plant) : Type 0 where
  pub press : FreshIn press_keeping (atPress.made (press_fresh station)) p.press
  pub server : FreshIn server_keeping (did 0 fresh_server) p.server
  pub line : p.line ≡ line clear []

abbrev pub FreshHolds : Type 0
FreshHolds = (station : ℕ) (p : Plant) → FreshPlant station p → Holds p (fresh_world station)

-- so whatever a plant comes to from there, its stores hold a point of which demand 3 with power cuts speaks
pub record Reaches (out : List ℕ) (p : Plant) : Type 0 where
  pub world : World (List ℕ)
  pub holds : Holds p world
  pub reached : ReachedWithCuts (on_bytes out) store_first world

abbrev pub StoresReach : Type 0
StoresReach =
    (out : List ℕ) (station : ℕ) → station ≤ last_station
    → (events : List Event) → Every (λ e. Ours (begun e)) events
    → (p q : Plant) → FreshPlant station p → Run (length out) events p q → Reaches out q

-- and, as demand 3 has it, after broken sessions with power cuts among them a session on the stores that runs through leaves both in step
pub record InStepIn (p : Plant) : Type 0 where
  pub world : World (List ℕ)
  pub holds : Holds p world
  pub in_step : InStep world

abbrev pub StoresInStep : Type 0
StoresInStep =
    (out : List ℕ) → limit ≤ length out
    → (p : Plant) (at : Reaches out p) → NoSession at.world
    → (events : List Event) → Every (λ e. SessionsOnly (begun e)) events
    → (q r : Plant) → Run (length out) events p q → Tries (length out) full q 0 r
    → (let once = at_once (on_bytes out) room_refused_in at.world in once.refusal ≡ 0 → NoRoomRefusal (on_bytes out) room_refused_in at.world once.world → InStepIn r)
