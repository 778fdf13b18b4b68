-- A course on bytes goes as the course on content does, from fresh sides on, with the message limit lent at each call. Assumes nothing.
use Prim.Native.Nat.{ℕ, ◌≤◌}
use mathlib.Core.Path.{◌≡◌, refl, sym, ap, ◌∙◌, subst}
use mathlib.Core.Bool.{Bool, true, false, cond, false≢true}
use mathlib.Core.List.{List, [], ◌∷◌, ◌++◌, map, map-append}
use lib.Dec.{eqb}
use lib.ListN.{length}
use Rattle.text.specs.Wording.{last_station}
use Rattle.cards.specs.declared.Press.{Press}
use Rattle.cards.specs.Press.{press_gives_up}
use Rattle.records.specs.declared.Server.{Server}
use Rattle.records.specs.Server.{server_gives_up, server_goes_by}
use Rattle.message.specs.declared.Content.{Content}
use Rattle.message.specs.Message.{limit}
use Rattle.calls.specs.After.{bytes_for}
use Rattle.places.proofs.Every.{Every, every_append}
use Rattle.sendable.specs.Sendable.{SendablePackage}
use Rattle.sendable.proofs.ReadLaws.{sent_readable}
use Rattle.press_sends.specs.InRange.{PressInRange}
use Rattle.press_sends.proofs.EditLaws as press
use Rattle.press_edits.specs.Edit.{press_add, press_edit, press_delete}
use Rattle.server_sends.specs.InRange.{ServerInRange}
use Rattle.server_sends.proofs.EditLaws as server
use Rattle.server_edits.specs.Edit.{server_add, server_edit, server_delete}
use Rattle.press_calls.specs.Call.{press_takes}
use Rattle.server_calls.specs.Call.{server_takes}
use Rattle.calls.specs.Says.{Says, sends, done, refuses, Called}
use Rattle.course.specs.Course.{Sides, Wire, clear, to_server, to_press, World, fresh_world, with_press, with_server, Turn, turn, and_then, press_says, server_says, press_called, server_called, starts, hands_over, Step, press_adds, press_edits, press_deletes, server_adds, server_edits, server_deletes, set_rule, start, step, lose, press_give_up, server_give_up, handed, hand_made, said_refusal, by_the_way, does, Doing, tries, Went, goes}
use Rattle.press_awaits.specs.OnContent.{press_begins, press_judges}
use Rattle.server_awaits.specs.OnContent.{server_judges}
use Rattle.course.specs.OnContent.{on_content}
use Rattle.course.specs.OnBytes.{heard, on_bytes}
use Rattle.course.proofs.WellLaws.{SentWell, CalledWell, begins_well, press_judges_well, server_judges_well}
use Rattle.course.proofs.DeliveredLaws.{in_bytes, as_bytes, start_heard, press_heard, server_heard}

-- ---- a world on content, in bytes
abbrev pub wire_in_bytes : Wire Content → Wire (List ℕ)
wire_in_bytes clear = clear
wire_in_bytes (to_server x) = to_server (bytes_for x)
wire_in_bytes (to_press x) = to_press (bytes_for x)

abbrev pub world_in_bytes : World Content → World (List ℕ)
world_in_bytes w = record { press = w.press; server = w.server; wire = wire_in_bytes w.wire; written = map bytes_for w.written }

abbrev pub turn_in_bytes : Turn Content → Turn (List ℕ)
turn_in_bytes t = turn (world_in_bytes t.world) t.refusal

-- ---- both sides are in range, and what is on the wire, and all that was written, is in the written form
abbrev pub WireWell : Wire Content → Type 0
WireWell clear = Unit {0}
WireWell (to_server x) = SendablePackage x
WireWell (to_press x) = SendablePackage x

pub record WellWorld (w : World Content) : Type 0 where
  pub press : PressInRange w.press
  pub server : ServerInRange w.server
  pub wire : WireWell w.wire
  pub written : Every SendablePackage w.written

-- a turn on bytes is the turn on content, and leaves a world that is well
pub record Carried (b : Turn (List ℕ)) (c : Turn Content) : Type 0 where
  pub same : b ≡ turn_in_bytes c
  pub well : WellWorld c.world

-- one more package was written
more : (l : List Content) (x : Content) → map bytes_for l ++ (bytes_for x ∷ []) ≡ map bytes_for (l ++ (x ∷ []))
more l x = sym (map-append bytes_for l (x ∷ []))

-- ---- one call
module _ (w : World Content) (h : WellWorld w) where
  one_more : (x : Content) → SendablePackage x → Every SendablePackage (w.written ++ (x ∷ []))
  one_more x f = every_append SendablePackage (x ∷ []) w.written h.written (f, tt)

  press_called_lem : (c : Called Press Content) → CalledWell PressInRange c → Carried (press_called (world_in_bytes w) (as_bytes c)) (press_called w c)
  press_called_lem c k = go c.says k.1
    where
      go : (m : Says Content) → SentWell m → Carried (press_says (with_press (world_in_bytes w) c.side) (in_bytes m)) (press_says (with_press w c.side) m)
      go (sends x) f =
          record {
            same = ap (λ (l : List (List ℕ)). turn (record { press = c.side; server = w.server; wire = to_server (bytes_for x); written = l }) 0) (more w.written x);
            well = record { press = k.0; server = h.server; wire = f; written = one_more x f };
          }
      go done f = record { same = refl; well = record { press = k.0; server = h.server; wire = tt; written = h.written } }
      go (refuses n) f = record { same = refl; well = record { press = k.0; server = h.server; wire = h.wire; written = h.written } }

  server_called_lem : (c : Called Server Content) → CalledWell ServerInRange c → Carried (server_called (world_in_bytes w) (as_bytes c)) (server_called w c)
  server_called_lem c k = go c.says k.1
    where
      go : (m : Says Content) → SentWell m → Carried (server_says (with_server (world_in_bytes w) c.side) (in_bytes m)) (server_says (with_server w c.side) m)
      go (sends x) f =
          record {
            same = ap (λ (l : List (List ℕ)). turn (record { press = w.press; server = c.side; wire = to_press (bytes_for x); written = l }) 0) (more w.written x);
            well = record { press = h.press; server = k.0; wire = f; written = one_more x f };
          }
      go done f = record { same = refl; well = record { press = h.press; server = k.0; wire = tt; written = h.written } }
      go (refuses n) f = record { same = refl; well = record { press = h.press; server = k.0; wire = h.wire; written = h.written } }

  by_the_way_lem : (c : Called Server Content) → CalledWell ServerInRange c → Carried (by_the_way (world_in_bytes w) (as_bytes c)) (by_the_way w c)
  by_the_way_lem c k = record { same = go c.says; well = record { press = h.press; server = k.0; wire = h.wire; written = h.written } }
    where
      go : (m : Says Content) → turn (with_server (world_in_bytes w) c.side) (said_refusal (in_bytes m)) ≡ turn_in_bytes (turn (with_server w c.side) (said_refusal m))
      go (sends x) = refl
      go done = refl
      go (refuses n) = refl

  at_press : (p : Press) → PressInRange p → WellWorld (with_press w p)
  at_press p k = record { press = k; server = h.server; wire = h.wire; written = h.written }

  at_server : (s : Server) → ServerInRange s → WellWorld (with_server w s)
  at_server s k = record { press = h.press; server = k; wire = h.wire; written = h.written }

-- one more turn, unless there was a refusal
and_then_lem : (b : Turn (List ℕ)) (c : Turn Content) (f : World (List ℕ) → Turn (List ℕ)) (g : World Content → Turn Content)
    → Carried b c → ((w : World Content) → WellWorld w → Carried (f (world_in_bytes w)) (g w)) → Carried (and_then b f) (and_then c g)
and_then_lem b c f g k next = subst (λ (t : Turn (List ℕ)). Carried (and_then t f) (and_then c g)) (sym k.same) (go (eqb c.refusal 0))
  where
    go : (z : Bool) → Carried (cond z (f (world_in_bytes c.world)) (turn_in_bytes c)) (cond z (g c.world) c)
    go true = next c.world k.well
    go false = record { same = refl; well = k.well }

-- ---- a course, with this output lent at each call
module _ (out : List ℕ) (room : limit ≤ length out) where
  abbrev bytes : Sides (List ℕ)
  bytes = on_bytes out

  starts_carried : (w : World Content) → WellWorld w → Carried (starts bytes (world_in_bytes w)) (starts on_content w)
  starts_carried w h =
      let k = begins_well w.press h.press in
      let c = press_begins w.press in
      subst (λ (z : Called Press (List ℕ)). Carried (press_called (world_in_bytes w) z) (press_called w c))
      (sym (start_heard out room w.press k.1))
      (press_called_lem w h c k)

  -- a message that is handed to a side
  module _ (w : World Content) (h : WellWorld w) (x : Content) (f : SendablePackage x) where
    server_well : CalledWell ServerInRange (server_judges w.server x)
    server_well = server_judges_well w.server h.server x (sent_readable x f)

    to_server_lem : heard (server_takes w.server (bytes_for x) out) ≡ as_bytes (server_judges w.server x)
    to_server_lem = server_heard out room w.server x f server_well.1

    press_well : CalledWell PressInRange (press_judges w.press x)
    press_well = press_judges_well w.press h.press x (sent_readable x f)

    to_press_lem : heard (press_takes w.press (bytes_for x) out) ≡ as_bytes (press_judges w.press x)
    to_press_lem = press_heard out room w.press x f press_well.1

  hands_over_lem : (w : World Content) → WellWorld w → (x : Wire Content) → WireWell x → Carried (hands_over bytes (world_in_bytes w) (wire_in_bytes x)) (hands_over on_content w x)
  hands_over_lem w h clear f = record { same = refl; well = h }
  hands_over_lem w h (to_server x) f =
      subst (λ (z : Called Server (List ℕ)). Carried (server_called (world_in_bytes w) z) (server_called w (server_judges w.server x))) (sym (to_server_lem w h x f))
      (server_called_lem w h (server_judges w.server x) (server_well w h x f))
  hands_over_lem w h (to_press x) f =
      subst (λ (z : Called Press (List ℕ)). Carried (press_called (world_in_bytes w) z) (press_called w (press_judges w.press x))) (sym (to_press_lem w h x f))
      (press_called_lem w h (press_judges w.press x) (press_well w h x f))

  -- ---- small steps, doings and courses; a package by hand is in the written form
  abbrev pub StepWell : Step → Type 0
  StepWell (press_adds t) = Unit {0}
  StepWell (press_edits l t) = Unit {0}
  StepWell (press_deletes l) = Unit {0}
  StepWell (server_adds t) = Unit {0}
  StepWell (server_edits g t) = Unit {0}
  StepWell (server_deletes g) = Unit {0}
  StepWell (set_rule rule) = Unit {0}
  StepWell start = Unit {0}
  StepWell step = Unit {0}
  StepWell lose = Unit {0}
  StepWell press_give_up = Unit {0}
  StepWell server_give_up = Unit {0}
  StepWell (handed x) = SendablePackage x

  pub step_well : (x : Step) → hand_made x ≡ false → StepWell x
  step_well (handed x) e = absurd (false≢true (sym e))
  step_well (press_adds t) e = tt
  step_well (press_edits l t) e = tt
  step_well (press_deletes l) e = tt
  step_well (server_adds t) e = tt
  step_well (server_edits g t) e = tt
  step_well (server_deletes g) e = tt
  step_well (set_rule rule) e = tt
  step_well start e = tt
  step_well step e = tt
  step_well lose e = tt
  step_well press_give_up e = tt
  step_well server_give_up e = tt

  does_carried : (x : Step) → StepWell x → (w : World Content) → WellWorld w → Carried (does bytes x (world_in_bytes w)) (does on_content x w)
  does_carried (press_adds t) f w h = record { same = refl; well = at_press w h (press_add w.press t).press (press.add_in_range w.press h.press t) }
  does_carried (press_edits l t) f w h = record { same = refl; well = at_press w h (press_edit w.press l t).press (press.edit_in_range w.press h.press l t) }
  does_carried (press_deletes l) f w h = record { same = refl; well = at_press w h (press_delete w.press l).press (press.delete_in_range w.press h.press l) }
  does_carried (server_adds t) f w h = record { same = refl; well = at_server w h (server_add w.server t).server (server.add_in_range w.server h.server t) }
  does_carried (server_edits g t) f w h = record { same = refl; well = at_server w h (server_edit w.server g t).server (server.edit_in_range w.server h.server g t) }
  does_carried (server_deletes g) f w h = record { same = refl; well = at_server w h (server_delete w.server g).server (server.delete_in_range w.server h.server g) }
  does_carried (set_rule rule) f w h = record { same = refl; well = at_server w h (server_goes_by rule w.server) (server.rule_in_range w.server h.server rule) }
  does_carried start f w h = starts_carried w h
  does_carried step f w h = hands_over_lem w h w.wire h.wire
  does_carried lose f w h = record { same = refl; well = record { press = h.press; server = h.server; wire = tt; written = h.written } }
  does_carried press_give_up f w h = record { same = refl; well = at_press w h (press_gives_up w.press) (press.given_up_in_range w.press h.press) }
  does_carried server_give_up f w h = record { same = refl; well = at_server w h (server_gives_up w.server) (server.given_up_in_range w.server h.server) }
  does_carried (handed x) f w h =
      subst (λ (z : Called Server (List ℕ)). Carried (by_the_way (world_in_bytes w) z) (by_the_way w (server_judges w.server x))) (sym (to_server_lem w h x f))
      (by_the_way_lem w h (server_judges w.server x) (server_well w h x f))

  abbrev pub DoneWell : Doing → Type 0
  DoneWell d = Every StepWell d

  pub tries_carried : (d : Doing) → DoneWell d → (w : World Content) → WellWorld w → Carried (tries bytes d (world_in_bytes w)) (tries on_content d w)
  unfolding tries
  tries_carried [] f w h = record { same = refl; well = h }
  tries_carried (x ∷ xs) f w h = and_then_lem (does bytes x (world_in_bytes w)) (does on_content x w) (tries bytes xs) (tries on_content xs) (does_carried x f.0 w h) (tries_carried xs f.1)

  abbrev pub went_in_bytes : Went Content → Went (List ℕ)
  went_in_bytes x = record { world = world_in_bytes x.world; answers = x.answers }

  pub goes_carried : (ds : List Doing) → Every DoneWell ds → (w : World Content) → WellWorld w → goes bytes ds (world_in_bytes w) ≡ went_in_bytes (goes on_content ds w)
  unfolding goes
  goes_carried [] f w h = refl
  goes_carried (d ∷ ds) f w h =
      let k = tries_carried d f.0 w h in
      let t = tries on_content d w in
      ap (λ (b : Turn (List ℕ)). let rest = goes bytes ds b.world in record { world = rest.world; answers = b.refusal ∷ rest.answers }) k.same
      ∙ ap (λ (r : Went (List ℕ)). record { world = r.world; answers = t.refusal ∷ r.answers }) (goes_carried ds f.1 t.world k.well)

  pub goes_well : (ds : List Doing) → Every DoneWell ds → (w : World Content) → WellWorld w → WellWorld (goes on_content ds w).world
  unfolding goes
  goes_well [] f w h = h
  goes_well (d ∷ ds) f w h = goes_well ds f.1 (tries on_content d w).world (tries_carried d f.0 w h).well

-- two fresh sides are well
pub fresh_well : (station : ℕ) → station ≤ last_station → WellWorld (fresh_world station)
fresh_well station h = record { press = press.fresh_in_range station h; server = server.fresh_in_range; wire = tt; written = tt }
