-- With the store first a power cut is small steps of a course, over any sides: so demand 3 covers courses with cuts. And what was told stands. Assumes nothing.
use Prim.Native.Nat.{ℕ, zero, suc}
use mathlib.Core.Path.{◌≡◌, refl, sym, ap, subst, ◌∙◌}
use mathlib.Core.Bool.{Bool, true, false, cond, ◌||◌, false≢true}
use mathlib.Core.List.{List, [], ◌∷◌}
use lib.Dec.{eqb}
use lib.ListN.{take}
use Rattle.places.proofs.Choice.{chosen}
use Rattle.places.proofs.Every.{Every}
use Rattle.course.specs.Course.{Sides, World, fresh_world, off_wire, Turn, Step, press_adds, press_edits, press_deletes, server_adds, server_edits, server_deletes, set_rule, start, step, lose, press_give_up, server_give_up, handed, hand_made, does, Doing, tries, full, goes}
use Rattle.demand3.specs.Demand3.{by_people, SessionsOnly, SameCards, InStep, Reached, at_once, after_breaks, Demand3}
use Rattle.power.specs.Power.{stores, tells, Order, store_first, Caller, the_press, the_server, nobody, caller_of, boots, at_work, leaves, moment, moments, cut_in}
use Rattle.power.specs.WithCuts.{Event, goes_on, cut_after, begun, happens, happen, ReachedWithCuts, ToldStands, after_cuts, Demand3WithCuts}

-- ---- the small steps that a cut is: the side gives up; before that the wire falls silent, if the call was one of a session
abbrev pub boot_steps : Caller → Doing
boot_steps the_press = press_give_up ∷ []
boot_steps the_server = server_give_up ∷ []
boot_steps nobody = []

abbrev pub silent_steps : Step → Caller → Doing
silent_steps x c = cond (by_people x) (boot_steps c) (lose ∷ boot_steps c)

-- of a call that is not refused, cut after so many moments
abbrev pub done_steps : ℕ → Step → Caller → Doing
done_steps zero x c = silent_steps x c
done_steps (suc zero) x c = x ∷ silent_steps x c
done_steps (suc (suc k)) x c = x ∷ boot_steps c

module _ {M : Type 0} (s : Sides M) where
  abbrev is_done : Step → World M → Bool
  is_done x w = eqb (does s x w).refusal 0

  abbrev pub cut_steps : ℕ → Step → World M → Doing
  cut_steps k x w = cond (is_done x w) (done_steps k x (caller_of x w.wire)) (silent_steps x (caller_of x w.wire))

  boot_steps_lem : (c : Caller) (w : World M) → (tries s (boot_steps c) w).world ≡ boots c w
  unfolding tries
  boot_steps_lem the_press w = refl
  boot_steps_lem the_server w = refl
  boot_steps_lem nobody w = refl

  silent_steps_lem : (x : Step) (c : Caller) (w : World M) → (tries s (silent_steps x c) w).world ≡ boots c (at_work x w)
  unfolding tries
  silent_steps_lem x c w = go (by_people x)
    where
      go : (b : Bool) → (tries s (cond b (boot_steps c) (lose ∷ boot_steps c)) w).world ≡ boots c (cond b w (off_wire w))
      go true = boot_steps_lem c w
      go false = boot_steps_lem c (off_wire w)

  first_done : (x : Step) (d : Doing) (w : World M) → is_done x w ≡ true → (tries s (x ∷ d) w).world ≡ (tries s d (does s x w).world).world
  unfolding tries
  first_done x d w e = ap (λ (t : Turn M). t.world) (chosen (is_done x w) (tries s d (does s x w).world) (does s x w) e)

  -- an edit leaves the wire as it was; of a session's call nothing is on it before the answer
  stored_silent : (x : Step) (w : World M) → at_work x (does s x w).world ≡ moment (does s x w).world stores (at_work x w)
  stored_silent (press_adds t) w = refl
  stored_silent (press_edits l t) w = refl
  stored_silent (press_deletes l) w = refl
  stored_silent (server_adds t) w = refl
  stored_silent (server_edits g t) w = refl
  stored_silent (server_deletes g) w = refl
  stored_silent (set_rule rule) w = refl
  stored_silent start w = refl
  stored_silent step w = refl
  stored_silent lose w = refl
  stored_silent press_give_up w = refl
  stored_silent server_give_up w = refl
  stored_silent (handed c) w = refl

  -- after both moments, or more, the side boots with what the whole call left
  whole : (x : Step) (w : World M) → (does s x w).refusal ≡ 0 → boots (caller_of x w.wire) (leaves s x w) ≡ boots (caller_of x w.wire) (does s x w).world
  whole x w e = ap (λ (n : ℕ). boots (caller_of x w.wire) (cond (eqb n 0) (does s x w).world (at_work x w))) e

  -- a refused call has nothing to store and nothing to tell
  still : (o : Order) (w : World M) → moments w o w ≡ w
  still [] w = refl
  still (stores ∷ o) w = still o w
  still (tells ∷ o) w = still o w

  -- ---- a cut, store first, is those small steps
  pub cut_steps_lem : (k : ℕ) (x : Step) (w : World M) → (tries s (cut_steps k x w) w).world ≡ cut_in s store_first k x w
  cut_steps_lem k x w = go (is_done x w) refl k
    where
      c : Caller
      c = caller_of x w.wire

      v : World M
      v = (does s x w).world

      go : (b : Bool) → is_done x w ≡ b → (k : ℕ) → (tries s (cond b (done_steps k x c) (silent_steps x c)) w).world ≡ boots c (moments (cond b v (at_work x w)) (take k store_first) (at_work x w))
      go true e zero = silent_steps_lem x c w
      go true e (suc zero) = first_done x (silent_steps x c) w e ∙ (silent_steps_lem x c v ∙ ap (boots c) (stored_silent x w))
      go true e (suc (suc zero)) = first_done x (boot_steps c) w e ∙ boot_steps_lem c v
      go true e (suc (suc (suc k))) = first_done x (boot_steps c) w e ∙ boot_steps_lem c v
      go false e k = silent_steps_lem x c w ∙ ap (boots c) (sym (still (take k store_first) (at_work x w)))

  -- ---- what somebody was told stands
  pub told_stands : ToldStands s store_first
  told_stands x w zero e t = absurd (false≢true t)
  told_stands x w (suc zero) e t = absurd (false≢true t)
  told_stands x w (suc (suc zero)) e t = whole x w e
  told_stands x w (suc (suc (suc k))) e t = whole x w e

  -- ---- a course with cuts is a course
  abbrev pub steps_of : Event → World M → Doing
  steps_of (goes_on d) w = d
  steps_of (cut_after k x) w = cut_steps k x w

  abbrev pub doings_of : List Event → World M → List Doing
  doings_of [] w = []
  doings_of (e ∷ es) w = steps_of e w ∷ doings_of es (happens s store_first e w)

  event_steps : (e : Event) (w : World M) → (tries s (steps_of e w) w).world ≡ happens s store_first e w
  event_steps (goes_on d) w = refl
  event_steps (cut_after k x) w = cut_steps_lem k x w

  pub same_course : (es : List Event) (w : World M) → (goes s (doings_of es w) w).world ≡ happen s store_first es w
  unfolding goes happen
  same_course [] w = refl
  same_course (e ∷ es) w =
      let next = happens s store_first e w in
      ap (λ (v : World M). (goes s (doings_of es next) v).world) (event_steps e w) ∙ same_course es next

  -- of the kind of what was begun: of our packages, of sessions only
  module _ (P : Step → Type 0) (lost : P lose) (press_up : P press_give_up) (server_up : P server_give_up) where
    boots_so : (c : Caller) → Every P (boot_steps c)
    boots_so the_press = (press_up, tt)
    boots_so the_server = (server_up, tt)
    boots_so nobody = tt

    either : (b : Bool) (d e : Doing) → Every P d → Every P e → Every P (cond b d e)
    either true d e f g = f
    either false d e f g = g

    silent_so : (x : Step) (c : Caller) → Every P (silent_steps x c)
    silent_so x c = either (by_people x) (boot_steps c) (lose ∷ boot_steps c) (boots_so c) (lost, boots_so c)

    done_so : (k : ℕ) (x : Step) (c : Caller) → P x → Every P (done_steps k x c)
    done_so zero x c p = silent_so x c
    done_so (suc zero) x c p = (p, silent_so x c)
    done_so (suc (suc k)) x c p = (p, boots_so c)

    event_so : (e : Event) (w : World M) → Every P (begun e) → Every P (steps_of e w)
    event_so (goes_on d) w p = p
    event_so (cut_after k x) w p =
        let c = caller_of x w.wire in
        either (is_done x w) (done_steps k x c) (silent_steps x c) (done_so k x c p.0) (silent_so x c)

    all_so : (es : List Event) (w : World M) → Every (λ e. Every P (begun e)) es → Every (Every P) (doings_of es w)
    all_so [] w p = tt
    all_so (e ∷ es) w p = (event_so e w p.0, all_so es (happens s store_first e w) p.1)

  module _ (refusesRoom : M → Bool) where
    pub reached_with_cuts : (w : World M) → ReachedWithCuts s store_first w → Reached s refusesRoom w
    reached_with_cuts w r =
        let from = fresh_world r.station in
        record {
          station = r.station;
          numbered = r.numbered;
          course = doings_of r.events from;
          ours = all_so (λ x. hand_made x ≡ false) refl refl refl r.events from r.ours;
          there = same_course r.events from ∙ r.there;
        }

    -- broken sessions with cuts among them are broken sessions
    of_sessions : (es : List Event) (w : World M) → Every (λ e. SessionsOnly (begun e)) es → Every SessionsOnly (doings_of es w)
    of_sessions es w only = all_so (λ x. (hand_made x || by_people x) ≡ false) refl refl refl es w only

    as_breaks : (Q : Turn M → Type 0) (es : List Event) (w : World M) → Q (after_breaks s refusesRoom (doings_of es w) w) → Q (after_cuts s store_first refusesRoom es w)
    as_breaks Q es w q = subst (λ (v : World M). Q (tries s full v)) (same_course es w) q

    -- ---- demand 3 covers power cuts, if the store comes first
    pub with_cuts : Demand3 s refusesRoom → Demand3WithCuts s store_first refusesRoom
    with_cuts d =
        record {
          reached = reached_with_cuts;
          converges = λ w r n es only once again room.
              as_breaks (λ (t : Turn M). t.refusal ≡ 0 → SameCards t.world (at_once s refusesRoom w).world) es w
              (λ a. d.converges w (reached_with_cuts w r) n (doings_of es w) (of_sessions es w only) once a room) again;
          in_step = λ w r n es only once again room.
              as_breaks (λ (t : Turn M). t.refusal ≡ 0 → InStep (at_once s refusesRoom w).world × InStep t.world) es w
              (λ a. d.in_step w (reached_with_cuts w r) n (doings_of es w) (of_sessions es w only) once a room) again;
        }
