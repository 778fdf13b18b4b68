-- Courses with power cuts, for either order of a call's two moments; what demand 3 says of them, and that what was told stands.
use Rattle.std.specs.Prelude.{ℕ, ◌≤◌, ◌≡◌, Bool, true, List, [], ◌∷◌, take}
use Rattle.places.specs.Every.{Every}
use Rattle.text.specs.Wording.{last_station}
use Rattle.course.specs.Course.{Sides, World, fresh_world, Turn, Step, does, Doing, alone, tries, full}
use Rattle.demand3.specs.Demand3.{Ours, SessionsOnly, NoSession, SameCards, InStep, Reached, NoRoomRefusal, at_once}
use Rattle.power.specs.Power.{Order, told, caller_of, boots, cut_in}

-- ---- what happens in a course: small steps; or the power of a side is cut in a call, after so many of its moments
pub data Event : Type 0 where
  goes_on : Doing → Event
  cut_after : ℕ → Step → Event

-- the small steps that people and the crew began
abbrev pub begun : Event → Doing
begun (goes_on d) = d
begun (cut_after k x) = alone x

module _ {M : Type 0} (s : Sides M) (o : Order) where
  abbrev pub happens : Event → World M → World M
  happens (goes_on d) w = (tries s d w).world
  happens (cut_after k x) w = cut_in s o k x w

  unfoldable pub happen : List Event → World M → World M
  happen [] w = w
  happen (e ∷ es) w = happen es (happens e w)

  -- ---- the points that are reached from two fresh sides (no package is made by hand)
  pub record ReachedWithCuts (w : World M) : Type 0 where
    pub station : ℕ
    pub numbered : station ≤ last_station
    pub events : List Event
    pub ours : Every (λ e. Ours (begun e)) events
    pub there : happen events (fresh_world station) ≡ w

  -- ---- what somebody was told stands: the side boots with what the whole call left
  abbrev pub ToldStands : Type 0
  ToldStands =
      (x : Step) (w : World M) (k : ℕ) → (does s x w).refusal ≡ 0 → told (take k o) ≡ true
      → cut_in s o k x w ≡ boots (caller_of x w.wire) (does s x w).world

  module _ (refusesRoom : M → Bool) where
    -- broken sessions, with cuts among them, and then a session that runs through
    abbrev pub after_cuts : List Event → World M → Turn M
    after_cuts es w = tries s full (happen es w)

    -- what holds of both sessions, the one at once and the one after cuts
    abbrev pub AfterCuts : (World M → World M → Type 0) → Type 0
    AfterCuts Holds =
        (w : World M) → ReachedWithCuts w → NoSession w
        → (es : List Event) → Every (λ e. SessionsOnly (begun e)) es
        → (at_once s refusesRoom w).refusal ≡ 0 → (after_cuts es w).refusal ≡ 0
        → NoRoomRefusal s refusesRoom w (at_once s refusesRoom w).world
        → Holds (at_once s refusesRoom w).world (after_cuts es w).world

    -- ---- demand 3 with power cuts (its words: crates/demand3/specs/Demand3.antt)
    pub record Demand3WithCuts : Type 0 where
      -- every point that is reached with cuts is one that demand 3 speaks of: so pairing, running through and keeping hold there
      pub reached : (w : World M) → ReachedWithCuts w → Reached s refusesRoom w
      -- "any number of broken sessions", cuts among them, "and then one that runs through leave the same cards .. as one session run through at once"
      pub converges : AfterCuts (λ once again. SameCards again once)
      -- "Each card then stands once on each side, paired, with equal text."
      pub in_step : AfterCuts (λ once again. InStep once × InStep again)
