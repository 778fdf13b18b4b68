-- The stores go as the course on the sides, with power cuts; and from two fresh sides demand 3 speaks of what they hold. Assumes nothing.
use Rattle.std.proofs.Common.{Some}
use Prim.Native.Nat.{ℕ, zero, suc}
use mathlib.Core.Path.{◌≡◌, refl, sym, ap, subst, ◌∙◌}
use mathlib.Core.Bool.{Bool, true, false, cond}
use mathlib.Core.List.{List, [], ◌∷◌}
use native.Mathlib.Omega.{arith}
use borrow.Author.Tests.{ne_eqb}
use lib.Dec.{eqb}
use lib.ListN.{length}
use Rattle.cards.specs.Made as fresh
use Rattle.cards.specs.Press.{fresh_press, press_fresh, made_for}
use Rattle.records.specs.Server.{fresh_server}
use Rattle.image.specs.Keeping.{Keeping, standing}
use Rattle.image.specs.OnImage.{no_image, did, refused, Left, left, leaves, stands_for}
use Rattle.press_image.specs.Image.{press_keeping}
use Rattle.press_image.proofs.ImageLaws as press
use Rattle.press_image.specs.Kept as atPress
use Rattle.server_image.specs.Image.{server_keeping}
use Rattle.server_image.proofs.ImageLaws as server
use Rattle.course.specs.Course.{World, fresh_world, Turn, and_then, does, Doing, tries, full}
use Rattle.course.specs.OnBytes.{on_bytes}
use Rattle.demand3.specs.Demand3.{room_refused_in}
use Rattle.power.specs.Power.{store_first}
use Rattle.power.specs.WithCuts.{Event, goes_on, cut_after, happens, happen, after_cuts}
use Rattle.power.proofs.Demand3.{with_cuts_on_bytes}
use Rattle.stored_courses.specs.OnStores.{Stands, line}
use Rattle.stored_courses.specs.Run.{Plant, Holds, UnlessRefused, Tries, Happens, Follows, FreshIn, FreshHolds, StoresReach, StoresInStep}
use Rattle.stored_courses.proofs.StoreLaws.{whole_stands}
use Rattle.stored_courses.proofs.StepLaws.{step_holds, cut_step_holds}

-- ---- small steps up to the first refusal, and courses
module _ (out : List ℕ) where
  abbrev TriesHold : Plant → ℕ → Turn (List ℕ) → Type 0
  TriesHold q n t = (n ≡ t.refusal) × Holds q t.world

  tries_hold : (d : Doing) (p q : Plant) (n : ℕ) (w : World (List ℕ)) → Holds p w → Tries (length out) d p n q → TriesHold q n (tries (on_bytes out) d w)
  unfolding tries
  tries_hold [] p q n w h e = (e.0, subst (λ (r : Plant). Holds r w) (sym e.1) h)
  tries_hold (x ∷ xs) p q n w h f =
      let k = step_holds out w p f.between h x f.number f.does in
      go (does (on_bytes out) x w) f.between f.number k.0 k.1 f.then (λ i. tries_hold xs f.between q n (does (on_bytes out) x w).world k.1 i)
    where
      go : (t : Turn (List ℕ)) (r : Plant) (m : ℕ) → m ≡ t.refusal → Holds r t.world → UnlessRefused m (Tries (length out) xs r n q) ((n ≡ m) × (q ≡ r))
          → (Tries (length out) xs r n q → TriesHold q n (tries (on_bytes out) xs t.world)) → TriesHold q n (and_then t (tries (on_bytes out) xs))
      go t r zero e k i rest = subst (λ (b : Bool). TriesHold q n (cond b (tries (on_bytes out) xs t.world) t)) (ap (λ (m : ℕ). eqb m 0) e) (rest i)
      go t r (suc m) e k i rest =
          subst (λ (b : Bool). TriesHold q n (cond b (tries (on_bytes out) xs t.world) t)) (sym (ne_eqb t.refusal 0 (λ z. omega (arith, e, z))))
          (i.0 ∙ e, subst (λ (s : Plant). Holds s t.world) (sym i.1) k)

  event_holds : (e : Event) (p q : Plant) (w : World (List ℕ)) → Holds p w → Happens (length out) e p q → Holds q (happens (on_bytes out) store_first e w)
  event_holds (goes_on d) p q w h r = (tries_hold d p q r.number w h r.tries).1
  event_holds (cut_after k x) p q w h r = cut_step_holds out w p q h x k r

pub follows : Follows
unfolding happen
follows out [] p q w h e = subst (λ (r : Plant). Holds r w) (sym e) h
follows out (e ∷ es) p q w h r =
    follows out es r.between q (happens (on_bytes out) store_first e w) (event_holds out e p r.between w h r.happens) r.then

-- ---- from two fresh sides
made_stands : {S : Type 0} (k : Keeping S) (p : S) (slots : List ℕ) → FreshIn k (did 0 p) slots → Stands k slots p
made_stands k p slots f = whole_stands k f.before f.image slots p (go (eqb (length f.lent) k.size) f.fresh.0 f.fresh.1) f.stored
  where
    go : (b : Bool) → left 0 f.image 0 ≡ cond b (leaves k (did 0 p) f.lent 0) (left no_image f.lent 0)
        → standing k f.image ≡ cond b (stands_for (did 0 p) (standing k f.lent)) (standing k f.lent) → standing k f.image ≡ Some p
    go true n s = s
    go false n s = absurd (omega (arith, ap (λ (x : Left). x.number) n))

press_made : (station : ℕ) (slots : List ℕ) → FreshIn press_keeping (atPress.made (press_fresh station)) slots → Stands press_keeping slots (fresh_press station)
unfolding made_for
press_made station slots = go (eqb station 0)
  where
    none_made : (b : Bool) (f : FreshIn press_keeping (refused 4) slots) → left 0 f.image 0 ≡ cond b (left 4 f.lent 0) (left no_image f.lent 0) → ⊥
    none_made true f n = omega (arith, ap (λ (x : Left). x.number) n)
    none_made false f n = omega (arith, ap (λ (x : Left). x.number) n)

    go : (b : Bool) → FreshIn press_keeping (atPress.made_as (cond b (fresh.Made.Refused 4) fresh.Made.Done) (fresh_press station)) slots → Stands press_keeping slots (fresh_press station)
    go true f = absurd (none_made (eqb (length f.lent) press_keeping.size) f f.fresh.0)
    go false f = made_stands press_keeping (fresh_press station) slots f

pub fresh_holds : FreshHolds
fresh_holds station p f = record { press = press_made station p.press f.press; server = made_stands server_keeping fresh_server p.server f.server; line = f.line }

pub stores_reach : StoresReach
stores_reach out station numbered events ours p q f r =
    let w = happen (on_bytes out) store_first events (fresh_world station) in
    record {
      world = w;
      holds = follows out events p q (fresh_world station) (fresh_holds station p f) r;
      reached = record { station = station; numbered = numbered; events = events; ours = ours; there = refl };
    }

pub stores_in_step : StoresInStep
stores_in_step out room p at closed es only q r run through once fits =
    let d = with_cuts_on_bytes out room in
    let k = tries_hold out full q r 0 (happen (on_bytes out) store_first es at.world) (follows out es p q at.world at.holds run) through in
    record { world = (after_cuts (on_bytes out) store_first room_refused_in es at.world).world; holds = k.1; in_step = (d.in_step at.world at.reached closed es only once (sym k.0) fits).1 }
