-- What a command leaves, for the act that it is and whichever side it is for; giving up is a small step of a course. Assumes nothing.
use Prim.Native.Nat.{ℕ, ◌+◌, ◌-◌, min}
use mathlib.Core.Path.{◌≡◌, refl, sym, ap, ap₂, ◌∙◌}
use mathlib.Core.Bool.{Bool, true, false}
use mathlib.Core.List.{List, ◌++◌}
use native.Mathlib.Omega.{arith}
use lib.ListN.{length, take, drop}
use Rattle.std.specs.Prelude.{Result}
use Rattle.terms.specs.declared.Refusal.{Refusal}
use Rattle.token.specs.Put.{Put}
use Rattle.cards.specs.Press.{press_gives_up}
use Rattle.records.specs.declared.Rule.{Rule}
use Rattle.records.specs.Server.{server_gives_up, server_goes_by}
use Rattle.calls.specs.Reply.{Reply}
use Rattle.calls.specs.After.{after}
use Rattle.press_edits.specs.Edited as atPress
use Rattle.server_edits.specs.Edited as atServer
use Rattle.course.specs.Course.{alone, set_rule, press_give_up, server_give_up, at_the_press, at_the_server}
use Rattle.script.specs.declared.Act.{Act}
use Rattle.answers.specs.declared.Answer.{Answer}
use Rattle.answers.specs.Said.{Said, said_as}
use Rattle.desk.specs.declared.Wire.{Wire}
use Rattle.desk.specs.declared.Desk.{Desk}
use Rattle.desk.specs.Desk.{with_press, with_server, saying, world_of, desk_after, Becomes}
use Rattle.desk.proofs.LentLaws.{lent_as}
use Rattle.desk.proofs.DeskLaws.{held_same, press_up, server_up, rule_up}
use Rattle.desk.specs.Lent.{within, said_of}
use Rattle.acts.specs.Acts.{Left, left, Side, Answers, edit_told, heard, hears, shows, acts}
use Rattle.acts.specs.PressSide.{press_edited, press_side}
use Rattle.acts.specs.ServerSide.{server_edited, server_side, rule_told}

module _ {S : Type 0} (x : Side S) (d : Desk) (o : List ℕ) where
  -- ---- parts of a command
  heard_as : {r : Reply} {s : S} {o' m : List ℕ} → after r s o' ≡ within (x.takes (x.here d) m) d.lent o → left (saying (x.back d s) (said_of r)) o' ≡ hears x d m o
  unfolding hears
  heard_as e = ap (heard x d) e

  -- so much is lent as the desk lends and the output has room for
  pub hears_as : {s s' : S} {lent n : ℕ} {m p : List ℕ} {r : Reply} {t : Said} → x.here d ≡ s → d.lent ≡ lent → n ≡ min lent (length o)
      → after r s' p ≡ x.takes s m (take n o) → t ≡ said_of r → left (saying (x.back d s') t) (p ++ drop n o) ≡ hears x d m o
  hears_as {s} {s'} {lent} {n} {m} {p} {r} {t} h l e k q =
      let fits : n ≡ min d.lent (length o) = rw l e in
      rw q (heard_as (lent_as d.lent o fits (x.takes (x.here d) m) (rw h k)))

  -- ---- the command, by the act that it is
  module _ (line : List ℕ) {s : S} (h : x.here d ≡ s) {a : Act} where
    pub added : {at : ℕ} {l : List ℕ} (r : Result Answer Refusal) {s' : S} → a ≡ Act.Add at → l ≡ drop at line → Answers (x.adds s l) true r s'
        → left (saying (x.back d s') (said_as r)) o ≡ acts x d a line o
    unfolding acts
    added r p q k = rw (p, h, ← q, k.0, k.1)

    pub edited : {n at : ℕ} {l : List ℕ} (r : Result Answer Refusal) {s' : S} → a ≡ Act.Edit n at → l ≡ drop at line → Answers (x.edits s n l) false r s'
        → left (saying (x.back d s') (said_as r)) o ≡ acts x d a line o
    unfolding acts
    edited r p q k = rw (p, h, ← q, k.0, k.1)

    pub deleted : {n : ℕ} (r : Result Answer Refusal) {s' : S} → a ≡ Act.Delete n → Answers (x.deletes s n) false r s'
        → left (saying (x.back d s') (said_as r)) o ≡ acts x d a line o
    unfolding acts
    deleted r p k = rw (p, h, k.0, k.1)

    pub messaged : {at : ℕ} {l : List ℕ} {m : Left} → a ≡ Act.Message at → l ≡ drop at line → m ≡ hears x d l o → m ≡ acts x d a line o
    unfolding acts
    messaged p q k = rw (p, ← q) k

    pub gave_up : {s' : S} → a ≡ Act.GiveUp → s' ≡ x.gives_up s → left (saying (x.back d s') Said.Yes) o ≡ acts x d a line o
    unfolding acts
    gave_up p k = rw (p, h, k)

    module _ (stays : x.back d (x.here d) ≡ d) where
      pub showed : {n : ℕ} {o' : List ℕ} → a ≡ Act.Tables → Put o o' 0 n (x.block s) → left (saying (x.back d s) (Said.Standing n)) o' ≡ acts x d a line o
      unfolding acts shows
      showed {n} {o'} p k =
          let b : List ℕ = x.block (x.here d) in
          let z : length o - 0 ≡ length o = omega arith in
          let y : 0 + min (length b) (length o) ≡ min (length b) (length o) = omega arith in
          let put : Put o o' 0 n b = rw h k in
          let e : n ≡ min (length b) (length o) = put.place ∙ (ap (λ (k : ℕ). 0 + min (length b) k) z ∙ y) in
          rw p (ap₂ left (ap₂ saying (rw (← h) stays) (ap (λ (k : ℕ). Said.Standing k) e)) put.bytes)

      pub unknown : a ≡ Act.Unknown → left (saying (x.back d s) Said.Unknown) o ≡ acts x d a line o
      unfolding acts
      unknown p = rw (p, ← h) (ap (λ (e : Desk). left (saying e Said.Unknown) o) stays)

-- ---- giving up is a small step of a course
pub press_step : (d : Desk) (line o : List ℕ) → Becomes d (alone press_give_up) (acts press_side d Act.GiveUp line o).told.desk
unfolding acts
press_step d line o = press_up d (with_press d (press_gives_up d.press) d.wire) (press_gives_up d.press) refl refl

pub server_step : (d : Desk) (line o : List ℕ) → Becomes d (alone server_give_up) (acts server_side d Act.GiveUp line o).told.desk
unfolding acts
server_step d line o = server_up d (with_server d (server_gives_up d.server) d.wire) (server_gives_up d.server) refl refl

-- so is setting the rule
pub rule_step : (d : Desk) (rule : Rule) → Becomes d (alone (set_rule rule)) (rule_told d rule).desk
rule_step d rule = rule_up rule d (rule_told d rule).desk (server_goes_by rule d.server) refl refl

-- ---- and an edit is one too
pub press_edited_as : (d : Desk) (e : atPress.Edited) (add : Bool) (b : List ℕ) → (edit_told press_side d (press_edited e) add).desk ≡ desk_after d (at_the_press (world_of d b) e).world
press_edited_as d e add b = ap (λ (x : Wire). with_press d e.press x) (sym (held_same d.wire b))

pub server_edited_as : (d : Desk) (e : atServer.Edited) (add : Bool) (b : List ℕ) → (edit_told server_side d (server_edited e) add).desk ≡ desk_after d (at_the_server (world_of d b) e).world
server_edited_as d e add b = ap (λ (x : Wire). with_server d e.server x) (sym (held_same d.wire b))
