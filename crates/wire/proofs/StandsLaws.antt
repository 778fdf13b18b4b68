-- After small steps from a desk, the desk and the wire's buffer stand for the world that they lead to: so commands one after the other are a course. Assumes nothing.
use Prim.Native.Nat.{ℕ, ◌≤◌}
use mathlib.Core.Path.{◌≡◌, ap, ◌∙◌}
use mathlib.Core.Bool.{Bool, true, false, cond}
use mathlib.Core.List.{List, [], ◌∷◌, ◌++◌}
use lib.Dec.{eqb}
use lib.ListN.{length, take}
use Rattle.cards.specs.declared.Press.{Press}
use Rattle.records.specs.declared.Server.{Server}
use Rattle.press_calls.specs.Call.{press_start, press_takes}
use Rattle.server_calls.specs.Call.{server_takes}
use Rattle.course.specs.Course as course
use Rattle.course.proofs.LengthLaws.{start_by, press_by, server_by_lem}
use Rattle.desk.specs.declared.Wire.{Wire}
use Rattle.desk.specs.declared.Desk.{Desk}
use Rattle.desk.specs.Desk.{message_on, world_of, desk_after}
use Rattle.desk.proofs.DeskLaws.{held_same, held_more, held_none}
use Rattle.wire.specs.Wire.{lent_for, tried, laid}
use Rattle.wire.proofs.CourseLaws.{Small, heard_small, sides, part_most, for_server, for_press, front}

module _ (d : Desk) (w o : List ℕ) where
  -- the wire is as before, and nothing was written; it has the last message written; or it is clear
  data Standing : course.World (List ℕ) → Type 0 where
    as_before : (p : Press) (s : Server) → Standing (record { press = p; server = s; wire = message_on d.wire w; written = [] })
    last_to_server : (p : Press) (s : Server) (ms : List (List ℕ)) (m : List ℕ) → length m ≤ length w → Standing (for_server d w o p s ms m)
    last_to_press : (p : Press) (s : Server) (ms : List (List ℕ)) (m : List ℕ) → length m ≤ length w → Standing (for_press d w o p s ms m)
    off : (p : Press) (s : Server) (ms : List (List ℕ)) → Standing (record { press = p; server = s; wire = course.clear; written = ms })

  -- ---- such a world is what the desk and the wire's buffer stand for
  abbrev bare : course.World (List ℕ) → course.World (List ℕ)
  bare v = record { press = v.press; server = v.server; wire = v.wire; written = [] }

  abbrev with : Press → Server → course.Wire (List ℕ) → course.World (List ℕ)
  with p s x = record { press = p; server = s; wire = x; written = [] }

  stands : (v : course.World (List ℕ)) → Standing v → world_of (desk_after d v) (laid v.written w) ≡ bare v
  stands v (as_before p s) = ap (λ (x : Wire). with p s (message_on x w)) (held_same d.wire w)
  stands v (last_to_server p s ms m f) =
      ap (λ (x : Wire). with p s (message_on x (laid (ms ++ (m ∷ [])) w))) (held_more d.wire ms m (course.to_server m))
      ∙ ap (λ (l : List ℕ). with p s (course.to_server l)) (front d w o p s ms m f)
  stands v (last_to_press p s ms m f) =
      ap (λ (x : Wire). with p s (message_on x (laid (ms ++ (m ∷ [])) w))) (held_more d.wire ms m (course.to_press m))
      ∙ ap (λ (l : List ℕ). with p s (course.to_press l)) (front d w o p s ms m f)
  stands v (off p s ms) = ap (λ (x : Wire). with p s (message_on x (laid ms w))) (held_none d.wire ms)

  -- ---- every small step leads to such a world
  with_press_lem : (v : course.World (List ℕ)) → Standing v → (p : Press) → Standing (course.with_press v p)
  with_press_lem v (as_before q s) p = as_before p s
  with_press_lem v (last_to_server q s ms m f) p = last_to_server p s ms m f
  with_press_lem v (last_to_press q s ms m f) p = last_to_press p s ms m f
  with_press_lem v (off q s ms) p = off p s ms

  with_server_lem : (v : course.World (List ℕ)) → Standing v → (s : Server) → Standing (course.with_server v s)
  with_server_lem v (as_before p r) s = as_before p s
  with_server_lem v (last_to_server p r ms m f) s = last_to_server p s ms m f
  with_server_lem v (last_to_press p r ms m f) s = last_to_press p s ms m f
  with_server_lem v (off p r ms) s = off p s ms

  press_says_lem : (u : course.World (List ℕ)) → Standing u → (x : course.Says (List ℕ)) → Small (length w) x → Standing (course.press_says u x).world
  press_says_lem u h (course.sends m) f = last_to_server u.press u.server u.written m f
  press_says_lem u h course.done f = off u.press u.server u.written
  press_says_lem u h (course.refuses n) f = h

  server_says_lem : (u : course.World (List ℕ)) → Standing u → (x : course.Says (List ℕ)) → Small (length w) x → Standing (course.server_says u x).world
  server_says_lem u h (course.sends m) f = last_to_press u.press u.server u.written m f
  server_says_lem u h course.done f = off u.press u.server u.written
  server_says_lem u h (course.refuses n) f = h

  hands : (v : course.World (List ℕ)) → Standing v → (x : course.Wire (List ℕ)) → Standing (course.hands_over (sides d w o) v x).world
  hands v h course.clear = h
  hands v h (course.to_server m) =
      let c = (sides d w o).server_takes v.server m in
      server_says_lem (course.with_server v c.side) (with_server_lem v h c.side) c.says
      (heard_small v.server (server_takes v.server m) (server_by_lem v.server m) (take (lent_for d w) o) (length w) (part_most d w o))
  hands v h (course.to_press m) =
      let c = (sides d w o).press_takes v.press m in
      press_says_lem (course.with_press v c.side) (with_press_lem v h c.side) c.says
      (heard_small v.press (press_takes v.press m) (press_by v.press m) (take (lent_for d w) o) (length w) (part_most d w o))

  begins : (v : course.World (List ℕ)) → Standing v → Standing (course.starts (sides d w o) v).world
  begins v h =
      let c = (sides d w o).start v.press in
      press_says_lem (course.with_press v c.side) (with_press_lem v h c.side) c.says
      (heard_small v.press (press_start v.press) (start_by v.press) (take (lent_for d w) o) (length w) (part_most d w o))

  does_standing : (x : course.Step) (v : course.World (List ℕ)) → Standing v → Standing (course.does (sides d w o) x v).world
  does_standing (course.press_adds t) v h = with_press_lem v h _
  does_standing (course.press_edits l t) v h = with_press_lem v h _
  does_standing (course.press_deletes l) v h = with_press_lem v h _
  does_standing (course.server_adds t) v h = with_server_lem v h _
  does_standing (course.server_edits g t) v h = with_server_lem v h _
  does_standing (course.server_deletes g) v h = with_server_lem v h _
  does_standing (course.set_rule rule) v h = with_server_lem v h _
  does_standing course.start v h = begins v h
  does_standing course.step v h = hands v h v.wire
  does_standing course.lose v h = off v.press v.server v.written
  does_standing course.press_give_up v h = with_press_lem v h _
  does_standing course.server_give_up v h = with_server_lem v h _
  does_standing (course.handed x) v h = with_server_lem v h _

  then_standing : (t : course.Turn (List ℕ)) (f : course.World (List ℕ) → course.Turn (List ℕ)) → Standing t.world
      → ((v : course.World (List ℕ)) → Standing v → Standing (f v).world) → Standing (course.and_then t f).world
  then_standing t f h k = go (eqb t.refusal 0)
    where
      go : (b : Bool) → Standing (cond {A = course.Turn (List ℕ)} b (f t.world) t).world
      go true = k t.world h
      go false = h

  tries_standing : (x : course.Doing) (v : course.World (List ℕ)) → Standing v → Standing (course.tries (sides d w o) x v).world
  unfolding course.tries
  tries_standing [] v h = h
  tries_standing (a ∷ x) v h = then_standing (course.does (sides d w o) a v) (course.tries (sides d w o) x) (does_standing a v h) (tries_standing x)

  pub stands_after : (x : course.Doing) → (let v = (tried x d w o).world in world_of (desk_after d v) (laid v.written w) ≡ bare v)
  stands_after x = stands (tried x d w o).world (tries_standing x (world_of d w) (as_before d.press d.server))
