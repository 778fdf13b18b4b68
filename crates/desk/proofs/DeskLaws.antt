-- The desk as a world of a course, and back. Assumes nothing.
use Prim.Native.Nat.{ℕ}
use mathlib.Core.Path.{◌≡◌, refl, sym, ap, ◌∙◌}
use mathlib.Core.List.{List, [], ◌∷◌, ◌++◌}
use Rattle.cards.specs.declared.Press.{Press}
use Rattle.cards.specs.Press.{press_gives_up}
use Rattle.records.specs.declared.Rule.{Rule}
use Rattle.records.specs.declared.Server.{Server}
use Rattle.records.specs.Server.{server_gives_up, server_goes_by}
use Rattle.course.specs.Course as course
use Rattle.desk.specs.declared.Wire.{Wire}
use Rattle.desk.specs.declared.Wire.TheVariants.{Empty, ToPress, ToServer}
use Rattle.desk.specs.declared.Desk.{Desk}
use Rattle.desk.specs.Desk.{with_press, with_server, message_on, held_now, held_after, Becomes}

-- ---- what the wire holds
-- as before, where nothing was written
pub held_same : (x : Wire) (b : List ℕ) → held_after x [] (message_on x b) ≡ x
held_same Empty b = refl
held_same (ToPress n) b = refl
held_same (ToServer n) b = refl

-- the last message, where one was written
pub held_more : (x : Wire) (ms : List (List ℕ)) (m : List ℕ) (y : course.Wire (List ℕ)) → held_after x (ms ++ (m ∷ [])) y ≡ held_now y
held_more x [] m y = refl
held_more x (a ∷ ms) m y = refl

pub held_none : (x : Wire) (ms : List (List ℕ)) → held_after x ms course.clear ≡ Empty
held_none x [] = refl
held_none x (a ∷ ms) = refl

-- ---- a side gives up
pub press_up : (d r : Desk) (p : Press) → p ≡ press_gives_up d.press → r ≡ with_press d p d.wire → Becomes d (course.alone course.press_give_up) r
unfolding course.tries
press_up d r p e h s b = h ∙ (ap (λ (x : Press). with_press d x d.wire) e ∙ ap (λ (x : Wire). with_press d (press_gives_up d.press) x) (sym (held_same d.wire b)))

-- the server alone is another one
server_stays : (d r : Desk) (p q : Server) → p ≡ q → r ≡ with_server d p d.wire → (b : List ℕ) → r ≡ with_server d q (held_after d.wire [] (message_on d.wire b))
server_stays d r p q e h b = h ∙ (ap (λ (x : Server). with_server d x d.wire) e ∙ ap (λ (x : Wire). with_server d q x) (sym (held_same d.wire b)))

pub server_up : (d r : Desk) (p : Server) → p ≡ server_gives_up d.server → r ≡ with_server d p d.wire → Becomes d (course.alone course.server_give_up) r
unfolding course.tries
server_up d r p e h s b = server_stays d r p (server_gives_up d.server) e h b

-- ---- the rule is set
pub rule_up : (rule : Rule) (d r : Desk) (p : Server) → p ≡ server_goes_by rule d.server → r ≡ with_server d p d.wire → Becomes d (course.alone (course.set_rule rule)) r
unfolding course.tries
rule_up rule d r p e h s b = server_stays d r p (server_goes_by rule d.server) e h b

-- ---- the wire loses its message; both sides give up too
pub lost_as : (d : Desk) → Becomes d (course.alone course.lose) (record { press = d.press; server = d.server; wire = Empty; lent = d.lent })
unfolding course.tries
lost_as d s b = refl

pub cut_as : (d : Desk) → Becomes d course.cut (record { press = press_gives_up d.press; server = server_gives_up d.server; wire = Empty; lent = d.lent })
unfolding course.tries
cut_as d s b = refl
