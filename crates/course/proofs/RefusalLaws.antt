-- A refusal on content has a number from 1 to 8, and leaves the side as it was. Assumes nothing.
use Prim.Native.Nat.{ℕ, ◌<◌}
use mathlib.Core.Path.{◌≡◌, refl}
use mathlib.Core.Bool.{Bool, true, false, cond, not}
use native.Mathlib.Omega.{arith}
use lib.Dec.{eqb}
use Rattle.terms.specs.Check.{checked, or_refuse}
use Rattle.terms.proofs.CheckLaws.{of_either}
use Rattle.cards.specs.declared.Press.{Press}
use Rattle.cards.specs.Press.{is_open}
use Rattle.records.specs.declared.Server.{Server}
use Rattle.message.specs.declared.Content.{Content}
use Rattle.calls.specs.Says.{Says, sends, done, refuses, Called, sending, refusing}
use Rattle.press_rules.specs.Pkg1.{Started}
use Rattle.press_rules.specs.Took.{Took}
use Rattle.press_rules.specs.Pkg1.{not_started, started, press_starts}
use Rattle.press_awaits.specs.Awaited as press
use Rattle.press_awaits.specs.OnContent.{started_as, press_begins, press_replies, press_ruled, press_judges}
use Rattle.server_awaits.specs.Awaited as server
use Rattle.server_awaits.specs.OnContent.{server_ruled, server_judges}

pub record Refusal {S : Type 0} (p s : S) (n : ℕ) : Type 0 where
  pub not_0 : n ≡ 0 → ⊥
  pub not_9 : n ≡ 9 → ⊥
  pub as_was : s ≡ p

-- the side p was called, and is s now
abbrev pub RefusesAs : {S : Type 0} → S → S → Says Content → Type 0
RefusesAs p s (sends x) = Unit {0}
RefusesAs p s done = Unit {0}
RefusesAs p s (refuses n) = Refusal p s n

abbrev pub Refuses : {S : Type 0} → S → Called S Content → Type 0
Refuses p c = RefusesAs p c.side c.says

pub refused : {S : Type 0} (n : ℕ) (p : S) → 0 < n → n < 9 → Refuses p (refusing n p)
refused n p h k = record { not_0 = λ e. omega (arith, h, e); not_9 = λ e. omega (arith, k, e); as_was = refl }

pub begins_refuses : (p : Press) → Refuses p (press_begins p)
unfolding press_starts
begins_refuses p =
    let left = checked (not (eqb p.session 4294967295)) in
    let As : Started → Type 0 = λ t. Refuses p (started_as p t.start t) in
    of_either (checked (not (is_open p.awaits))) (not_started 1 p) (or_refuse left (not_started 2 p) (started p)) As (refused 1 p (omega arith) (omega arith))
    (of_either left (not_started 2 p) (started p) As (refused 2 p (omega arith) (omega arith)) tt)

pub press_refuses : (p : Press) (x : Content) → Refuses p (press_judges p x)
press_refuses p x =
    let t = press.press_does p.awaits p x in
    of_either (checked (press.awaited p.awaits p.session x.head)) (refusing 5 p) (press_ruled p x.head.pkg t) (Refuses p) (refused 5 p (omega arith) (omega arith))
    (of_either t.check (refusing 8 p) (press_replies x.head.pkg t) (Refuses p) (refused 8 p (omega arith) (omega arith)) (go t (eqb x.head.pkg 6)))
  where
    go : (t : Took) (b : Bool) → Refuses p (cond b (record { side = t.press; says = done }) (sending t.press t.answer))
    go t true = tt
    go t false = tt

pub server_refuses : (s : Server) (x : Content) → Refuses s (server_judges s x)
server_refuses s x =
    let t = server.server_does s.link.awaits s x in
    let new = checked (server.is_new s.link.session x.head) in
    of_either (checked (server.awaited s.link.awaits s.link.session x.head)) (refusing 5 s) (or_refuse new (refusing 6 s) (server_ruled s t)) (Refuses s) (refused 5 s (omega arith) (omega arith))
    (of_either new (refusing 6 s) (server_ruled s t) (Refuses s) (refused 6 s (omega arith) (omega arith))
    (of_either t.check (refusing 8 s) (sending t.server t.answer) (Refuses s) (refused 8 s (omega arith) (omega arith)) tt))
