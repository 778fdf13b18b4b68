-- Whatever bytes come: both sides' numbers stay in range, and with the message limit lent 9 is never answered. Assumes nothing.
use Prim.Native.Nat.{ℕ, ◌≤◌}
use mathlib.Core.Path.{◌≡◌, refl, sym, subst}
use mathlib.Core.Bool.{Bool, true, false}
use mathlib.Core.List.{List}
use native.Mathlib.Omega.{arith}
use lib.Dec.{leb}
use lib.ListN.{length}
use lib.Seq.{sets}
use Rattle.token.specs.Ans.{Ans, got, bad}
use Rattle.cards.specs.declared.Press.{Press}
use Rattle.records.specs.declared.Server.{Server}
use Rattle.message.specs.declared.Content.{Content}
use Rattle.message.specs.Message.{Message, limit, read_message}
use Rattle.message.specs.Answer.{content_for}
use Rattle.calls.specs.Reply.{Reply}
use Rattle.calls.specs.Says.{Says, sends, done, refuses, Called}
use Rattle.terms.specs.Check.{checked, or_refuse}
use Rattle.calls.specs.After.{After, after, refused_with, if_read, bytes_for, says_in, answered_in}
use Rattle.sendable.specs.Sendable.{Readable}
use Rattle.sendable.proofs.ReadLaws.{read_readable}
use Rattle.press_awaits.specs.OnContent.{press_begins, press_judges}
use Rattle.press_calls.specs.Call.{press_start, press_takes}
use Rattle.press_sends.specs.InRange.{PressInRange}
use Rattle.server_awaits.specs.OnContent.{server_judges}
use Rattle.server_calls.specs.Call.{server_takes}
use Rattle.server_sends.specs.InRange.{ServerInRange}
use Rattle.course.proofs.WellLaws.{CalledWell, begins_well, press_judges_well, server_judges_well}
use Rattle.course.proofs.RefusalLaws.{RefusesAs, Refuses, refused, begins_refuses, press_refuses, server_refuses}
use Rattle.course.proofs.LengthLaws.{answer_in}
use Rattle.course.proofs.DeliveredLaws.{in_bytes, as_bytes, delivered}

-- ---- with any output lent the side stays in range
module _ (out : List ℕ) {S : Type 0} (In : S → Type 0) (p : S) (h : In p) where
  said_in : (c : Called S Content) → In c.side → In (answered_in p out c).side
  said_in c i = go c.says
    where
      go : (m : Says Content) → In (says_in p c.side out m).side
      go (sends x) = room (leb (length (bytes_for x)) (length out))
        where
          room : (b : Bool) → In (or_refuse (checked b) (refused_with 9 p out) (after (Reply.Written (length (bytes_for x))) c.side (sets out 0 (bytes_for x)))).side
          room true = i
          room false = h
      go done = i
      go (refuses n) = i

  read_in : (f : Content → Called S Content) → ((x : Content) → Readable x → CalledWell In (f x)) → (m : List ℕ) → In (if_read (read_message m) (refused_with 7 p out) (λ x. answered_in p out (f x))).side
  read_in f w m = go (read_message m) refl
    where
      go : (a : Ans Message) → read_message m ≡ a → In (if_read a (refused_with 7 p out) (λ x. answered_in p out (f x))).side
      go (bad k q) e = h
      go (got x q) e = said_in (f (content_for x)) (w (content_for x) (read_readable m x q e)).0

pub start_in_range : (out : List ℕ) (p : Press) → PressInRange p → PressInRange (press_start p out).side
unfolding press_start
start_in_range out p h = said_in out PressInRange p h (press_begins p) (begins_well p h).0

pub press_takes_in_range : (out : List ℕ) (p : Press) → PressInRange p → (m : List ℕ) → PressInRange (press_takes p m out).side
unfolding press_takes
press_takes_in_range out p h m = read_in out PressInRange p h (press_judges p) (press_judges_well p h) m

pub server_takes_in_range : (out : List ℕ) (s : Server) → ServerInRange s → (m : List ℕ) → ServerInRange (server_takes s m out).side
unfolding server_takes
server_takes_in_range out s h m = read_in out ServerInRange s h (server_judges s) (server_judges_well s h) m

-- ---- a call that leaves its side in range and does not answer 9
pub record Safe9 {S : Type 0} (In : S → Type 0) (a : After S) : Type 0 where
  pub side : In a.side
  pub never9 : a.reply ≡ Reply.Refused 9 → ⊥

module _ (out : List ℕ) (room : limit ≤ length out) {S : Type 0} (In : S → Type 0) (p : S) where
  in_bytes_lem : (c : Called S Content) → In c.side → Refuses p c → Safe9 In (answer_in out (as_bytes c))
  in_bytes_lem c i r = go c.says r
    where
      go : (m : Says Content) → RefusesAs p c.side m → Safe9 In (answer_in out (record { side = c.side; says = in_bytes m }))
      go (sends x) k = record { side = i; never9 = λ e. let z : ◌≡◌ {A = ℕ} 0 1 = cc in absurd (omega arith) }
      go done k = record { side = i; never9 = λ e. let z : ◌≡◌ {A = ℕ} 0 1 = cc in absurd (omega arith) }
      go (refuses n) k = record { side = i; never9 = λ e. k.not_9 (cc) }

  said_safe : (c : Called S Content) → CalledWell In c → Refuses p c → Safe9 In (answered_in p out c)
  said_safe c w r = subst (Safe9 In) (sym (delivered out room p c w.1)) (in_bytes_lem c w.0 r)

  read_safe : In p → (f : Content → Called S Content) → ((x : Content) → Readable x → CalledWell In (f x)) → ((x : Content) → Refuses p (f x)) → (m : List ℕ)
      → Safe9 In (if_read (read_message m) (refused_with 7 p out) (λ x. answered_in p out (f x)))
  read_safe h f w r m = go (read_message m) refl
    where
      go : (a : Ans Message) → read_message m ≡ a → Safe9 In (if_read a (refused_with 7 p out) (λ x. answered_in p out (f x)))
      go (bad k q) e = record { side = h; never9 = λ e. (refused 7 p (omega arith) (omega arith)).not_9 (cc) }
      go (got x q) e = said_safe (f (content_for x)) (w (content_for x) (read_readable m x q e)) (r (content_for x))

-- ---- the three calls
module _ (out : List ℕ) (room : limit ≤ length out) where
  pub start_safe : (p : Press) → PressInRange p → Safe9 PressInRange (press_start p out)
  unfolding press_start
  start_safe p h = said_safe out room PressInRange p (press_begins p) (begins_well p h) (begins_refuses p)

  pub press_takes_safe : (p : Press) → PressInRange p → (m : List ℕ) → Safe9 PressInRange (press_takes p m out)
  unfolding press_takes
  press_takes_safe p h m = read_safe out room PressInRange p h (press_judges p) (press_judges_well p h) (press_refuses p) m

  pub server_takes_safe : (s : Server) → ServerInRange s → (m : List ℕ) → Safe9 ServerInRange (server_takes s m out)
  unfolding server_takes
  server_takes_safe s h m = read_safe out room ServerInRange s h (server_judges s) (server_judges_well s h) (server_refuses s) m
