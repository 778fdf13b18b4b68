-- Whatever bytes come, and whatever output is lent: the server's table stays safe and its rule as it was, the press's table well-formed and its number as it was, and no two records have one LUID. Assumes nothing.
use Prim.Native.Nat.{ℕ}
use mathlib.Core.Path.{◌≡◌, refl}
use mathlib.Core.Bool.{Bool, true, false, cond}
use mathlib.Core.List.{List, []}
use native.Mathlib.Omega.{arith}
use lib.Dec.{eqb, leb}
use lib.ListN.{length}
use lib.Seq.{sets}
use Rattle.places.proofs.Every.{Every, every}
use Rattle.token.specs.Ans.{Ans, got, bad}
use Rattle.text.specs.Wording.{IsWording}
use Rattle.message.specs.declared.Content.{Content}
use Rattle.message.specs.Message.{Message, form_of, read_message}
use Rattle.message.specs.Answer.{content_for}
use Rattle.terms.specs.Check.{checked, or_refuse}
use Rattle.terms.proofs.CheckLaws.{of_either}
use Rattle.cards.specs.declared.Awaits as card
use Rattle.cards.specs.declared.Press.{Press}
use Rattle.cards.specs.Press.{fresh_press, WellFormed}
use Rattle.cards.proofs.FreshLaws.{fresh_kept}
use Rattle.records.specs.declared.Awaits as rec
use Rattle.records.specs.declared.Server.{Server}
use Rattle.packages.specs.Package.{commands_in}
use Rattle.record_moves.specs.Named.{Safe}
use Rattle.server_rules.specs.Took.{Took}
use Rattle.server_rules.specs.Pkg1.{server_takes1}
use Rattle.server_rules.proofs.SafeServer.{SafeTook, takes_1_safe, takes_3_safe, takes_5_safe}
use Rattle.server_rules.proofs.TakesLaws.{takes_1_in, takes_3_in, takes_5_in}
use Rattle.press_rules.specs.Took as atPress
use Rattle.press_rules.proofs.FormedPress.{takes_2_formed, takes_4_formed, takes_6_formed}
use Rattle.press_sends.proofs.OwnNumber.{takes_2_own, takes_4_own, takes_6_own}
use Rattle.sendable.specs.Sendable.{Sendable, Readable}
use Rattle.sendable.proofs.ReadLaws.{read_readable}
use Rattle.calls.specs.Reply.{Reply}
use Rattle.calls.specs.Says.{Says, sends, done, refuses, Called, sending, refusing}
use Rattle.calls.specs.After.{After, after, refused_with, if_read, bytes_for, says_in, answered_in}
use Rattle.press_awaits.specs.Awaited as press
use Rattle.press_awaits.specs.OnContent.{press_replies, press_ruled, press_judges}
use Rattle.press_calls.specs.Call.{press_takes}
use Rattle.server_awaits.specs.Awaited as server
use Rattle.server_awaits.specs.OnContent.{server_ruled, server_judges}
use Rattle.server_calls.specs.Call.{server_takes}
use Rattle.course.specs.Course.{World, clear}
use Rattle.demand3.specs.AnyMessage.{ServerStaysSafe, PressStaysFormed, PressKeepsNumber, ServerKeepsRule, NoLuidTwice}
use Rattle.demand3.proofs.PairLaws.{one_pair}

-- the texts and stations of what was read keep their rules
texts : (x : Content) → Readable x → Every (λ c. IsWording c.wording) (commands_in x)
texts x r = every (Sendable (form_of x.head.pkg).commands) (λ c. IsWording c.wording) (λ c k. k.1) (commands_in x) r.commands

-- ---- what holds of a side as it was, and of what the rules make of it, holds of the side that a call leaves: refused (7, 9) or not
module _ {S : Type 0} (In : S → Type 0) (s : S) (h : In s) (out : List ℕ) where
  said : (t : S) → In t → (m : Says Content) → In (says_in s t out m).side
  said t k (sends x) =
      let w = bytes_for x in
      of_either (checked (leb (length w) (length out))) (refused_with 9 s out) (after (Reply.Written (length w)) t (sets out 0 w)) (λ (a : After S). In a.side) h k
  said t k done = k
  said t k (refuses n) = k

  read : (f : Content → Called S Content) → ((x : Content) → Readable x → In (f x).side) → (m : List ℕ)
      → In (if_read (read_message m) (refused_with 7 s out) (λ x. answered_in s out (f x))).side
  read f k m = go (read_message m) refl
    where
      go : (a : Ans Message) → read_message m ≡ a → In (if_read a (refused_with 7 s out) (λ x. answered_in s out (f x))).side
      go (bad n q) e = h
      go (got x q) e = let c = f (content_for x) in said c.side (k (content_for x) (read_readable m x q e)) c.says

-- ---- the server
module _ (In : Server → Type 0) (s : Server) (h : In s) where
  abbrev InTook : Took → Type 0
  InTook t = In t.server

  abbrev InServed : Called Server Content → Type 0
  InServed c = In c.side

  server_judged : ((x : Content) → Readable x → InTook (server_takes1 s x)) → ((a : rec.Awaits) (x : Content) → Readable x → InTook (server.later_does a s x)) → (x : Content) → Readable x → InServed (server_judges s x)
  server_judged first later x r =
      let t = server.server_does s.link.awaits s x in
      let new = checked (server.is_new s.link.session x.head) in
      of_either (checked (server.awaited s.link.awaits s.link.session x.head)) (refusing 5 s) (or_refuse new (refusing 6 s) (server_ruled s t)) InServed h
      (of_either new (refusing 6 s) (server_ruled s t) InServed h
      (of_either t.check (refusing 8 s) (sending t.server t.answer) InServed h (by_kind (eqb x.head.pkg 1))))
    where
      by_kind : (b : Bool) → InTook (cond b (server_takes1 s x) (server.later_does s.link.awaits s x))
      by_kind true = first x r
      by_kind false = later s.link.awaits x r

  -- what each package keeps every message does
  server_keeps : ((x : Content) → Readable x → InTook (server_takes1 s x)) → ((a : rec.Awaits) (x : Content) → Readable x → InTook (server.later_does a s x)) → (m out : List ℕ) → In (server_takes s m out).side
  unfolding server_takes
  server_keeps first later m out = read In s h out (server_judges s) (server_judged first later) m

pub server_stays_safe : ServerStaysSafe
server_stays_safe s h m out = server_keeps (λ (t : Server). Safe t.records) s h (λ x r. takes_1_safe s h x) does m out
  where
    does : (a : rec.Awaits) (x : Content) → Readable x → SafeTook (server.later_does a s x)
    does rec.Awaits.Nothing x r = takes_1_safe s h x
    does (rec.Awaits.Three m) x r = takes_3_safe s h m x (texts x r)
    does (rec.Awaits.Five n) x r = takes_5_safe s h n x

pub server_keeps_rule : ServerKeepsRule
server_keeps_rule s m out = server_keeps Same s refl (λ x r. takes_1_in Same s refl x refl) does m out
  where
    Same : Server → Type 0
    Same t = t.rule ≡ s.rule

    does : (a : rec.Awaits) (x : Content) → Readable x → Same (server.later_does a s x).server
    does rec.Awaits.Nothing x r = takes_1_in Same s refl x refl
    does (rec.Awaits.Three m) x r = takes_3_in Same s refl m x refl
    does (rec.Awaits.Five n) x r = takes_5_in Same s refl n x refl

-- ---- the press
module _ (In : Press → Type 0) (p : Press) (h : In p) where
  abbrev InCalled : Called Press Content → Type 0
  InCalled c = In c.side

  press_judged : ((x : Content) → Readable x → In (press.press_does p.awaits p x).press) → (x : Content) → Readable x → InCalled (press_judges p x)
  press_judged does x r =
      let t = press.press_does p.awaits p x in
      of_either (checked (press.awaited p.awaits p.session x.head)) (refusing 5 p) (press_ruled p x.head.pkg t) InCalled h
      (of_either t.check (refusing 8 p) (press_replies x.head.pkg t) InCalled h (replied (eqb x.head.pkg 6) t (does x r)))
    where
      replied : (b : Bool) (t : atPress.Took) → In t.press → InCalled (cond b (record { side = t.press; says = done }) (sending t.press t.answer))
      replied true t k = k
      replied false t k = k

  -- what the package that is awaited keeps every message does
  pub press_keeps : ((x : Content) → Readable x → In (press.press_does p.awaits p x).press) → (m out : List ℕ) → In (press_takes p m out).side
  unfolding press_takes
  press_keeps does m out = read In p h out (press_judges p) (press_judged does) m

pub press_stays_formed : PressStaysFormed
press_stays_formed p h m out = press_keeps (λ (q : Press). WellFormed q.cards) p h (does p.awaits) m out
  where
    does : (a : card.Awaits) (x : Content) → Readable x → WellFormed (press.press_does a p x).press.cards
    does card.Awaits.Nothing x r = h
    does card.Awaits.Two x r = takes_2_formed p h x
    does (card.Awaits.Four m) x r = takes_4_formed p h x m (texts x r)
    does card.Awaits.Six x r = takes_6_formed p h x

pub press_keeps_number : PressKeepsNumber
press_keeps_number p m out = press_keeps (λ (q : Press). q.cards.station ≡ p.cards.station) p refl (does p.awaits) m out
  where
    does : (a : card.Awaits) (x : Content) → Readable x → (press.press_does a p x).press.cards.station ≡ p.cards.station
    does card.Awaits.Nothing x r = refl
    does card.Awaits.Two x r = takes_2_own p x
    does (card.Awaits.Four m) x r = takes_4_own p x m
    does card.Awaits.Six x r = takes_6_own p x

-- ---- no LUID in two records
pub no_luid_twice : NoLuidTwice
no_luid_twice s h m out =
    let w : World (List ℕ) = record { press = fresh_press 1; server = (server_takes s m out).side; wire = clear; written = [] } in
    (one_pair w (fresh_kept 1 (omega arith)) (server_stays_safe s h m out)).one_server_card
