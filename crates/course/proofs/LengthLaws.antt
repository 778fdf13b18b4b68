-- What a call on bytes leaves depends on the lent output through its length alone: its answer stands at the output's start. Assumes nothing.
use Prim.Native.Nat.{ℕ, ◌+◌, ◌≤◌}
use mathlib.Core.Path.{◌≡◌, refl, sym, ap, ◌∙◌}
use mathlib.Core.Bool.{Bool, true, false}
use mathlib.Core.List.{List}
use native.Mathlib.Omega.{arith}
use lib.Dec.{leb}
use lib.ListN.{length, take, drop}
use lib.Seq.{sets, sets-eq, take-append_seam}
use borrow.Author.Tests.{leb-true}
use Rattle.token.specs.Ans.{Ans, got, bad}
use Rattle.terms.specs.Check.{checked, or_refuse}
use Rattle.cards.specs.declared.Press.{Press}
use Rattle.records.specs.declared.Server.{Server}
use Rattle.message.specs.declared.Content.{Content}
use Rattle.message.specs.Message.{Message, read_message}
use Rattle.message.specs.Answer.{content_for}
use Rattle.calls.specs.Reply.{Reply}
use Rattle.calls.specs.Says.{Says, sends, done, refuses, Called, sending, refusing}
use Rattle.calls.specs.After as call
use Rattle.press_awaits.specs.OnContent.{press_begins, press_judges}
use Rattle.press_calls.specs.Call as pressCall
use Rattle.server_awaits.specs.OnContent.{server_judges}
use Rattle.server_calls.specs.Call as serverCall
use Rattle.course.specs.OnBytes.{heard, on_bytes}
use Rattle.course.proofs.RefusalLaws.{RefusesAs, Refuses, refused, begins_refuses, press_refuses, server_refuses}

-- ---- what is said, in an output
abbrev pub said_into : {S : Type 0} → List ℕ → S → Says (List ℕ) → call.After S
said_into out s (sends m) = call.after (Reply.Written (length m)) s (sets out 0 m)
said_into out s done = call.after Reply.Done s out
said_into out s (refuses n) = call.after (Reply.Refused n) s out

abbrev pub answer_in : {S : Type 0} → List ℕ → Called S (List ℕ) → call.After S
answer_in out c = said_into out c.side c.says

-- a message is no longer than n; a refusal has a number, and the side p stays as it was
abbrev pub Fits : {S : Type 0} → S → ℕ → S → Says (List ℕ) → Type 0
Fits p n s (sends m) = length m ≤ n
Fits p n s done = Unit {0}
Fits p n s (refuses k) = (k ≡ 0 → ⊥) × (s ≡ p)

-- a call of the side p goes by the output's length
pub record ByLength {S : Type 0} (p : S) (call : List ℕ → call.After S) : Type 0 where
  pub says : ℕ → Called S (List ℕ)
  pub is : (out : List ℕ) → call out ≡ answer_in out (says (length out))
  pub fits : (n : ℕ) → Fits p n (says n).side (says n).says

-- it is no longer than n
abbrev pub Short : ℕ → Says (List ℕ) → Type 0
Short n (sends m) = length m ≤ n
Short n done = Unit {0}
Short n (refuses k) = Unit {0}

short : {S : Type 0} (p : S) (n : ℕ) (s : S) (m : Says (List ℕ)) → Fits p n s m → Short n m
short p n s (sends m) f = f
short p n s done f = tt
short p n s (refuses k) f = tt

-- what stands in the output is heard
pub front_put : (m out : List ℕ) → length m ≤ length out → take (length m) (sets out 0 m) ≡ m
front_put m out h = ap (take (length m)) (sets-eq m out 0 (omega (arith, h))) ∙ take-append_seam m (drop (0 + length m) out)

pub heard_answer : {S : Type 0} (out : List ℕ) (c : Called S (List ℕ)) → Short (length out) c.says → heard (answer_in out c) ≡ c
heard_answer {S} out c = go c.says
  where
    go : (m : Says (List ℕ)) → Short (length out) m → heard (said_into out c.side m) ≡ record { side = c.side; says = m }
    go (sends m) f = ap (λ (l : List ℕ). record { side = c.side; says = sends l }) (front_put m out f)
    go done f = refl
    go (refuses n) f = refl

pub heard_says : {S : Type 0} (p : S) (call : List ℕ → call.After S) (b : ByLength p call) (out : List ℕ) → heard (call out) ≡ b.says (length out)
heard_says p call b out =
    let c = b.says (length out) in
    ap heard (b.is out) ∙ heard_answer out c (short p (length out) c.side c.says (b.fits (length out)))

same_heard : {S : Type 0} (p : S) (call : List ℕ → call.After S) → ByLength p call → (a b : List ℕ) → length a ≡ length b → heard (call a) ≡ heard (call b)
same_heard p call k a b e = heard_says p call k a ∙ (ap k.says e ∙ sym (heard_says p call k b))

-- ---- what is said of a content, by the output's length
module _ {S : Type 0} (p : S) where
  -- the answer where there is room for it
  abbrev sent_if : S → List ℕ → Bool → Called S (List ℕ)
  sent_if s w b = or_refuse (checked b) (refusing 9 p) (sending s w)

  abbrev said_within : S → ℕ → Says Content → Called S (List ℕ)
  said_within s n (sends x) = sent_if s (call.bytes_for x) (leb (length (call.bytes_for x)) n)
  said_within s n done = record { side = s; says = done }
  said_within s n (refuses k) = refusing k s

  same : (s : S) (w out : List ℕ) (b : Bool)
      → or_refuse (checked b) (call.refused_with 9 p out) (call.after (Reply.Written (length w)) s (sets out 0 w)) ≡ answer_in out (sent_if s w b)
  same s w out true = refl
  same s w out false = refl

  fit : (s : S) (w : List ℕ) (n : ℕ) (b : Bool) → leb (length w) n ≡ b → Fits p n (sent_if s w b).side (sent_if s w b).says
  fit s w n true e = leb-true (length w) n e
  fit s w n false e = ((λ z. omega (arith, z)), refl)

  pub by_length : (c : Called S Content) → Refuses p c → ByLength p (λ out. call.answered_in p out c)
  by_length c r = go c.says r
    where
      go : (m : Says Content) → RefusesAs p c.side m → ByLength p (λ out. call.says_in p c.side out m)
      go (sends x) k =
          let w = call.bytes_for x in
          record { says = λ n. said_within c.side n (sends x); is = λ out. same c.side w out (leb (length w) (length out)); fits = λ n. fit c.side w n (leb (length w) n) refl }
      go done k = record { says = λ n. said_within c.side n done; is = λ out. refl; fits = λ n. tt }
      go (refuses n) k = record { says = λ j. said_within c.side j (refuses n); is = λ out. refl; fits = λ j. (k.not_0, k.as_was) }

  not_read : ByLength p (λ out. call.refused_with 7 p out)
  not_read = by_length (refusing 7 p) (refused 7 p (omega arith) (omega arith))

  if_read_lem : (a : Ans Message) (f : Content → Called S Content) → ((x : Content) → Refuses p (f x))
      → ByLength p (λ out. call.if_read a (call.refused_with 7 p out) (λ x. call.answered_in p out (f x)))
  if_read_lem (got m q) f h = by_length (f (content_for m)) (h (content_for m))
  if_read_lem (bad k q) f h = not_read

-- ---- the three calls
pub start_by : (p : Press) → ByLength p (pressCall.press_start p)
unfolding pressCall.press_start
start_by p = by_length p (press_begins p) (begins_refuses p)

pub press_by : (p : Press) (m : List ℕ) → ByLength p (pressCall.press_takes p m)
unfolding pressCall.press_takes
press_by p m = if_read_lem p (read_message m) (press_judges p) (press_refuses p)

pub server_by_lem : (s : Server) (m : List ℕ) → ByLength s (serverCall.server_takes s m)
unfolding serverCall.server_takes
server_by_lem s m = if_read_lem s (read_message m) (server_judges s) (server_refuses s)

-- ---- so the two sides are the same, whatever output of a length is lent
pub on_bytes_by_length : (a b : List ℕ) → length a ≡ length b → on_bytes a ≡ on_bytes b
on_bytes_by_length a b e =
    λ i.
    record {
      start = λ p. same_heard p (pressCall.press_start p) (start_by p) a b e i;
      press_takes = λ p m. same_heard p (pressCall.press_takes p m) (press_by p m) a b e i;
      server_takes = λ s m. same_heard s (serverCall.server_takes s m) (server_by_lem s m) a b e i;
      by_hand = call.bytes_for;
    }
