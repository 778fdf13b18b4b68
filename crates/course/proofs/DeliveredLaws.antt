-- With an output of the message limit lent, a call on bytes gives what the call on content says: no answer is too long. Assumes nothing.
use Prim.Native.Nat.{ℕ, ◌≤◌}
use mathlib.Core.Path.{◌≡◌, refl, ap, ◌∙◌}
use mathlib.Core.Bool.{Bool}
use mathlib.Core.List.{List}
use native.Mathlib.Omega.{arith}
use lib.ListN.{length}
use lib.Seq.{sets}
use borrow.Author.Tests.{le-leb}
use Rattle.token.specs.Ans.{Ans}
use Rattle.terms.specs.Check.{checked, or_refuse}
use Rattle.cards.specs.declared.Press.{Press}
use Rattle.records.specs.declared.Server.{Server}
use Rattle.message.specs.declared.Content.{Content}
use Rattle.message.specs.Message.{Message, limit, read_message}
use Rattle.calls.specs.Reply.{Reply}
use Rattle.calls.specs.Says.{Says, sends, done, refuses, Called}
use Rattle.calls.specs.After.{After, after, refused_with, if_read, bytes_for, says_in, answered_in}
use Rattle.sendable.specs.Sendable.{SendablePackage}
use Rattle.sendable.proofs.SentLaws.{sent_fits, sent_reads_back}
use Rattle.sendable.proofs.ReadLaws.{sent_kept}
use Rattle.press_awaits.specs.OnContent.{press_begins, press_judges}
use Rattle.press_calls.specs.Call.{press_start, press_hears, press_takes}
use Rattle.server_awaits.specs.OnContent.{server_judges}
use Rattle.server_calls.specs.Call.{server_hears, server_takes}
use Rattle.course.specs.OnBytes.{heard}
use Rattle.course.proofs.LengthLaws.{answer_in, Short, heard_answer}
use Rattle.course.proofs.WellLaws.{SentWell}

-- ---- what is said on content, in bytes
abbrev pub in_bytes : Says Content → Says (List ℕ)
in_bytes (sends x) = sends (bytes_for x)
in_bytes done = done
in_bytes (refuses n) = refuses n

abbrev pub as_bytes : {S : Type 0} → Called S Content → Called S (List ℕ)
as_bytes c = record { side = c.side; says = in_bytes c.says }

-- a package in the form is read as it is
pub handed_on : {S : Type 0} (r : After S) (f : Content → After S) (x : Content) → SendablePackage x → if_read (read_message (bytes_for x)) r f ≡ f x
handed_on r f x k = ap (λ (a : Ans Message). if_read a r f) (sent_reads_back x k) ∙ ap f (sent_kept x k)

module _ (out : List ℕ) (room : limit ≤ length out) where
  -- and has room in the output
  has_room : (x : Content) → SendablePackage x → length (bytes_for x) ≤ length out
  has_room x f = omega (arith, sent_fits x f, room)

  short : (m : Says Content) → SentWell m → Short (length out) (in_bytes m)
  short (sends x) w = has_room x w
  short done w = tt
  short (refuses n) w = tt

  module _ {S : Type 0} (p : S) (c : Called S Content) (well : SentWell c.says) where
    pub delivered : answered_in p out c ≡ answer_in out (as_bytes c)
    delivered = go c.says well
      where
        go : (m : Says Content) → SentWell m → says_in p c.side out m ≡ answer_in out (record { side = c.side; says = in_bytes m })
        go (sends x) w =
            ap
            (λ (b : Bool). or_refuse (checked b) (refused_with 9 p out) (after (Reply.Written (length (bytes_for x))) c.side (sets out 0 (bytes_for x))))
            (le-leb (length (bytes_for x)) (length out) (has_room x w))
        go done w = refl
        go (refuses n) w = refl

    heard_as : heard (answered_in p out c) ≡ as_bytes c
    heard_as = ap heard delivered ∙ heard_answer out (as_bytes c) (short c.says well)

  -- ---- the three calls, as they are heard
  pub start_heard : (p : Press) → SentWell (press_begins p).says → heard (press_start p out) ≡ as_bytes (press_begins p)
  unfolding press_start
  start_heard p w = heard_as p (press_begins p) w

  pub press_heard : (p : Press) (x : Content) → SendablePackage x → SentWell (press_judges p x).says → heard (press_takes p (bytes_for x) out) ≡ as_bytes (press_judges p x)
  unfolding press_takes
  press_heard p x f w = ap heard (handed_on (refused_with 7 p out) (press_hears p out) x f) ∙ heard_as p (press_judges p x) w

  pub server_heard : (s : Server) (x : Content) → SendablePackage x → SentWell (server_judges s x).says → heard (server_takes s (bytes_for x) out) ≡ as_bytes (server_judges s x)
  unfolding server_takes
  server_heard s x f w = ap heard (handed_on (refused_with 7 s out) (server_hears s out) x f) ∙ heard_as s (server_judges s x) w
