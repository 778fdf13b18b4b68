-- What a call leaves: its reply, the side, and the lent output (01, "Refusal numbers" and the paragraph below the table).
use Rattle.std.specs.Prelude.{ℕ, List, leb, length}
use Rattle.std.proofs.lemmas.List.Edits.{sets}
use Rattle.token.specs.Ans.{Ans, got, bad}
use Rattle.terms.specs.Check.{checked, or_refuse}
use Rattle.message.specs.declared.Content.{Content}
use Rattle.message.specs.Message.{Message, message_c}
use Rattle.message.specs.Answer.{message_of, content_for}
use Rattle.calls.specs.Reply.{Reply}
use Rattle.calls.specs.Reply.{Written, Done, Refused}
use Rattle.calls.specs.Says.{Says, sends, done, refuses, Called}

pub record After (S : Type 0) : Type 0 where
  pub reply : Reply
  pub side : S
  pub output : List ℕ

-- what the code gives back, with the output that it leaves
abbrev pub after : {S : Type 0} → Reply → S → List ℕ → After S
after r s out = record { reply = r; side = s; output = out }

-- a refusal gives its number; table, open state and output stay as they were
abbrev pub refused_with : {S : Type 0} → ℕ → S → List ℕ → After S
refused_with n s out = after (Refused n) s out

-- 7: the bytes are not a message in the written form; otherwise its content is looked at
abbrev pub if_read : {S : Type 0} → Ans Message → After S → (Content → After S) → After S
if_read (got m p) refusal f = f (content_for m)
if_read (bad k p) refusal f = refusal

-- the bytes of a package
abbrev pub bytes_for : Content → List ℕ
bytes_for c = message_c.write (message_of c)

-- 9: the answer is longer than the lent output; otherwise it stands at the output's start, and the bytes past it stay
abbrev pub sent : {S : Type 0} → S → S → List ℕ → List ℕ → After S
sent old new out w = or_refuse (checked (leb (length w) (length out))) (refused_with 9 old out) (after (Written (length w)) new (sets out 0 w))

-- ---- what a side says of a content, in the lent output; `old` is the side before the call
abbrev pub says_in : {S : Type 0} → S → S → List ℕ → Says Content → After S
says_in old new out (sends x) = sent old new out (bytes_for x)
says_in old new out done = after Done new out
says_in old new out (refuses n) = refused_with n new out

abbrev pub answered_in : {S : Type 0} → S → List ℕ → Called S Content → After S
answered_in old out c = says_in old c.side out c.says
