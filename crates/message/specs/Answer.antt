-- What the code keeps of a message, and what it answers.
use Rattle.std.specs.Prelude.{ℕ, ◌+◌, cond, List, ◌++◌, map, length, leb, Result, Ok, Err}
use Rattle.std.proofs.lemmas.List.Edits.{sets}
use Rattle.terms.specs.declared.Refusal.{Refusal}
use Rattle.terms.specs.Refusal.{number_of}
use Rattle.token.specs.declared.Misread.{Misread}
use Rattle.token.specs.Ans.{Ans, got, bad}
use Rattle.elements.specs.declared.Head.{Head}
use Rattle.elements.specs.Element.{head_c}
use Rattle.lists.specs.Lists.{by_itself, array, entries, elements_from, write_on, place_in}
use Rattle.message.specs.Message.{form_of, Message, message_c}
use Rattle.message.specs.declared.Content.{Content}

-- ---- reading: the head, and of each list the first 33 elements, how many there are, and what ends it
abbrev pub content_for : Message → Content
content_for m =
    record {
      head = m.head;
      answered = length m.answers;
      answers = array (map by_itself m.answers);
      answersend = m.answersend;
      commanded = length m.commands;
      commands = array (map by_itself m.commands);
      commandsend = m.commandsend;
    }

-- what the code answers: the content, or the place where it is refused
abbrev pub taken_as : Ans Message → Result Content Misread
taken_as (got m p) = Ok (content_for m)
taken_as (bad k p) = Err (record { place = p })

-- ---- writing: the message that a content is
abbrev pub message_of : Content → Message
message_of c =
    record {
      head = c.head;
      answers = entries c.answers c.answered;
      answersend = c.answersend;
      commands = entries c.commands c.commanded;
      commandsend = c.commandsend;
    }

-- the answer to a call that writes: the length of what was written, or a refusal's number
pub data Answer : Type 0 where
  Written : ℕ → Answer
  Refused : ℕ → Answer

-- what the code answers
abbrev pub answer_of : Result ℕ Refusal → Answer
answer_of (Ok n) = Written n
answer_of (Err r) = Refused (number_of r)

-- refusal 9 exactly when the answer w is longer than the lent output (01, "Refusal numbers")
abbrev pub answer_to : List ℕ → List ℕ → Answer
answer_to out w = cond (leb (length w) (length out)) (Written (length w)) (Refused 9)

-- on success the answer stands at the start and all bytes past it stay; on refusal every byte stays
abbrev pub output_to : List ℕ → List ℕ → List ℕ
output_to out w = cond (leb (length w) (length out)) (sets out 0 w) out

-- ---- a message read and written again
-- what is written of it as far as it reads, from its head and the place after that on
unfoldable pub again : List ℕ → Head → ℕ → List ℕ
again s h at =
    let f = form_of h.pkg in
    let a = elements_from f.answers f.answersend 3 s at in
    let first = 4 + length a.0 in
    let b = elements_from f.commands f.commandsend first s (place_in a.1) in
    head_c.write h ++ (write_on 3 f.answersend a ++ write_on first f.commandsend b)

abbrev pub reread_to : List ℕ → Ans Message → Answer
reread_to out (got m p) = answer_to out (message_c.write m)
reread_to out (bad k p) = Refused k

abbrev pub reoutput_to : List ℕ → Ans Message → List ℕ
reoutput_to out (got m p) = output_to out (message_c.write m)
reoutput_to out (bad k p) = out
