-- The two sides, where a message is bytes: the public calls, each with the same output lent.
use Rattle.std.specs.Prelude.{ℕ, List, take}
use Rattle.calls.specs.Reply.{Reply}
use Rattle.calls.specs.After.{After, bytes_for}
use Rattle.press_calls.specs.Call.{press_start, press_takes}
use Rattle.server_calls.specs.Call.{server_takes}
use Rattle.calls.specs.Says.{Says, sends, done, refuses, Called}
use Rattle.course.specs.Course.{Sides}

-- what stands in the output after a call: so many bytes of an answer, or none
abbrev pub heard_in : List ℕ → Reply → Says (List ℕ)
heard_in out (Reply.Written n) = sends (take n out)
heard_in out Reply.Done = done
heard_in out (Reply.Refused n) = refuses n

abbrev pub heard : {S : Type 0} → After S → Called S (List ℕ)
heard a = record { side = a.side; says = heard_in a.output a.reply }

abbrev pub on_bytes : List ℕ → Sides (List ℕ)
on_bytes out =
    record {
      start = λ p. heard (press_start p out);
      press_takes = λ p m. heard (press_takes p m out);
      server_takes = λ s m. heard (server_takes s m out);
      by_hand = bytes_for;
    }
