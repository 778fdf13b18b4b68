use lib.ListN.{length}
use Rattle.places.specs.Act.{with_answers}
use Rattle.server_reports.proofs.Cases.{UpTo}
use Rattle.server_answers.specs.Answer.{answer, answer_fits}
use Rattle.server_answers.proofs.take_answers.Given as goal

abbrev pub invariant-loop-o : goal.invariant-loop-o
invariant-loop-o l = UpTo answer_fits answer (with_answers l.offers l.answers) l.fn.s (length l.yielded) l.now
