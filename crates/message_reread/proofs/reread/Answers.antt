use mathlib.Core.Path.{sym, ◌∙◌}
use Rattle.std.proofs.lemmas.Result.{err_from_is_err_and}
use Rattle.token.specs.Misread.{found_as}
use Rattle.token.proofs.Told.{told}
use Rattle.message.proofs.AgainLaws.{Taken, taken_yes, not_taken, no_room, headed, limited, done}
use Rattle.message_reread.proofs.reread.Goals as goal
use Rattle.message_reread.proofs.reread.Goals.{In_ok-read}

taken : (c : In_ok-read) → Taken c.args.s.now
taken c = taken_yes _ _ (sym c.in_ok-read.was ∙ c.read.ensures)

pub returns-in_err-read : goal.returns-in_err-read
returns-in_err-read c =
    let p = err_from_is_err_and c.from_residual.result c.from_residual.ensures.1 in
    rw (p.1, p.2) (not_taken _ _ (sym c.in_err-read.was ∙ c.read.ensures) c.args.out.now)

pub returns-in_err-head : goal.returns-in_err-head
returns-in_err-head c =
    absurd (headed _ (taken (goal.at.returns-in_err-head c).In_ok-read) _ _ (told found_as c.head_of.ensures c.in_err-head.was))

pub again_len-needed-requires : goal.again_len-needed-requires
again_len-needed-requires c = limited _ (taken (goal.at.again_len-needed-requires c).In_ok-read)

pub returns-then-out-needed : goal.returns-then-out-needed
returns-then-out-needed c =
    no_room _ (taken (goal.at.returns-then-out-needed c).In_ok-read) _ _ (told found_as c.head_of.ensures c.in_ok-head.was) _ c.again_len-needed.ensures c.args.out.now c.if-out-needed.true

pub put_again-requires : goal.put_again-requires
put_again-requires c = limited _ (taken (goal.at.put_again-requires c).In_ok-read)

pub returns : goal.returns
returns c =
    done _ (taken (goal.at.returns c).In_ok-read) _ _ (told found_as c.head_of.ensures c.in_ok-head.was) _ c.again_len-needed.ensures c.args.out.now _ _ c.if-out-needed.false c.put_again.ensures
