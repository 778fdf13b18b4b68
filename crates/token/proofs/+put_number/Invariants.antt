use Rattle.token.proofs.+put_number.Given as goal

-- each call has a digit less
abbrev pub decreases-put_number : goal.decreases-put_number
decreases-put_number l = l.n
