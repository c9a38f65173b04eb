use Rattle.decimal.proofs.number.+put.Given as goal

-- each call has one digit less
abbrev pub decreases-put : goal.decreases-put
decreases-put l = l.n
