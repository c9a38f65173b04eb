use Rattle.hull.proofs.sweep.+sweep.Given as goal

-- each call has one column less
abbrev pub decreases-sweep : goal.decreases-sweep
decreases-sweep l = l.n
