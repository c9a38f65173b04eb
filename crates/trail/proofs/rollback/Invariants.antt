use Rattle.trail.proofs.Undoing.{GoingBack}
use Rattle.trail.proofs.rollback.Given as goal

abbrev pub invariant-loop-j : goal.invariant-loop-j
invariant-loop-j l = GoingBack l.base l.entries l.initial.work l.j l.work
