use Rattle.trail.proofs.Keeping.{Passing}
use Rattle.trail.proofs.commit.Given as goal

abbrev pub invariant-loop-i : goal.invariant-loop-i
invariant-loop-i l = Passing l.base l.initial.work l.i l.work l.entries
