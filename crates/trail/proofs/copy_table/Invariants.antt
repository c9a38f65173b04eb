use Rattle.trail.specs.Trail.{Moved}
use Rattle.trail.proofs.copy_table.Given as goal

abbrev pub invariant-loop-i : goal.invariant-loop-i
invariant-loop-i l = Moved l.i l.from l.to l.initial.work l.work
