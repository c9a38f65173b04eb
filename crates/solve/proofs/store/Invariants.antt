use Rattle.solve.specs.Promise.{Stored}
use Rattle.solve.proofs.store.Given as goal

abbrev pub invariant-loop-i : goal.invariant-loop-i
invariant-loop-i l = Stored l.i l.work l.initial.model l.model
