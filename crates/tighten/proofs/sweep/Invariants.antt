use Rattle.tighten.proofs.Sweeping.{Passing}
use Rattle.tighten.proofs.sweep.Given as goal

abbrev pub invariant-loop-j : goal.invariant-loop-j
invariant-loop-j l = Passing l.problem.words.now l.problem.rules.now l.initial.work l.work l.changed l.j
