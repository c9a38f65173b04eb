use Rattle.cause.proofs.Trimming.{Going}
use Rattle.cause.proofs.dropping.trim.Given as goal

abbrev pub invariant-loop-n : goal.invariant-loop-n
invariant-loop-n l = Going l.problem.words.now l.problem.rules.now l.limit l.first l.initial.work l.n l.kept l.sum l.work
