use Rattle.words.specs.Count.{open_below}
use Rattle.problem.specs.Lent.{word_count}
use Rattle.tighten.specs.Memory.{table_in}
use Rattle.tighten.proofs.Sweeping.{Settling}
use Rattle.tighten.proofs.settle.Given as goal

abbrev pub invariant-loop : goal.invariant-loop
invariant-loop l = Settling l.problem.words.now l.problem.rules.now l.initial.work l.work l.count

abbrev pub decreases-loop : goal.decreases-loop
decreases-loop l = open_below (word_count l.problem.words.now) (table_in (word_count l.problem.words.now) l.work)
