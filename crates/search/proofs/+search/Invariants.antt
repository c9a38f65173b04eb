use Rattle.words.specs.Count.{open_below}
use Rattle.problem.specs.Lent.{word_count}
use Rattle.tighten.specs.Memory.{table_in}
use Rattle.search.proofs.+search.Given as goal

-- the number that falls: the open bits of the table in memory
abbrev pub decreases-search : goal.decreases-search
decreases-search l = open_below (word_count l.task.now.problem.words.now) (table_in (word_count l.task.now.problem.words.now) l.work.now)
