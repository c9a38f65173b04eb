use Rattle.std.proofs.Common.{arith}
use Rattle.checker.proofs.Right.{proper_fine}
use Rattle.search.proofs.Searches.{first_begun, first_falls, first_valued, second_copied, second_begun, second_falls, second_valued, valued_end}
use Rattle.search.proofs.+search.Goals.{in-Nothing, in_default}
use Rattle.search.proofs.+search.Goals as goal

pub search-answer-requires : goal.search-answer-requires
search-answer-requires t c =
    let fine = proper_fine _ _ c.args.task.now.problem.fine in
    (omega (arith, c.decreases, first_falls fine c.requires c.in-Continue.ensures), first_begun fine c.requires c.in-Continue.ensures)

pub second_value-requires : goal.second_value-requires
second_value-requires t c =
    rw c.word_count.ensures
    (second_copied (proper_fine _ _ c.args.task.now.problem.fine) c.requires c.in-Continue.ensures c.search-answer.ensures)

pub search-answer-requires-in-Nothing : goal.search-answer-requires-in-Nothing
search-answer-requires-in-Nothing t c =
    let fine = proper_fine _ _ c.args.task.now.problem.fine in
    let second = rw c.word_count.ensures at c.second_value.ensures in
    let y = second_falls fine c.requires c.in-Continue.ensures c.in-Nothing.ensures second in
    (omega (arith, c.decreases, y), second_begun fine c.requires c.in-Continue.ensures c.in-Nothing.ensures second)

pub returns : goal.returns
returns t c =
    let fine = proper_fine _ _ c.args.task.now.problem.fine in
    valued_end fine c.requires c.in-Continue.ensures
    (elim c.match-answer.branch [
      | in-Nothing w ↦
          rw (w.answer-is, w.work-is)
          (second_valued fine c.requires c.in-Continue.ensures w.in-Nothing.ensures (rw w.word_count.ensures at w.second_value.ensures)
          w.search-answer-in-Nothing.ensures)
      | in_default w ↦ rw (w.answer-is, w.work-is) (first_valued fine c.requires c.in-Continue.ensures c.search-answer.ensures w.in_default.not-Nothing)
    ])
    c.rollback.ensures
