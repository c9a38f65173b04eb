use native.Mathlib.Omega.{arith}
use Rattle.checker.proofs.Right.{proper_fine}
use Rattle.cause.proofs.Trying.{trial_asked, trial_dropped, trial_gave_up, trial_kept}
use Rattle.cause.proofs.dropping.attempt.Goals as goal

pub search_problem-requires : goal.search_problem-requires
search_problem-requires c =
    trial_asked (proper_fine _ _ c.args.problem.now.fine) c.requires c.remove.ensures

pub returns-in-Found : goal.returns-in-Found
returns-in-Found c =
    trial_kept (proper_fine _ _ c.args.problem.now.fine) c.requires c.remove.ensures c.search_problem.ensures c.insert.ensures.0 c.insert.ensures.1
    c.in-Found.is

pub returns-in-Nothing : goal.returns-in-Nothing
returns-in-Nothing c =
    trial_dropped (proper_fine _ _ c.args.problem.now.fine) c.requires c.remove.ensures c.search_problem.ensures c.in-Nothing.is

pub returns-in-GaveUp : goal.returns-in-GaveUp
returns-in-GaveUp c =
    trial_gave_up (proper_fine _ _ c.args.problem.now.fine) c.requires c.remove.ensures c.search_problem.ensures c.in-GaveUp.is

pub remove-requires : goal.remove-requires
remove-requires c =
    let fine = proper_fine _ _ c.args.problem.now.fine in
    (omega (arith, c.requires.standing.most, fine.sized.rules), omega (arith, c.requires.room))

pub insert-requires : goal.insert-requires
insert-requires c =
    let fine = proper_fine _ _ c.args.problem.now.fine in (
      omega (arith, c.requires.standing.most, fine.sized.rules),
      omega (arith, c.requires.room, c.remove.ensures.size, c.search_problem.ensures.size),
    )
