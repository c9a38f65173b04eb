use Rattle.checker.proofs.Handed.{handed_on}
use Rattle.explain.proofs.Calling.{short_refused, problem_refused, problem_judged}
use Rattle.explain.proofs.explain.Goals as goal

pub returns-then-list-lt-ENTRIES : goal.returns-then-list-lt-ENTRIES
returns-then-list-lt-ENTRIES c = short_refused _ _ _ _ _ _ c.if-list-lt-ENTRIES.true

pub returns-in_err-problem : goal.returns-in_err-problem
returns-in_err-problem c =
    rw (handed_on c.from_residual.result c.from_residual.ensures.1)
    (problem_refused _ _ _ _ _ _ c.if-list-lt-ENTRIES.false c.in_err-problem.ensures)

pub returns : goal.returns
returns c =
    let (words, rules, passed) = c.in_ok-problem.ensures in
    problem_judged _ _ _ _ _ _ c.if-list-lt-ENTRIES.false passed (rw (words, rules) at c.explain_proper.ensures)
