use native.Mathlib.Omega.{arith}
use Rattle.checker.proofs.Handed.{handed_on}
use Rattle.checker.proofs.Right.{proper_fine}
use Rattle.tighten.proofs.Calling.{short_refused, problem_refused, conflict_answer, tight_answer}
use Rattle.tighten.proofs.tighten.Goals as goal

pub returns-then-work-lt-WORK : goal.returns-then-work-lt-WORK
returns-then-work-lt-WORK c = short_refused c.if-work-lt-WORK.true

pub returns-in_err-problem : goal.returns-in_err-problem
returns-in_err-problem c =
    rw (handed_on c.from_residual.result c.from_residual.ensures.1) (problem_refused c.if-work-lt-WORK.false c.in_err-problem.ensures)

pub unload-requires : goal.unload-requires
unload-requires c =
    let (words, rules, passed) = c.in_ok-problem.ensures in
    ((proper_fine _ _ passed).sized.words, omega (arith, c.if-work-lt-WORK.false, c.tightened.ensures.size))

pub returns-then-not-tightened : goal.returns-then-not-tightened
returns-then-not-tightened c =
    let (words, rules, passed) = c.in_ok-problem.ensures in
    conflict_answer _ _ _ c.if-work-lt-WORK.false passed c.clear.ensures (rw (words, rules, c.if-not-tightened.true) at c.tightened.ensures)

pub returns : goal.returns
returns c =
    let (words, rules, passed) = c.in_ok-problem.ensures in
    rw c.unload.ensures
    (tight_answer _ _ _ c.if-work-lt-WORK.false passed c.clear-2.ensures (rw (words, rules, c.if-not-tightened.false) at c.tightened.ensures))
