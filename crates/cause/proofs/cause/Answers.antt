use mathlib.Core.Path.{sym}
use native.Mathlib.Omega.{arith}
use Rattle.checker.proofs.Answers.{refused_problem, with_limit}
use Rattle.checker.proofs.Handed.{handed_on}
use Rattle.cause.proofs.Calling.{short_work, short_list, problem_refused, nothing_refused}
use Rattle.cause.proofs.cause.Goals as goal

pub returns-then-work-lt-WORK : goal.returns-then-work-lt-WORK
returns-then-work-lt-WORK c = short_work _ _ _ _ _ c.if-work-lt-WORK.true

pub returns-then-list-rules : goal.returns-then-list-rules
returns-then-list-rules c = short_list _ _ _ _ _ (omega (arith, c.if-work-lt-WORK.false)) c.if-list-rules.true

pub returns-in_err-problem : goal.returns-in_err-problem
returns-in_err-problem c =
    rw (handed_on c.from_residual.result c.from_residual.ensures.1)
    (problem_refused _ _ _ _ _ (omega (arith, c.if-work-lt-WORK.false)) (omega (arith, c.if-list-rules.false))
    (sym (refused_problem _ _ _ c.in_err-problem.ensures)))

pub returns-in_err-limit_refusal : goal.returns-in_err-limit_refusal
returns-in_err-limit_refusal c =
    let (words, rules, passed) = c.in_ok-problem.ensures in
    rw (handed_on c.from_residual-in_err-limit_refusal.result c.from_residual-in_err-limit_refusal.ensures.1)
    (problem_refused _ _ _ _ _ (omega (arith, c.if-work-lt-WORK.false)) (omega (arith, c.if-list-rules.false))
    (sym (with_limit _ _ _ passed c.in_err-limit_refusal.ensures)))

pub cause_proper-requires : goal.cause_proper-requires
cause_proper-requires c =
    let (words, rules, passed) = c.in_ok-problem.ensures in
    rw (c.from.ensures, words, rules)
    (nothing_refused _ _ _ _ _ (omega (arith, c.if-work-lt-WORK.false)) (omega (arith, c.if-list-rules.false))
    (sym (with_limit _ _ _ passed c.in_ok-limit_refusal.ensures)))
