use mathlib.Core.Path.{sym, ◌∙◌}
use Rattle.checker.proofs.Handed.{handed_on}
use Rattle.checker.proofs.Answers.{refused_problem, with_limit}
use Rattle.checker.proofs.check.Goals as goal

pub returns-in_err-first_refusal : goal.returns-in_err-first_refusal
returns-in_err-first_refusal c =
    handed_on c.from_residual.result c.from_residual.ensures.1
    ∙ refused_problem _ _ _ (sym c.in_err-first_refusal.ensures)

pub returns : goal.returns
returns c = with_limit _ _ _ (sym c.in_ok-first_refusal.ensures) c.limit_refusal.ensures
