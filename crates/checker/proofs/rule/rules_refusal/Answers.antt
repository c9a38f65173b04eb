use mathlib.Core.Path.{sym, ◌∙◌}
use Rattle.checker.proofs.Handed.{handed_on}
use Rattle.checker.proofs.Firsts.{run_none, run_more, run_stop, run_end}
use Rattle.checker.proofs.rule.rules_refusal.Goals as goal

pub loop-n-init : goal.loop-n-init
loop-n-init c = run_none _

pub returns-in_err-rule_refusal : goal.returns-in_err-rule_refusal
returns-in_err-rule_refusal c =
    handed_on c.from_residual.result c.from_residual.ensures.1
    ∙ sym (run_stop _ _ _ c.loop-n-test.true c.loop-n.invariant (sym c.in_err-rule_refusal.ensures))

pub loop-n-preserved : goal.loop-n-preserved
loop-n-preserved c = run_more _ _ c.loop-n.invariant (sym c.in_ok-rule_refusal.ensures)

pub returns : goal.returns
returns c = run_end _ _ _ c.loop-n.auto.n-end c.loop-n-test.false c.loop-n.invariant
