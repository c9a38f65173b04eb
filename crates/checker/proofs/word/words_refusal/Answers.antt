use mathlib.Core.Path.{sym, ◌∙◌}
use Rattle.checker.proofs.Handed.{handed_on}
use Rattle.checker.proofs.Firsts.{run_none, run_more, run_stop, run_end}
use Rattle.checker.proofs.word.words_refusal.Goals as goal

pub loop-i-init : goal.loop-i-init
loop-i-init c = run_none _

pub returns-in_err-word_refusal : goal.returns-in_err-word_refusal
returns-in_err-word_refusal c =
    handed_on c.from_residual.result c.from_residual.ensures.1
    ∙ sym (run_stop _ _ _ c.loop-i-test.true c.loop-i.invariant (sym c.in_err-word_refusal.ensures))

pub loop-i-preserved : goal.loop-i-preserved
loop-i-preserved c = run_more _ _ c.loop-i.invariant (sym c.in_ok-word_refusal.ensures)

pub returns : goal.returns
returns c = run_end _ _ _ c.loop-i.auto.i-end c.loop-i-test.false c.loop-i.invariant
