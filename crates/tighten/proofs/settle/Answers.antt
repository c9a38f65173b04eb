use mathlib.Core.Path.{ap, ◌∙◌}
use Rattle.std.proofs.Common.{Some}
use Rattle.tighten.proofs.Sweeping.{settling_ready, settling_listed, settling_none, settling_step, settling_end}
use Rattle.tighten.proofs.Given.{ready}
use Rattle.tighten.proofs.settle.Goals as goal

pub sweep-requires : goal.sweep-requires
sweep-requires c = (
  (settling_ready (ready c.args.problem.now.fine c.requires.0) c.requires.1 c.loop.invariant).tabled,
  settling_listed
      (ready c.args.problem.now.fine c.requires.0) c.requires.1 c.loop.invariant,
)

pub returns-in-None : goal.returns-in-None
returns-in-None c = settling_none (ready c.args.problem.now.fine c.requires.0) c.requires.1 c.loop.invariant c.in-None.ensures

pub returns-in-Some-false : goal.returns-in-Some-false
returns-in-Some-false c =
    settling_end (ready c.args.problem.now.fine c.requires.0) c.requires.1 c.loop.invariant (rw c.in-Some-false.field-0-test at c.in-Some-false.ensures)

pub loop-smaller : goal.loop-smaller
loop-smaller c = c.sweep.ensures.step.less (c.in-Some-true.is ∙ ap Some c.in-Some-true.field-0-test)

pub loop-preserved : goal.loop-preserved
loop-preserved c = settling_step (ready c.args.problem.now.fine c.requires.0) c.requires.1 c.loop.invariant c.in-Some-true.ensures
