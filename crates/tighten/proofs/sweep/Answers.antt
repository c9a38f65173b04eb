use mathlib.Core.Path.{◌≡◌}
use native.Mathlib.Omega.{arith}
use Rattle.tighten.proofs.Sweeping.{still_ready, next_listed, passing_none, passing_step, passing_end}
use Rattle.tighten.proofs.Given.{ready}
use Rattle.tighten.proofs.sweep.Goals as goal

pub apply-requires : goal.apply-requires
apply-requires c = (
  (still_ready (ready c.args.problem.now.fine c.requires.0) c.loop-j.invariant c.requires.1 c.loop-j-test.true).tabled,
  next_listed (ready c.args.problem.now.fine c.requires.0) c.loop-j.invariant c.requires.1 c.loop-j-test.true,
)

pub returns-in_err-changed : goal.returns-in_err-changed
returns-in_err-changed c =
    rw c.from_residual.ensures (passing_none (ready c.args.problem.now.fine c.requires.0) c.loop-j.invariant c.requires.1 c.loop-j-test.true
    c.in_err-changed.ensures)

pub loop-j-preserved : goal.loop-j-preserved
loop-j-preserved c =
    passing_step (ready c.args.problem.now.fine c.requires.0) c.loop-j.invariant c.requires.1 c.loop-j-test.true c.in_ok-changed.ensures

pub returns : goal.returns
returns c =
    let e : c.loop-j.j ≡ c.args.count = omega (arith, c.loop-j-test.false) in
    passing_end (ready c.args.problem.now.fine c.requires.0) c.requires.1 (rw e at c.loop-j.invariant)
