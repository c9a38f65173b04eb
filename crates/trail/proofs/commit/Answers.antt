use native.Mathlib.Omega.{arith}
use Rattle.trail.proofs.Keeping.{passing_start, passing_step, low_room, high_room}
use Rattle.trail.proofs.commit.Goals as goal

pub loop-i-init : goal.loop-i-init
loop-i-init c = passing_start c.args.base c.args.work.now

pub keep-entries-requires : goal.keep-entries-requires
keep-entries-requires c = (
  omega (arith, c.loop-i-test.true, c.requires.0),
  omega (arith, c.requires.1, c.loop-i.invariant.done.size),
  low_room c.loop-i.invariant (omega (arith, c.loop-i-test.true, c.requires.0)) c.args.n c.loop-i-test.true c.requires.2,
)

pub keep-entries-requires-in-loop-i : goal.keep-entries-requires-in-loop-i
keep-entries-requires-in-loop-i c = (
  omega (arith, c.loop-i-test.true, c.requires.0),
  omega (arith, c.requires.1, c.loop-i.invariant.done.size, c.keep-entries.ensures.size),
  high_room c.loop-i.invariant (omega (arith, c.loop-i-test.true, c.requires.0)) c.keep-entries.ensures c.args.n c.loop-i-test.true c.requires.2,
)

pub loop-i-preserved : goal.loop-i-preserved
loop-i-preserved c =
    passing_step c.loop-i.invariant (omega (arith, c.loop-i-test.true, c.requires.0)) c.keep-entries.ensures c.keep-entries-in-loop-i.ensures
