use native.Mathlib.Omega.{arith}
use Rattle.trail.proofs.Moving.{moved_start, moved_turn}
use Rattle.trail.proofs.copy_table.Goals as goal

pub loop-i-init : goal.loop-i-init
loop-i-init c = moved_start c.args.from c.args.to c.args.work.now

pub loop-i-preserved : goal.loop-i-preserved
loop-i-preserved c = moved_turn c.loop-i.invariant (omega (arith, c.loop-i-test.true, c.requires.0)) c.requires.2 c.requires.3
