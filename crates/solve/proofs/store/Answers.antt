use native.Mathlib.Omega.{arith}
use Rattle.solve.proofs.Storing.{stored_start, stored_turn}
use Rattle.solve.proofs.store.Goals as goal

pub loop-i-init : goal.loop-i-init
loop-i-init c = stored_start _ _

pub loop-i-preserved : goal.loop-i-preserved
loop-i-preserved c = stored_turn c.loop-i.invariant (omega (arith, c.loop-i-test.true, c.requires.0))
