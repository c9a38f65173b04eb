use mathlib.Core.Path.{◌≡◌}
use Prim.Native.Nat.{◌+◌, ◌-◌}
use native.Mathlib.Omega.{arith}
use Rattle.trail.proofs.Undoing.{going_step, going_end}
use Rattle.trail.proofs.rollback.Goals as goal

pub loop-j-preserved : goal.loop-j-preserved
loop-j-preserved c =
    let e : c.loop-j.j ≡ c.loop-j.j - 1 + 1 = omega (arith, c.loop-j-test.true) in
    going_step (rw e at c.loop-j.invariant) (omega (arith, c.loop-j-test.true)) c.put_back.ensures

pub returns : goal.returns
returns c = going_end c.loop-j.invariant (omega (arith, c.loop-j-test.false))
