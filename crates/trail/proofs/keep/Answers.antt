use Prim.Native.Nat.{◌+◌, ◌*◌, ◌<◌}
use native.Mathlib.Omega.{arith}
use lib.ListN.{length}
use Rattle.trail.proofs.Keeping.{apart_other, kept_new}
use Rattle.trail.proofs.keep.Goals as goal

-- there is room for the entry
roomy : (c : goal.Else-new-old) → 380 + 2 * c.args.n + 1 < length c.args.work.now
roomy c = omega (arith, c.requires, apart_other _ _ c.if-new-old.false)

pub returns : goal.returns
returns c = kept_new c.args.work.now c.args.n c.args.k c.requires.0 (roomy c) c.if-new-old.false
