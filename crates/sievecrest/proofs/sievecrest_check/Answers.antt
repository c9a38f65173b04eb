use native.Mathlib.Omega.{arith}
use Rattle.packing.proofs.Apart.{returning}
use Rattle.sievecrest.proofs.Sizes.{check_within}
use Rattle.sievecrest.proofs.sievecrest_check.Goals as goal

pub pack-requires : goal.pack-requires
pack-requires c = rw c.check.ensures (check_within _ _ _)

pub returns : goal.returns
returns c =
    returning _ c.check.ensures (rw c.check.ensures (check_within _ _ _)) (omega (arith, c.pack.ensures))
