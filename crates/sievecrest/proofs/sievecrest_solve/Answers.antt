use native.Mathlib.Omega.{arith}
use Rattle.packing.proofs.Apart.{returning}
use Rattle.sievecrest.proofs.Sizes.{solve_within}
use Rattle.sievecrest.proofs.sievecrest_solve.Goals as goal

pub pack-requires : goal.pack-requires
pack-requires c =
    solve_within (omega (arith, c.ranges.limit)) c.solve.ensures

pub returns : goal.returns
returns c =
    returning _ c.solve.ensures (solve_within (omega (arith, c.ranges.limit)) c.solve.ensures) c.pack.ensures
