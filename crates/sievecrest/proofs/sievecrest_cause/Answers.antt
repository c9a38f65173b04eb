use Rattle.packing.proofs.Apart.{returning}
use Rattle.sievecrest.proofs.Sizes.{cause_within}
use Rattle.sievecrest.proofs.sievecrest_cause.Goals as goal

pub pack-requires : goal.pack-requires
pack-requires c = cause_within c.cause.ensures

pub returns : goal.returns
returns c =
    returning _ c.cause.ensures (cause_within c.cause.ensures) c.pack.ensures
