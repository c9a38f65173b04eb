use Rattle.packing.proofs.Apart.{returning}
use Rattle.sievecrest.proofs.Sizes.{write_within}
use Rattle.sievecrest.proofs.sievecrest_write.Goals as goal

pub pack-requires : goal.pack-requires
pack-requires c = write_within c.write.ensures

pub returns : goal.returns
returns c =
    returning _ c.write.ensures (write_within c.write.ensures) c.pack.ensures
