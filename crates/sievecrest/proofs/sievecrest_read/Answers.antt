use Rattle.packing.proofs.Apart.{returning}
use Rattle.sievecrest.proofs.Sizes.{read_within}
use Rattle.sievecrest.proofs.sievecrest_read.Goals as goal

pub pack-requires : goal.pack-requires
pack-requires c = read_within c.read.ensures

pub returns : goal.returns
returns c =
    returning _ c.read.ensures (read_within c.read.ensures) c.pack.ensures
