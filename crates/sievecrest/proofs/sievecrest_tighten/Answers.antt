use Rattle.packing.proofs.Apart.{returning}
use Rattle.sievecrest.proofs.Sizes.{tighten_within}
use Rattle.sievecrest.proofs.sievecrest_tighten.Goals as goal

pub pack-requires : goal.pack-requires
pack-requires c = tighten_within c.tighten.ensures

pub returns : goal.returns
returns c =
    returning _ c.tighten.ensures (tighten_within c.tighten.ensures) c.pack.ensures
