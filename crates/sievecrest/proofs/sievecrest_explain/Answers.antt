use Rattle.packing.proofs.Apart.{returning}
use Rattle.sievecrest.proofs.Sizes.{explain_within}
use Rattle.sievecrest.proofs.sievecrest_explain.Goals as goal

pub pack-requires : goal.pack-requires
pack-requires c = explain_within c.explain.ensures

pub returns : goal.returns
returns c =
    returning _ c.explain.ensures (explain_within c.explain.ensures) c.pack.ensures
